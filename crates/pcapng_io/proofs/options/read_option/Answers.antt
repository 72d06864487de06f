use Rattle.std.proofs.Common.{◌≡◌, ◌≢◌, ◌+◌, ◌-◌, IsTrue, ◌++◌, length, ap, ◌∙◌, arith, length-append, ℕ, subst, []}
use Rattle.std.proofs.lemmas.Result.{err_from_is_err_and}
use Rattle.savi_ends.proofs.Octets.{takes_more}
use Rattle.pcap_io.proofs.CallsJoined.{takes_whole}
use Rattle.pcapng_io.specs.Numbers.{half_at}
use Rattle.pcapng_io.specs.Options.{padded}
use Rattle.pcapng_io.specs.Pieces.{FallsShort, AreFront}
use Rattle.pcapng_io.proofs.Fronts.{half_front}
use Rattle.pcapng_io.proofs.Parts.{short_stops, short_behind, short_within}
use Rattle.pcapng_io.proofs.OptionParts.{option_too_long, option_no_resolution, option_read, option_resolution_read}
use Rattle.pcapng_io.proofs.options.read_option.Goals as goal
use Rattle.pcapng_io.proofs.options.read_option.Goals.{else-is_interface-via-then-is_interface+else-code-eq-RESOLUTION, else-is_interface-via-else-is_interface}

pub returns-in_err-take-clause-octets : goal.returns-in_err-take-clause-octets
returns-in_err-take-clause-octets g c =
    let p = err_from_is_err_and c.from_residual.result c.from_residual.ensures.1 in
    let took = c.in_err-take.ensures.octets in
    let room : length c.take.new.buf ≡ 4 = omega (arith, c.take.auto.buf) in
    let left = g.S.Source.left c.take.new.source in
    let short : FallsShort 4 c.in_err-take.field-0.0 took.0 left = subst (λ (n : ℕ). FallsShort n c.in_err-take.field-0.0 took.0 left) room took.2 in (
      took.0,
      took.1,
      rw (p.1, p.2) (
        short_stops (AreFront c.args.order c.args.is_interface c.args.len) 4 took.0 c.in_err-take.field-0.0 left (λ first is. omega (arith, is.0, c.requires.least)) short,
        short_within 4 c.args.len [] took.0 c.in_err-take.field-0.0 left short c.requires.least,
      ),
    )

pub returns-in_err-pass_over-clause-octets : goal.returns-in_err-pass_over-clause-octets
returns-in_err-pass_over-clause-octets g c =
    let p = err_from_is_err_and c.from_residual-in_err-pass_over.result c.from_residual-in_err-pass_over.ensures.1 in
    let took = c.in_ok-take.ensures.octets in
    let head = c.take.new.buf in
    let size : length head ≡ 4 = omega (arith, c.take.auto.buf) in
    let body = c.in_err-pass_over.ensures.octets in
    let left = g.S.Source.left c.pass_over.new.source in (
      head ++ body.0,
      takes_more head body.0 _ _ _ (takes_whole _ _ took.0 head took.1 took.2) body.1,
      rw (p.1, p.2) (
        short_stops (AreFront c.args.order c.args.is_interface c.args.len) (length head + (c.args.len - 4)) (head ++ body.0) c.in_err-pass_over.field-0.0 left
            (λ first front. omega (arith, size, front.0, c.requires.least))
            (short_behind (c.args.len - 4) head body.0 c.in_err-pass_over.field-0.0 left body.2),
        short_within (c.args.len - 4) c.args.len head body.0 c.in_err-pass_over.field-0.0 left body.2 (omega (arith, size, c.requires.least)),
      ),
    )

pub returns-then-code-eq-END_OF_OPTIONS-clause-octets : goal.returns-then-code-eq-END_OF_OPTIONS-clause-octets
returns-then-code-eq-END_OF_OPTIONS-clause-octets g c =
    let took = c.in_ok-take.ensures.octets in
    let head = c.take.new.buf in
    let size : length head ≡ 4 = omega (arith, c.take.auto.buf) in
    let body = c.in_ok-pass_over.ensures.octets in (
      head ++ body.0,
      takes_more head body.0 _ _ _ (takes_whole _ _ took.0 head took.1 took.2) body.1,
      (
        omega (arith, size, body.2, c.requires.least, length-append head body.0),
        c.requires.least,
        half_front c.args.order 0 head body.0 (omega (arith, size)) ∙ omega (arith, c.half_at-code.ensures, c.if-code-eq-END_OF_OPTIONS.true),
      ),
    )

pub returns-then-size-len-clause-octets : goal.returns-then-size-len-clause-octets
returns-then-size-len-clause-octets g c =
    let took = c.in_ok-take.ensures.octets in
    let head = c.take.new.buf in
    let size : length head ≡ 4 = omega (arith, c.take.auto.buf) in
    let named : c.from-value_len.result ≡ half_at c.args.order 2 head = omega (arith, c.from-value_len.ensures, c.half_at.ensures) in (
      head,
      takes_whole _ _ took.0 head took.1 took.2,
      (
        option_too_long c.args.order c.args.is_interface c.args.len head (g.S.Source.left c.take.new.source) size c.requires.least
            (omega (arith, c.half_at-code.ensures, c.if-code-eq-END_OF_OPTIONS.false))
            (omega (arith, ap padded named, c.padded_len-size.ensures, c.if-size-len.true)),
        omega (arith, size, c.requires.least),
      ),
    )

pub returns-in_err-units-clause-octets : goal.returns-in_err-units-clause-octets
returns-in_err-units-clause-octets g c =
    let p = err_from_is_err_and c.from_residual-in_err-units.result c.from_residual-in_err-units.ensures.1 in
    let took = c.in_ok-take.ensures.octets in
    let head = c.take.new.buf in
    let size : length head ≡ 4 = omega (arith, c.take.auto.buf) in
    let body = c.in_err-units.ensures.octets in (
      head ++ body.0,
      takes_more head body.0 _ _ _ (takes_whole _ _ took.0 head took.1 took.2) body.1,
      rw (p.1, p.2) (
        option_no_resolution c.args.order c.args.is_interface c.args.len c.from-value_len.result head body.0 c.in_err-units.field-0.0 (g.S.Source.left c.read_resolution.new.source) size c.requires.least
            c.if-is_interface.true
            (omega (arith, c.half_at-code.ensures, c.if-code-eq-RESOLUTION.true))
            (omega (arith, c.from-value_len.ensures, c.half_at.ensures))
            body.2.0,
        omega (arith, size, body.2.1, c.padded_len-size.ensures, c.if-size-len.false, length-append head body.0),
      ),
    )

pub returns-then-code-eq-RESOLUTION-clause-octets : goal.returns-then-code-eq-RESOLUTION-clause-octets
returns-then-code-eq-RESOLUTION-clause-octets g c =
    let took = c.in_ok-take.ensures.octets in
    let head = c.take.new.buf in
    let size : length head ≡ 4 = omega (arith, c.take.auto.buf) in
    let body = c.in_ok-units.ensures.octets in (
      head ++ body.0,
      takes_more head body.0 _ _ _ (takes_whole _ _ took.0 head took.1 took.2) body.1,
      option_resolution_read c.args.order c.args.is_interface c.args.len c.from-value_len.result (4 + c.padded_len-size.result) c.args.units c.in_ok-units.units head body.0 size
          (omega (arith, c.half_at-code.ensures, c.if-code-eq-RESOLUTION.true))
          (omega (arith, c.from-value_len.ensures, c.half_at.ensures))
          (omega (arith, c.padded_len-size.ensures))
          c.if-size-len.false
          body.2,
    )

pub returns-in_err-pass_over-2-clause-octets : goal.returns-in_err-pass_over-2-clause-octets
returns-in_err-pass_over-2-clause-octets g c =
    let p = err_from_is_err_and c.from_residual-in_err-pass_over-2.result c.from_residual-in_err-pass_over-2.ensures.1 in
    let took = c.in_ok-take.ensures.octets in
    let head = c.take.new.buf in
    let size : length head ≡ 4 = omega (arith, c.take.auto.buf) in
    let body = c.in_err-pass_over-2.ensures.octets in
    let left = g.S.Source.left c.pass_over-2.new.source in
    let len = (4 + c.padded_len-size.result) - 4 in (
      head ++ body.0,
      takes_more head body.0 _ _ _ (takes_whole _ _ took.0 head took.1 took.2) body.1,
      rw (p.1, p.2) (
        short_stops (AreFront c.args.order c.args.is_interface c.args.len) (length head + len) (head ++ body.0) c.in_err-pass_over-2.field-0.0 left
            (λ first front. omega (arith, size, front.0, c.if-size-len.false))
            (short_behind len head body.0 c.in_err-pass_over-2.field-0.0 left body.2),
        short_within len c.args.len head body.0 c.in_err-pass_over-2.field-0.0 left body.2 (omega (arith, size, c.if-size-len.false)),
      ),
    )

pub returns-clause-octets : goal.returns-clause-octets
returns-clause-octets g c =
    let took = c.in_ok-take.ensures.octets in
    let head = c.take.new.buf in
    let size : length head ≡ 4 = omega (arith, c.take.auto.buf) in
    let body = c.in_ok-pass_over-2.ensures.octets in
    let named : c.from-value_len.result ≡ half_at c.args.order 2 head = omega (arith, c.from-value_len.ensures, c.half_at.ensures) in
    let other : IsTrue c.args.is_interface → half_at c.args.order 0 head ≢ 9 = λ is nine. elim c.else-is_interface.branch [
      | else-is_interface-via-then-is_interface+else-code-eq-RESOLUTION w ↦ absurd (omega (arith, nine, c.half_at-code.ensures, w.if-code-eq-RESOLUTION.false))
      | else-is_interface-via-else-is_interface w ↦ cc (is, w.if-is_interface.false)
    ] in (
      head ++ body.0,
      takes_more head body.0 _ _ _ (takes_whole _ _ took.0 head took.1 took.2) body.1,
      option_read c.args.order c.args.is_interface c.args.len (4 + c.padded_len-size.result) c.args.units head body.0 size
          (omega (arith, c.half_at-code.ensures, c.if-code-eq-END_OF_OPTIONS.false))
          (omega (arith, body.2, c.padded_len-size.ensures, ap padded named))
          (omega (arith, c.padded_len-size.ensures, ap padded named))
          c.if-size-len.false
          other,
    )
