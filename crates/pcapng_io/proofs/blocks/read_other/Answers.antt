use Rattle.std.proofs.Common.{◌≡◌, ℕ, ◌-◌, [], ◌++◌, length, sym, subst, ◌∙◌, arith, length-append}
use Rattle.std.proofs.lemmas.Result.{err_from_is_err_and}
use Rattle.savi_ends.proofs.Octets.{takes_more}
use Rattle.pcap_io.specs.Numbers.{number_at}
use Rattle.pcap_io.proofs.CallsJoined.{takes_none}
use Rattle.pcapng_io.specs.Blocks.{IsTotal}
use Rattle.pcapng_io.specs.Pieces.{Stops, FallsShort, IsTail}
use Rattle.pcapng_io.specs.ReaderStates.{standing_of}
use Rattle.pcapng_io.proofs.Parts.{short_within}
use Rattle.pcapng_io.proofs.Others.{OtherHead, other_wrong, other_short, other_stops, other_read}
use Rattle.pcapng_io.proofs.blocks.read_other.Goals as goal

pub returns-then-not-is_total-clause-octets : goal.returns-then-not-is_total-clause-octets
returns-then-not-is_total-clause-octets g c =
    let s = standing_of c.args.position.now in
    let head = c.args.head.now in
    let head_size : length head ≡ 8 = c.told-head in
    let h : OtherHead s c.args.order head = record { size = head_size; here = c.requires.order_is; no_section = c.requires.no_section; no_interface = c.requires.no_interface; no_packet = c.requires.no_packet } in (
      [],
      takes_none (g.S.Source.left c.args.source.now),
      (
        other_wrong s c.args.order head (g.S.Source.left c.args.source.now) h
            (λ total.
            let total' : IsTotal s.place 12 c.number_at-total.result = subst (λ (n : ℕ). IsTotal s.place 12 n) (sym c.number_at-total.ensures) total in
            cc (c.is_total.ensures.1 total', c.if-not-is_total.true)),
        omega arith,
      ),
    )

pub returns-in_err-pass_over-clause-octets : goal.returns-in_err-pass_over-clause-octets
returns-in_err-pass_over-clause-octets g c =
    let p = err_from_is_err_and c.from_residual.result c.from_residual.ensures.1 in
    let s = standing_of c.args.position.now in
    let head = c.args.head.now in
    let head_size : length head ≡ 8 = c.told-head in
    let h : OtherHead s c.args.order head = record { size = head_size; here = c.requires.order_is; no_section = c.requires.no_section; no_interface = c.requires.no_interface; no_packet = c.requires.no_packet } in
    let took = c.in_err-pass_over.ensures.octets in
    let left = g.S.Source.left c.pass_over.new.source in
    let why = c.in_err-pass_over.field-0.0 in
    let total : IsTotal s.place 12 (number_at c.args.order 4 head) = subst (λ (n : ℕ). IsTotal s.place 12 n) c.number_at-total.ensures (c.is_total.ensures.0 (cc (c.if-not-is_total.false))) in
    let short : FallsShort (number_at c.args.order 4 head - 8 - 4) why took.0 left = subst (λ (n : ℕ). FallsShort (n - 8 - 4) why took.0 left) c.number_at-total.ensures took.2 in
    (took.0, took.1, rw (p.1, p.2) (other_short s c.args.order head took.0 why left h total short, short_within (number_at c.args.order 4 head - 8 - 4) 1048568 [] took.0 why left short (omega (arith, total.bounded))))

pub returns-in_err-read_tail-clause-octets : goal.returns-in_err-read_tail-clause-octets
returns-in_err-read_tail-clause-octets g c =
    let p = err_from_is_err_and c.from_residual-in_err-read_tail.result c.from_residual-in_err-read_tail.ensures.1 in
    let s = standing_of c.args.position.now in
    let head = c.args.head.now in
    let head_size : length head ≡ 8 = c.told-head in
    let h : OtherHead s c.args.order head = record { size = head_size; here = c.requires.order_is; no_section = c.requires.no_section; no_interface = c.requires.no_interface; no_packet = c.requires.no_packet } in
    let body = c.in_ok-pass_over.ensures.octets in
    let tail = c.in_err-read_tail.ensures.octets in
    let left = g.S.Source.left c.read_tail.new.source in
    let why = c.in_err-read_tail.field-0.0 in
    let total : IsTotal s.place 12 (number_at c.args.order 4 head) = subst (λ (n : ℕ). IsTotal s.place 12 n) c.number_at-total.ensures (c.is_total.ensures.0 (cc (c.if-not-is_total.false))) in
    let size : length body.0 ≡ number_at c.args.order 4 head - 8 - 4 = omega (arith, body.2, c.number_at-total.ensures) in
    let stops : Stops (IsTail c.args.order (number_at c.args.order 4 head)) why tail.0 left = subst (λ (n : ℕ). Stops (IsTail c.args.order n) why tail.0 left) c.number_at-total.ensures tail.2.0 in
    (body.0 ++ tail.0, takes_more body.0 tail.0 _ _ _ body.1 tail.1, rw (p.1, p.2) (other_stops s c.args.order head body.0 tail.0 why left h total size stops, omega (arith, size, tail.2.1, total.bounded, length-append body.0 tail.0)))

pub returns-clause-octets : goal.returns-clause-octets
returns-clause-octets g c =
    let s = standing_of c.args.position.now in
    let head = c.args.head.now in
    let head_size : length head ≡ 8 = c.told-head in
    let h : OtherHead s c.args.order head = record { size = head_size; here = c.requires.order_is; no_section = c.requires.no_section; no_interface = c.requires.no_interface; no_packet = c.requires.no_packet } in
    let body = c.in_ok-pass_over.ensures.octets in
    let tail = c.in_ok-read_tail.ensures.octets in
    let total : IsTotal s.place 12 (number_at c.args.order 4 head) = subst (λ (n : ℕ). IsTotal s.place 12 n) c.number_at-total.ensures (c.is_total.ensures.0 (cc (c.if-not-is_total.false))) in
    let size : length body.0 ≡ number_at c.args.order 4 head - 8 - 4 = omega (arith, body.2, c.number_at-total.ensures) in
    let is : IsTail c.args.order (number_at c.args.order 4 head) tail.0 = subst (λ (n : ℕ). IsTail c.args.order n tail.0) c.number_at-total.ensures tail.2 in
    let read = other_read s c.args.order head body.0 tail.0 h total size is in
    (body.0 ++ tail.0, takes_more body.0 tail.0 _ _ _ body.1 tail.1, λ held. (read.0, read.1 ∙ sym c.number_at-total.ensures))
