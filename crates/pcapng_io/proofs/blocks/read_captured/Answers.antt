use Rattle.std.proofs.Common.{ℕ, ◌-◌, false, [], ◌++◌, refl, subst, ◌∙◌, arith, length-append}
use Rattle.std.proofs.lemmas.List.{take-append-le}
use Rattle.std.proofs.lemmas.Result.{err_from_is_err_and}
use Rattle.savi_ends.proofs.Octets.{takes_more}
use Rattle.pcapng_io.specs.Options.{padded}
use Rattle.pcapng_io.specs.Pieces.{Stops, IsRest, IsCaptured}
use Rattle.pcapng_io.proofs.Parts.{short_stops, short_within}
use Rattle.pcapng_io.proofs.Packets.{captured_least, captured_stops}
use Rattle.pcapng_io.proofs.blocks.read_captured.Goals as goal

pub returns-in_err-take_captured-clause-octets : goal.returns-in_err-take_captured-clause-octets
returns-in_err-take_captured-clause-octets g c =
    let p = err_from_is_err_and c.from_residual.result c.from_residual.ensures.1 in
    let body = c.in_err-take_captured.ensures.octets in
    let left = g.S.Source.left c.take_captured.new.source in
    let why = c.in_err-take_captured.field-0.0 in
    let len = c.args.len in (
      body.0,
      body.1,
      rw (p.1, p.2) (
        short_stops (IsCaptured c.args.order len c.args.total) (padded len) body.0 why left (captured_least c.args.order len c.args.total) body.2,
        short_within (padded len) (c.args.total - 28) [] body.0 why left body.2 (omega (arith, c.requires.fits)),
      ),
    )

pub returns-in_err-read_rest-clause-octets : goal.returns-in_err-read_rest-clause-octets
returns-in_err-read_rest-clause-octets g c =
    let p = err_from_is_err_and c.from_residual-in_err-read_rest.result c.from_residual-in_err-read_rest.ensures.1 in
    let body = c.in_ok-take_captured.ensures.octets in
    let rest = c.in_err-read_rest.ensures.octets in
    let left = g.S.Source.left c.read_rest.new.source in
    let why = c.in_err-read_rest.field-0.0 in
    let len = c.args.len in
    let total = c.args.total in
    let stops : Stops (λ x. (units : ℕ) × IsRest c.args.order false (total - 28 - 4 - padded len) total units x) why rest.0 left =
    subst (λ (n : ℕ). Stops (λ x. (units : ℕ) × IsRest c.args.order false (total - 28 - 4 - n) total units x) why rest.0 left) c.padded_len.ensures rest.2.0 in (
      body.0 ++ rest.0,
      takes_more body.0 rest.0 _ _ _ body.1 rest.1,
      rw (p.1, p.2) (captured_stops c.args.order len total body.0 rest.0 why left body.2.0 stops, omega (arith, body.2.0, rest.2.1, c.padded_len.ensures, c.requires.fits, length-append body.0 rest.0)),
    )

pub returns-clause-octets : goal.returns-clause-octets
returns-clause-octets g c =
    let body = c.in_ok-take_captured.ensures.octets in
    let rest = c.in_ok-read_rest.ensures.octets in
    let len = c.args.len in
    let total = c.args.total in
    let units = c.in_ok-read_rest.field-0 in
    let is : IsRest c.args.order false (total - 28 - 4 - padded len) total units rest.0 =
    subst (λ (n : ℕ). IsRest c.args.order false (total - 28 - 4 - n) total units rest.0) c.padded_len.ensures rest.2 in (
      body.0 ++ rest.0,
      takes_more body.0 rest.0 _ _ _ body.1 rest.1,
      (
        (body.0, rest.0, units, refl, body.2.0, is),
        λ short. take-append-le len body.0 rest.0 (omega (arith, body.2.0)) ∙ body.2.1 short,
      ),
    )
