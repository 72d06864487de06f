use Rattle.std.proofs.Common.{[], sym, ◌∙◌, arith}
use Rattle.std.proofs.lemmas.Bool.{eqb-true, eqb-false}
use Rattle.std.proofs.lemmas.Result.{err_from_is_err_and}
use Rattle.dhcp6_read.specs.Levels.{in_address}
use Rattle.dhcp6_read.proofs.Tellings.{starts, goes_on, stops_at, overruns, ends}
use Rattle.dhcp6_read.proofs.lease.read_address_options.Goals as goal

pub option-init : goal.option-init
option-init c = starts (λ row_of. in_address c.args.kind) c.args.options.now []

pub returns-in_err-front : goal.returns-in_err-front
returns-in_err-front c =
    let p = err_from_is_err_and c.from_residual.result c.from_residual.ensures.1 in
    let some = eqb-false _ 0 (sym c.is_empty.ensures ∙ c.option-test.true) in
    rw (p.1, p.2, c.in_err-front.ensures.0) (overruns (λ row_of. in_address c.args.kind) c.args.options.now c.option.rest.now c.option.void [] [] [] c.option.invariant c.in_err-front.ensures.1 (omega arith))

pub returns-in_err-voids : goal.returns-in_err-voids
returns-in_err-voids c =
    let p = err_from_is_err_and c.from_residual-in_err-voids.result c.from_residual-in_err-voids.ensures.1 in
    rw (p.1, p.2) (stops_at (λ row_of. in_address c.args.kind) c.args.options.now c.option.rest.now c.in_ok-front.front.behind.now c.in_ok-front.front.content.now c.in_ok-front.front.code c.option.void c.in_err-voids.field-0.0 [] [] [] [] c.option.invariant c.in_ok-front.ensures (λ row_of gives. c.in_err-voids.ensures))

pub option-preserved : goal.option-preserved
option-preserved c =
    goes_on (λ row_of. in_address c.args.kind) c.args.options.now c.option.rest.now c.in_ok-front.front.behind.now c.in_ok-front.front.content.now c.in_ok-front.front.code c.option.void c.in_ok-voids.voids [] [] [] c.option.invariant c.in_ok-front.ensures (λ row_of gives. c.in_ok-voids.ensures)

pub returns : goal.returns
returns c =
    ends (λ row_of. in_address c.args.kind) c.args.options.now c.option.rest.now c.option.void [] [] c.option.invariant (eqb-true _ 0 (sym c.is_empty.ensures ∙ c.option-test.false))
