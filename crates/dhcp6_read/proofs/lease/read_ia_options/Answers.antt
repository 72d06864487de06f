use Rattle.std.proofs.Common.{sym, ◌∙◌, arith}
use Rattle.std.proofs.lemmas.Bool.{eqb-true, eqb-false}
use Rattle.std.proofs.lemmas.Result.{err_from_is_err_and}
use Rattle.dhcp6_read.specs.Levels.{in_ia}
use Rattle.dhcp6_read.proofs.Rows.{begins_room}
use Rattle.dhcp6_read.proofs.Tellings.{goes_on, stops_at, overruns, ends}
use Rattle.dhcp6_read.proofs.lease.read_ia_options.Goals as goal

pub returns-in_err-front-clause-tells : goal.returns-in_err-front-clause-tells
returns-in_err-front-clause-tells c =
    let p = err_from_is_err_and c.from_residual.result c.from_residual.ensures.1 in
    let some = eqb-false _ 0 (sym c.is_empty.ensures ∙ c.option-test.true) in
    let before = c.args.leases.now.items in
    let leases = c.option.leases.items in
    rw (p.1, p.2, c.in_err-front.ensures.0) (overruns (λ row_of. in_ia row_of c.args.kind) c.args.options.now c.option.rest.now c.option.void before leases leases c.option.invariant.goes c.in_err-front.ensures.1 (omega arith))

pub returns-in_err-voids-clause-tells : goal.returns-in_err-voids-clause-tells
returns-in_err-voids-clause-tells c =
    let p = err_from_is_err_and c.from_residual-in_err-voids.result c.from_residual-in_err-voids.ensures.1 in
    let front = c.in_ok-front.front in
    let after = c.read_in_ia.new.leases.items in
    rw (p.1, p.2) (stops_at (λ row_of. in_ia row_of c.args.kind) c.args.options.now c.option.rest.now front.behind.now front.content.now front.code c.option.void c.in_err-voids.field-0.0 c.args.leases.now.items c.option.leases.items after after c.option.invariant.goes c.in_ok-front.ensures c.in_err-voids.ensures.tells)

pub option-preserved : goal.option-preserved
option-preserved c =
    let front = c.in_ok-front.front in
    let room = c.in_ok-voids.ensures.room in
    let parts = begins_room c.option.rest.now front.content.now front.behind.now front.code c.in_ok-front.ensures in
    record {
      room = omega arith;
      goes = goes_on (λ row_of. in_ia row_of c.args.kind) c.args.options.now c.option.rest.now front.behind.now front.content.now front.code c.option.void c.in_ok-voids.voids c.args.leases.now.items c.option.leases.items c.read_in_ia.new.leases.items c.option.invariant.goes c.in_ok-front.ensures c.in_ok-voids.ensures.tells;
    }

pub returns-clause-tells : goal.returns-clause-tells
returns-clause-tells c =
    ends (λ row_of. in_ia row_of c.args.kind) c.args.options.now c.option.rest.now c.option.void c.args.leases.now.items c.option.leases.items c.option.invariant.goes (eqb-true _ 0 (sym c.is_empty.ensures ∙ c.option-test.false))
