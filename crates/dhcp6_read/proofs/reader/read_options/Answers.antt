use Rattle.std.proofs.Common.{◌∙◌, ℕ, Ok, Err, sym, subst, arith}
use Rattle.std.proofs.lemmas.Bool.{eqb-true, eqb-false}
use Rattle.std.proofs.lemmas.Result.{err_from_is_err_and}
use Rattle.dhcp6_read.specs.Levels.{in_message}
use Rattle.dhcp6_read.specs.Steps.{TellsLeases}
use Rattle.dhcp6_read.proofs.Heads.{keeps_on, duid_end, rapid_end}
use Rattle.dhcp6_read.proofs.Rows.{begins_room}
use Rattle.dhcp6_read.proofs.Tellings.{goes_on, stops_at, overruns, ends}
use Rattle.dhcp6_read.proofs.reader.read_options.Goals as goal

pub returns-in_err-front-clause-tells : goal.returns-in_err-front-clause-tells
returns-in_err-front-clause-tells c =
    let p = err_from_is_err_and c.from_residual.result c.from_residual.ensures.1 in
    let some = eqb-false _ 0 (sym c.is_empty.ensures ∙ c.option-test.true) in
    let before = c.args.dhcp.now.leases.items in
    let leases = c.option.dhcp.leases.items in
    rw (p.1, p.2, c.in_err-front.ensures.0) (overruns (λ row_of. in_message row_of c.args.dhcp.now.kind) c.args.options.now c.option.rest.now c.option.void before leases leases c.option.invariant.goes c.in_err-front.ensures.1 (omega arith))

pub returns-in_err-voids-clause-tells : goal.returns-in_err-voids-clause-tells
returns-in_err-voids-clause-tells c =
    let p = err_from_is_err_and c.from_residual-in_err-voids.result c.from_residual-in_err-voids.ensures.1 in
    let front = c.in_ok-front.front in
    let fault = c.in_err-voids.field-0.0 in
    let leases = c.option.dhcp.leases.items in
    let after = c.read_option.new.dhcp.leases.items in
    rw (p.1, p.2) (stops_at (λ row_of. in_message row_of c.args.dhcp.now.kind) c.args.options.now c.option.rest.now front.behind.now front.content.now front.code c.option.void fault c.args.dhcp.now.leases.items leases after after c.option.invariant.goes c.in_ok-front.ensures (λ row_of gives.
    let P : ℕ → Type 0 = λ kind. TellsLeases (in_message row_of kind front.code front.content.now) (Err fault) leases after in
    subst P c.option.invariant.kind (c.in_err-voids.ensures.tells row_of gives)))

pub option-preserved : goal.option-preserved
option-preserved c =
    let front = c.in_ok-front.front in
    let told = c.in_ok-voids.ensures in
    let known = c.option.invariant in
    let room = told.room in
    let parts = begins_room c.option.rest.now front.content.now front.behind.now front.code c.in_ok-front.ensures in
    let leases = c.option.dhcp.leases.items in
    let after = c.read_option.new.dhcp.leases.items in
    record {
      room = omega arith;
      kind = told.kind ∙ known.kind;
      tid = told.tid ∙ known.tid;
      goes = goes_on (λ row_of. in_message row_of c.args.dhcp.now.kind) c.args.options.now c.option.rest.now front.behind.now front.content.now front.code c.option.void c.in_ok-voids.voids c.args.dhcp.now.leases.items leases after known.goes c.in_ok-front.ensures (λ row_of gives.
          let P : ℕ → Type 0 = λ kind. TellsLeases (in_message row_of kind front.code front.content.now) (Ok c.in_ok-voids.voids) leases after in
          subst P known.kind (told.tells row_of gives));
      keeps = keeps_on c.args.options.now c.option.rest.now front.behind.now front.content.now front.code c.args.dhcp.now.duid c.option.dhcp.duid c.read_option.new.dhcp.duid c.args.dhcp.now.rapid c.option.dhcp.rapid c.read_option.new.dhcp.rapid known.keeps c.in_ok-front.ensures told.duid told.rapid;
    }

pub returns-clause-tells : goal.returns-clause-tells
returns-clause-tells c =
    ends (λ row_of. in_message row_of c.args.dhcp.now.kind) c.args.options.now c.option.rest.now c.option.void c.args.dhcp.now.leases.items c.option.dhcp.leases.items c.option.invariant.goes (eqb-true _ 0 (sym c.is_empty.ensures ∙ c.option-test.false))

pub returns-clause-duid : goal.returns-clause-duid
returns-clause-duid c =
    duid_end c.args.options.now c.option.rest.now c.args.dhcp.now.duid c.option.dhcp.duid c.args.dhcp.now.rapid c.option.dhcp.rapid c.option.invariant.keeps (eqb-true _ 0 (sym c.is_empty.ensures ∙ c.option-test.false))

pub returns-clause-rapid : goal.returns-clause-rapid
returns-clause-rapid c =
    rapid_end c.args.options.now c.option.rest.now c.args.dhcp.now.duid c.option.dhcp.duid c.args.dhcp.now.rapid c.option.dhcp.rapid c.option.invariant.keeps (eqb-true _ 0 (sym c.is_empty.ensures ∙ c.option-test.false))
