use Rattle.std.proofs.Common.{◌≡◌, ℕ, ◌<◌, None, Some, Option, sym, ap, refl, ◌∙◌, subst}
use Rattle.savi_kinds.specs.declared.address.Addr.{Addr}
use Rattle.savi_access.specs.Ages.{AllStill}
use Rattle.timer_wheel.specs.Arms.{due_within}
use Rattle.addr_table.specs.Addresses.{Addresses}
use Rattle.addr_table.specs.Dues.{IsUndue, first_due, due_until}
use Rattle.addr_table.specs.OneTurn.{IsQuiet}
use Rattle.addr_table.proofs.Firsts as firsts
use Rattle.addr_table.proofs.Firsts.{asked, moment_asked}
use Rattle.addr_table.proofs.Quiet.{later_than, quiet_undue}
use Rattle.addr_table.proofs.table.AddrTable.first_due.Goals as goal

pub returns-in_err-first-clause-due : goal.returns-in_err-first-clause-due
returns-in_err-first-clause-due c =
    c.from_residual.ensures
    ∙ sym
    (ap (λ (all : Addresses). due_until c.args.t (first_due all.times all.rows)) (sym c.self.view_is)
    ∙ asked c.self.inside.times c.args.t c.self.inside.table.rows c.self.inside.wheel.arms c.self.invariant.1.arms None c.in_err-first.ensures.value)

pub returns-in_err-first-clause-quiet : goal.returns-in_err-first-clause-quiet
returns-in_err-first-clause-quiet c = λ u undue.
    let k = c.self.inside.times in
    let rows = c.self.inside.table.rows in
    subst (IsQuiet u) c.self.view_is
    (quiet_undue k c.self.invariant.0.times c.args.t u rows c.self.inside.per_port c.self.invariant.0.table c.from_residual.result
    (c.from_residual.ensures ∙ moment_asked k c.args.t rows c.self.inside.wheel.arms c.self.invariant.1.arms None c.in_err-first.ensures.value) undue)

pub returns-clause-due : goal.returns-clause-due
returns-clause-due c =
    sym
    (ap (λ (all : Addresses). due_until c.args.t (first_due all.times all.rows)) (sym c.self.view_is)
    ∙ asked c.self.inside.times c.args.t c.self.inside.table.rows c.self.inside.wheel.arms c.self.invariant.1.arms (Some c.in_ok-first.first) c.in_ok-first.ensures.value)

pub returns-clause-quiet : goal.returns-clause-quiet
returns-clause-quiet c = λ u undue.
    let k = c.self.inside.times in
    let rows = c.self.inside.table.rows in
    subst (IsQuiet u) c.self.view_is
    (quiet_undue k c.self.invariant.0.times c.args.t u rows c.self.inside.per_port c.self.invariant.0.table (Some c.in_ok-first.first.0)
    (moment_asked k c.args.t rows c.self.inside.wheel.arms c.self.invariant.1.arms (Some c.in_ok-first.first) c.in_ok-first.ensures.value) undue)

pub returns-clause-later : goal.returns-clause-later
returns-clause-later c = λ u still.
    let k = c.self.inside.times in
    let rows = c.self.inside.table.rows in
    later_than k c.self.invariant.0.times c.args.t u rows c.self.invariant.0.table (subst (λ (all : Addresses). AllStill all.times u all.rows) (sym c.self.view_is) still) (firsts.first_due k rows) refl c.in_ok-first.first.0
    (sym (moment_asked k c.args.t rows c.self.inside.wheel.arms c.self.invariant.1.arms (Some c.in_ok-first.first) c.in_ok-first.ensures.value))
