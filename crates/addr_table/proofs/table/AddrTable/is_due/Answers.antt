use Rattle.std.proofs.Common.{◌≡◌, ◌≢◌, ◌↔◌, true, false, is_some, subst, ap, ◌∙◌}
use Rattle.timer_wheel.specs.Arms.{due_within, first_armed}
use Rattle.addr_table.proofs.Firsts.{first_due}
use Rattle.addr_table.specs.Addresses.{Addresses}
use Rattle.savi_access.specs.Ages.{aged_rows}
use Rattle.addr_table.specs.OneTurn.{IsQuiet}
use Rattle.addr_table.proofs.Quiet.{quiet_by, changes_by}
use Rattle.addr_table.proofs.table.AddrTable.is_due.Goals as goal

-- the wheel's answer is that of the rows
answer : (c : goal.After-is_due) → c.is_due.result ≡ is_some (due_within c.args.t (first_due c.self.inside.times c.self.inside.table.rows))
answer c = c.is_due.ensures.value ∙ ap (λ arms. is_some (due_within c.args.t (first_armed arms))) c.self.invariant.1.arms

is_quiet : (c : goal.After-is_due) → c.is_due.result ≡ false → IsQuiet c.args.t c.args.self.now
is_quiet c not_so = subst (IsQuiet c.args.t) c.self.view_is (quiet_by c.self.inside.times c.self.invariant.0.times c.args.t c.self.inside.table.rows c.self.inside.per_port c.self.invariant.0.table c.is_due.result (answer c) not_so)

pub returns-clause-changes : goal.returns-clause-changes
returns-clause-changes c =
    let P : Addresses → Type 0 = λ table. (c.is_due.result ≡ true) ↔ (aged_rows table.times c.args.t table.rows ≢ table.rows) in
    subst P c.self.view_is (changes_by c.self.inside.times c.self.invariant.0.times c.args.t c.self.inside.table.rows c.self.invariant.0.table c.is_due.result (answer c))

pub returns-clause-unchanged : goal.returns-clause-unchanged
returns-clause-unchanged c = λ not_so. (is_quiet c not_so).aged

pub returns-clause-silent : goal.returns-clause-silent
returns-clause-silent c = λ not_so. (is_quiet c not_so).none

pub returns-clause-still : goal.returns-clause-still
returns-clause-still c = λ not_so. (is_quiet c not_so).still
