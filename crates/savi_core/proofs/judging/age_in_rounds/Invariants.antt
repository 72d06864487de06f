use Rattle.std.proofs.Common.{◌≡◌, ℕ, ◌<◌, ◌≤◌, All, IfSome, List}
use Rattle.savi_access.specs.Rules.{AccessBase}
use Rattle.savi_access.specs.Marks.{Mark}
use Rattle.savi_access.specs.Plans.{rules_of}
use Rattle.addr_table.specs.Dues.{IsUndue}
use Rattle.savi_core.specs.VlanSets.{AllRepresent, AreAgedTo, IsQuietAt, IsStillAt, stations_of_sets}
use Rattle.savi_core.proofs.AgedTo.{HasAged, moments_left}
use Rattle.savi_core.proofs.judging.age_in_rounds.Given as goal

abbrev pub invariant-loop-next : goal.invariant-loop-next
invariant-loop-next l = record {
  rest : stations_of_sets l.sets ≡ stations_of_sets l.fn.sets;
  within : IfSome l.next (λ due. due ≤ l.t);
  quiet : (u : ℕ) → IsUndue l.next l.t u → All (IsQuietAt u) l.sets;
  later : IfSome l.next (λ due. (u : ℕ) → All (IsStillAt u) l.sets → u < due);
  ready : (from : ℕ) → AreAgedTo (rules_of l.plan) from l.fn.sets → (until : ℕ) × AreAgedTo (rules_of l.plan) until l.sets;
  aged : (from : ℕ) (base : AccessBase) (past : List Mark) → AreAgedTo (rules_of l.plan) from l.fn.sets → AllRepresent (rules_of l.plan) base past from l.fn.sets → from ≤ l.t → HasAged (rules_of l.plan) from l.t l.sets l.fn.queues l.queues base past;
}

abbrev pub decreases-loop-next : goal.decreases-loop-next
decreases-loop-next l = moments_left l.t l.next
