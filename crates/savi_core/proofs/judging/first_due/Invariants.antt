use Rattle.std.proofs.Common.{◌≡◌, ℕ, ◌<◌, ◌≤◌, All, IfSome, drop}
use Rattle.mix_rules.specs.Ageing.{sooner_moment}
use Rattle.addr_table.specs.Dues.{IsUndue, due_until}
use Rattle.savi_core.specs.VlanSets.{IsQuietAt, IsStillAt, first_due_of}
use Rattle.savi_core.proofs.SetLoops.{AllBefore}
use Rattle.savi_core.proofs.judging.first_due.Given as goal

abbrev pub invariant-loop-place : goal.invariant-loop-place
invariant-loop-place l = record {
  same : l.sets ≡ l.initial.sets;
  within : IfSome l.first (λ due. due ≤ l.t);
  due : sooner_moment l.first (due_until l.t (first_due_of (drop l.place l.initial.sets))) ≡ due_until l.t (first_due_of l.initial.sets);
  quiet : (u : ℕ) → IsUndue l.first l.t u → AllBefore (IsQuietAt u) l.place l.initial.sets;
  later : IfSome l.first (λ due. (u : ℕ) → All (IsStillAt u) l.initial.sets → u < due);
}
