use Rattle.std.proofs.Common.{◌≡◌}
use Rattle.savi_core.specs.VlanSets.{IsQuietAt}
use Rattle.savi_core.proofs.SetLoops.{AllBefore}
use Rattle.savi_core.proofs.judging.is_due.Given as goal

abbrev pub invariant-loop-place : goal.invariant-loop-place
invariant-loop-place l = record {
  same : l.sets ≡ l.initial.sets;
  quiet : AllBefore (IsQuietAt l.t) l.place l.initial.sets;
}
