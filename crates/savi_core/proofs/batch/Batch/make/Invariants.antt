use Rattle.std.proofs.Common.{◌-◌, ◌≤◌, vec_len}
use Rattle.savi_core.proofs.batch.Batch.make.Given as goal

abbrev pub invariant-loop-slots : goal.invariant-loop-slots
invariant-loop-slots l = vec_len l.slots ≤ 256

abbrev pub decreases-loop-slots : goal.decreases-loop-slots
decreases-loop-slots l = 256 - vec_len l.slots
