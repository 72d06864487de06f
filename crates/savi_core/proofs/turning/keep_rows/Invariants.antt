use Rattle.std.proofs.Common.{◌≡◌, take}
use Rattle.savi_core.specs.VlanSets.{of_sets}
use Rattle.savi_core.specs.Turns.{with_rows}
use Rattle.savi_core.proofs.turning.keep_rows.Given as goal

abbrev pub invariant-loop-set : goal.invariant-loop-set
invariant-loop-set l = l.into ≡ with_rows (of_sets (λ set. set.access.addresses.rows) (take l.set-index l.sets)) l.fn.into
