use Rattle.std.proofs.Common.{ℕ}
use Rattle.savi_access.specs.Plans.{rules_of}
use Rattle.access_table.specs.Kept.{IsAgedTo}
use Rattle.access_runs.proofs.scene.play_on.Given as goal

abbrev pub invariant-loop-line : goal.invariant-loop-line
invariant-loop-line g l = (from : ℕ) × IsAgedTo (rules_of l.plan) from l.table
