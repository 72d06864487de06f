-- How much may still come to a history without an input: what waits, and the ends of the passes that haven't ended.
use Rattle.std.specs.Prelude.{ℕ, zero, suc, ◌+◌, if◌then◌else◌, List, [], ◌∷◌, length}
use Rattle.savi_kinds.specs.declared.plan.Plan.{Plan}
use Rattle.savi_kinds.specs.ValidPlan.{numbers_of}
use Rattle.hist_store.specs.Rows.{Row}
use Rattle.checkpoint.specs.Bases.{Base}
use Rattle.savi_history.specs.Passes.{has_ended, pass_count}
use Rattle.savi_history.specs.Queues.{queue}

-- how many of the passes below a number haven't ended
abbrev pub open_below : Base → List Row → ℕ → ℕ
open_below base past zero = 0
open_below base past (suc n) = open_below base past n + (if has_ended base n past then 0 else 1)

-- how many items wait at these ports
abbrev pub count_waiting : Plan → Base → List Row → List ℕ → ℕ
count_waiting plan base past [] = 0
count_waiting plan base past (n ∷ ns) = length (queue plan base n past) + count_waiting plan base past ns

abbrev pub still_to_come : Plan → Base → List Row → ℕ
still_to_come plan base past = count_waiting plan base past (numbers_of plan.ports) + open_below base past (pass_count plan)
