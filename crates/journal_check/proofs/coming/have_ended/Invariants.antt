use Rattle.std.proofs.Common.{◌≡◌, ◌+◌, ◌<◌, ℕ, true, length}
use Rattle.savi_history.specs.Passes.{has_ended}
use Rattle.savi_core.specs.Machines.{base_of}
use Rattle.journal_check.proofs.coming.have_ended.Given as goal

-- the egress of each port before the loop's has ended
abbrev pub invariant-loop-port : goal.invariant-loop-port
invariant-loop-port l = (place : ℕ) → place < l.port-index → has_ended (base_of l.core) (length l.core.plan.ports + 2 + place) l.core.past ≡ true
