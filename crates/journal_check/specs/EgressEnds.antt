-- Whether the egress of each port has ended.
use Rattle.std.specs.Prelude.{◌≡◌, ℕ, ◌+◌, ◌<◌, true, List, length}
use Rattle.savi_kinds.specs.declared.plan.Plan.{Plan}
use Rattle.hist_store.specs.Rows.{Row}
use Rattle.checkpoint.specs.Bases.{Base}
use Rattle.savi_history.specs.Passes.{has_ended}

abbrev pub HaveEgressEnded : Plan → Base → List Row → Type 0
HaveEgressEnded plan base past = (place : ℕ) → place < length plan.ports → has_ended base (length plan.ports + 2 + place) past ≡ true
