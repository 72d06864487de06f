-- What a core keeps, and how it stands with its history.
use Rattle.std.specs.Prelude.{◌≡◌, ℕ, ◌+◌, ◌<◌, ◌≤◌, Bool, true, false, List, length, reverse, slice_index_or}
use Rattle.savi_kinds.specs.declared.plan.Plan.{Plan}
use Rattle.savi_kinds.specs.declared.port.PortSet.{PortSet}
use Rattle.savi_kinds.specs.ValidPlan.{IsValidPlan}
use Rattle.egress_ring.specs.declared.item.Item.{Item as Queued}
use Rattle.hist_store.specs.Rows.{Row, held}
use Rattle.checkpoint.specs.Bases.{Base}
use Rattle.savi_history.specs.Limits.{IsWithinLimits}
use Rattle.savi_history.specs.Moments.{last_moment}
use Rattle.savi_history.specs.Passes.{has_ended, has_port, pass_count}
use Rattle.savi_history.specs.ShutPorts.{is_shut}
use Rattle.savi_history.specs.Legal.{IsLegal}
use Rattle.savi_core.specs.Lanes.{Lane, lane_of}
use Rattle.savi_core.specs.Waits.{Show}
use Rattle.savi_core.specs.Rings.{shut_in}
use Rattle.savi_core.specs.Counts.{still_to_come}

-- the plan, what its history goes on from, the rows with the oldest first, the moment of the last one, which passes have
-- ended, which ports are shut, and the queues
pub record CoreState : Type 0 where
  pub plan : Plan
  pub base : Base
  pub rows : List Row
  pub moment : ℕ
  pub ended : List Bool
  pub shut : PortSet
  pub lanes : List (Lane Queued)

pub record Remembers (k : CoreState) : Type 0 where
  pub valid : IsValidPlan k.plan
  pub within : IsWithinLimits k.plan k.base
  pub legal : IsLegal k.plan k.base (reverse k.rows)
  pub last : k.moment ≡ last_moment k.base (reverse k.rows)
  pub passes : (pass : ℕ) → pass < pass_count k.plan → slice_index_or k.ended pass false ≡ has_ended k.base pass (reverse k.rows)
  pub marks : length k.ended ≡ 34
  pub shut_ports : shut_in k.shut ≡ (λ number. is_shut k.plan k.base number (reverse k.rows))
  -- only ports of the plan are shut
  pub shut_inside : (number : ℕ) → shut_in k.shut number ≡ true → has_port k.plan number ≡ true
  pub queues : Show k.plan k.rows k.lanes (lane_of k.plan k.base (reverse k.rows))
  pub octets : held k.rows ≤ k.plan.bytes
  -- a drain or an end always fits
  pub room : k.plan.entries < length k.rows + 4130 → length k.rows + still_to_come k.plan k.base (reverse k.rows) ≤ k.plan.entries
