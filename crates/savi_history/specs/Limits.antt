-- Whether a history has room for another input: 4,130 entries are kept free for drains and ends, and room for the
-- octets of the longest frame.
use Rattle.std.specs.Prelude.{◌≡◌, true, ℕ, ◌+◌, ◌<◌, nat_lt, nat_le, Bool, ◌&&◌, List, length, All}
use Rattle.savi_kinds.specs.declared.plan.Plan.{Plan}
use Rattle.hist_store.specs.Rows.{Row, held}
use Rattle.control_replies.specs.Counters.{AreCounts}
use Rattle.savi_access.specs.Rules.{IsAccessBase}
use Rattle.savi_access.specs.Plans.{rules_of}
use Rattle.checkpoint.specs.Bases.{Base, access_of}
use Rattle.checkpoint.specs.BaseLines.{HasNothingElsewhere}
use Rattle.savi_history.specs.Passes.{pass_count, has_port}
use Rattle.savi_history.specs.StationLimits.{AreStationsAt}

abbrev pub has_room : Plan → List Row → Bool
has_room plan past = nat_lt (length past + 4130) plan.entries && nat_le (held past + 1518) plan.bytes

-- a base that a history of this plan may go on from: its passes and shut ports are the plan's, its stations, states and
-- requests are within their limits, of VLANs that a port of the plan has, and its counts are numbers of 64 bits
pub record IsWithinLimits (plan : Plan) (base : Base) : Type 0 where
  pub ended : All (λ ended. ended.0 < pass_count plan) base.ended
  pub shut : All (λ number. has_port plan number ≡ true) base.shut
  pub stations : (vlan : ℕ) → AreStationsAt base.moment (base.stations vlan)
  pub access : IsAccessBase (rules_of plan) (access_of base)
  pub counts : AreCounts base.counts
  pub elsewhere : HasNothingElsewhere plan base
