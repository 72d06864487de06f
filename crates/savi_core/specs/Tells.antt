-- How the states of addresses and the open requests that a core keeps of its VLANs, and their stations, stand with its
-- history.
use Rattle.std.specs.Prelude.{◌≡◌, ℕ, List, All}
use Rattle.savi_kinds.specs.declared.plan.Plan.{Plan}
use Rattle.savi_kinds.specs.Vlans.{vlans_of}
use Rattle.hist_store.specs.Rows.{Row}
use Rattle.savi_access.specs.Plans.{rules_of}
use Rattle.access_table.specs.Kept.{Kept, Represents, IsAgedTo}
use Rattle.checkpoint.specs.Bases.{Base, access_of}
use Rattle.savi_history.specs.Marks.{marks}
use Rattle.savi_core.specs.declared.vlan_set.VlanSet.{VlanSet}
use Rattle.savi_core.specs.VlanSets.{vlans_of_sets}
use Rattle.savi_core.specs.Knows.{Knows}

-- those of a VLAN are what all that was told in the history leaves there at this moment
pub record Tells (plan : Plan) (base : Base) (past : List Row) (moment : ℕ) (kept : Kept) : Type 0 where
  pub states : Represents (rules_of plan) (access_of base) (marks plan base past) moment kept
  pub ready : IsAgedTo (rules_of plan) moment kept

-- there is a set for each VLAN of the plan, in order, and each is that of the history
pub record TellOfAll (plan : Plan) (base : Base) (past : List Row) (moment : ℕ) (sets : List VlanSet) : Type 0 where
  pub vlans : vlans_of_sets sets ≡ vlans_of plan
  pub tell : All (λ set. Tells plan base past moment set.access) sets
  pub know : All (Knows plan base past moment) sets
