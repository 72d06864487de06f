-- How the stations that a core keeps of a VLAN stand with its history: those that are live at a moment are the history's then.
use Rattle.std.specs.Prelude.{◌≡◌, ℕ, List}
use Rattle.savi_kinds.specs.declared.plan.Plan.{Plan}
use Rattle.bridge_fdb.specs.Stations.{live_at}
use Rattle.hist_store.specs.Rows.{Row}
use Rattle.checkpoint.specs.Bases.{Base}
use Rattle.savi_history.specs.Stations.{stations}
use Rattle.savi_core.specs.declared.vlan_set.VlanSet.{VlanSet}

abbrev pub Knows : Plan → Base → List Row → ℕ → VlanSet → Type 0
Knows plan base past moment set = live_at moment set.fdb ≡ stations set.access.vlan plan base past
