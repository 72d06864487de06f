-- Where a frame comes from: its port, and the place of its VLAN among those of the plan, where it has one.
use Rattle.std.specs.Prelude.{◌≡◌, ◌≢◌, ℕ, ◌<◌, ◌==◌, ◌&&◌, Bool, false, Option, Some, None, IfSome, List, length}
use Rattle.savi_kinds.specs.declared.plan.Plan.{Plan}
use Rattle.savi_kinds.specs.declared.plan.Role.TheVariants.{Trusted}
use Rattle.savi_kinds.specs.declared.port.Port.{Port}
use Rattle.savi_kinds.specs.declared.port.PortSet.{PortSet}
use Rattle.savi_kinds.specs.declared.verdict.Verdict.{Verdict}
use Rattle.savi_kinds.specs.Ports.{number_of}
use Rattle.savi_kinds.specs.PortSets.{no_ports}
use Rattle.savi_kinds.specs.Vlans.{access_vlan, vlans_of}
use Rattle.eth_frame.specs.declared.header.Eth.{Eth}
use Rattle.bridge_fdb.specs.Stations.{live_at}
use Rattle.savi_history.specs.Passes.{role_of}
use Rattle.savi_history.specs.Outs.{outs_by}
use Rattle.savi_history.specs.Stations.{port_among}
use Rattle.savi_history.specs.Summary.{is_pass}
use Rattle.savi_core.specs.declared.ports.Origin.{Origin}
use Rattle.savi_core.specs.declared.vlan_set.VlanSet.{VlanSet}
use Rattle.savi_core.specs.VlanSets.{vlan_at_place, fdb_at}

-- the place is one of the plan's, and where sources are validated it is that of the port's own VLAN
pub record IsOrigin (plan : Plan) (origin : Origin) : Type 0 where
  pub within : IfSome origin.set (λ set. set < length (vlans_of plan))
  pub own : role_of plan (number_of origin.port) ≢ Trusted
      → IfSome origin.set (λ set. access_vlan plan (number_of origin.port) ≡ Some (vlan_at_place plan set))

-- the port at which the destination of a frame with this header is known in the VLAN at a place
abbrev pub known_at : List VlanSet → Option ℕ → ℕ → Option Eth → Option Port
known_at sets None t eth = None
known_at sets (Some set) t eth = port_among (live_at t (fdb_at sets set)) eth

-- the ports to which a frame goes: without a VLAN none
abbrev pub outs_from : Plan → Option ℕ → ℕ → Option Port → Verdict → PortSet
outs_from plan None port known verdict = no_ports
outs_from plan (Some vlan) port known verdict = outs_by vlan plan port known verdict

-- a frame with this verdict teaches its source in the VLAN at a place: in its own, where it passes
abbrev pub teaches_at : Option ℕ → Verdict → ℕ → Bool
teaches_at None verdict place = false
teaches_at (Some set) verdict place = is_pass (Some verdict) && (set == place)
