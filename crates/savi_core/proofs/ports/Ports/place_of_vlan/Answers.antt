use Rattle.std.proofs.Common.{List, map, ap, ◌∙◌, ◌==◌}
use Rattle.std.specs.List.{position}
use Rattle.savi_kinds.specs.declared.plan.Plan.{Plan}
use Rattle.savi_kinds.specs.Vlans.{vlans_of}
use Rattle.savi_core.specs.declared.ports.VlanPorts.{VlanPorts}
use Rattle.savi_core.specs.PortTables.{ports_among}
use Rattle.savi_core.proofs.VlanPlaces.{IsPlaceOf, place_is}
use Rattle.savi_core.proofs.ports.Ports.place_of_vlan.Goals.{After-place_in}
use Rattle.savi_core.proofs.ports.Ports.place_of_vlan.Goals as goal

-- what is found among the ports of each VLAN is the place of the VLAN
placed : (c : After-place_in) → IsPlaceOf c.args.self.now c.args.vlan c.place_in.result
placed c =
    place_is c.args.self.now c.self.inside.vlans.items c.args.vlan c.place_in.result
    (c.self.invariant.vlans ∙ ap (λ (p : Plan). map (ports_among p.ports) (vlans_of p)) c.self.view_is)
    (c.place_in.ensures ∙ ap (λ (l : List VlanPorts). position (λ ports. ports.vlan == c.args.vlan) l) c.as_slice.ensures.value)

pub returns-clause-within : goal.returns-clause-within
returns-clause-within c = (placed c).within

pub returns-clause-found : goal.returns-clause-found
returns-clause-found c = (placed c).found

pub returns-clause-none : goal.returns-clause-none
returns-clause-none c = (placed c).none

pub returns-clause-some : goal.returns-clause-some
returns-clause-some c = (placed c).some
