use Rattle.std.proofs.Common.{sym, subst}
use Rattle.savi_kinds.specs.Vlans.{IsVlan}
use Rattle.savi_core.specs.declared.ports.VlanPorts.{VlanPorts}
use Rattle.savi_core.proofs.VlanPlaces.{vlan_number}
use Rattle.savi_core.proofs.ports.Ports.vlan_at.Goals as goal

pub returns-clause-number : goal.returns-clause-number
returns-clause-number c = subst (λ (p : VlanPorts). IsVlan p.vlan) (sym c.ports_at.ensures.ports) (vlan_number c.args.self.now c.args.place c.ports_at.ensures.valid c.requires)
