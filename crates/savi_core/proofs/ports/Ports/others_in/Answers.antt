use Rattle.savi_kinds.specs.Ports.{number_of}
use Rattle.savi_core.specs.VlanSets.{vlan_at_place}
use Rattle.savi_core.proofs.Scopes.{others_are, others_known}
use Rattle.savi_core.proofs.ports.Ports.others_in.Goals as goal

pub returns-clause-set : goal.returns-clause-set
returns-clause-set c =
    let plan = c.args.self.now in
    let vlan = vlan_at_place plan c.args.set in
    others_are vlan plan.ports c.args.scope (number_of c.args.port) c.without.result c.in_scope.result (c.in_scope.ensures plan.ports vlan c.ports_at.ensures.ports) c.without.ensures.members

pub returns-clause-known : goal.returns-clause-known
returns-clause-known c =
    let plan = c.args.self.now in
    let vlan = vlan_at_place plan c.args.set in
    others_known vlan plan.ports c.args.scope (number_of c.args.port) c.without.result c.in_scope.result (c.in_scope.ensures plan.ports vlan c.ports_at.ensures.ports) c.without.ensures.members
