use Rattle.savi_kinds.proofs.VlanSets.{vlans_have, vlans_rise}
use Rattle.savi_kinds.proofs.vlan_laws.vlans_of_a_plan_are_those_of_its_ports.Goals as goal

pub returns-clause-rising : goal.returns-clause-rising
returns-clause-rising c = λ plan. vlans_rise plan.ports

pub returns-clause-members : goal.returns-clause-members
returns-clause-members c = λ plan v. vlans_have v plan.ports
