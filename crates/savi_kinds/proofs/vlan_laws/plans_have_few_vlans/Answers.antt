use Rattle.savi_kinds.proofs.VlanSets.{some_vlan}
use Rattle.savi_kinds.proofs.vlan_laws.plans_have_few_vlans.Goals as goal

pub returns-clause-least : goal.returns-clause-least
returns-clause-least c = λ plan valid. some_vlan plan.ports valid.port_count.0 valid.port_vlans

pub returns-clause-most : goal.returns-clause-most
returns-clause-most c = λ plan valid. valid.vlan_count
