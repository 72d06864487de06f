use Rattle.savi_conf.specs.Requirements.{AreVlanNumbers, HasOneVlanKey}
use Rattle.savi_conf.proofs.Listed.{seen_all}
use Rattle.savi_conf.proofs.PartsLemmas.{view_of}
use Rattle.savi_conf.proofs.parts.Parts.has_port_vlans.Goals as goal

pub returns-then-have_one_vlan_key : goal.returns-then-have_one_vlan_key
returns-then-have_one_vlan_key c =
    let keys = seen_all HasOneVlanKey (λ t. view_of t) c.args.self.now.ports.now _ c.have_one_vlan_key.result c.requires.ports c.have_one_vlan_key.ensures in
    let numbers = seen_all AreVlanNumbers (λ v. v.items) c.args.self.now.vlans.now _ c.are_all_vlan_numbers.result c.requires.vlans c.are_all_vlan_numbers.ensures in
    (λ yes. (keys.0 c.if-have_one_vlan_key.true, numbers.0 yes), λ both. numbers.1 both.1)

pub returns-else-have_one_vlan_key : goal.returns-else-have_one_vlan_key
returns-else-have_one_vlan_key c =
    let keys = seen_all HasOneVlanKey (λ t. view_of t) c.args.self.now.ports.now _ c.have_one_vlan_key.result c.requires.ports c.have_one_vlan_key.ensures in
    (λ yes. absurd cc, λ both. keys.1 both.0)
