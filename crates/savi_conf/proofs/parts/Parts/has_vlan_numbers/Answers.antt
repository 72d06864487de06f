use Rattle.savi_conf.specs.Requirements.{IsBetween, vlan_in}
use Rattle.savi_conf.proofs.Listed.{seen_all}
use Rattle.savi_conf.proofs.PartsLemmas.{view_of}
use Rattle.savi_conf.proofs.parts.Parts.has_vlan_numbers.Goals as goal

pub returns-then-has_port_vlans : goal.returns-then-has_port_vlans
returns-then-has_port_vlans c =
    let prefixes = seen_all (λ t. IsBetween 1 4094 (vlan_in t)) (λ t. view_of t) c.args.self.now.prefixes.now _ c.have_prefix_vlans.result c.requires.prefixes c.have_prefix_vlans.ensures in
    let ports = c.has_port_vlans.ensures.0 c.if-has_port_vlans.true in
    (λ yes. record { keys = ports.0; ports = ports.1; prefixes = prefixes.0 yes }, λ has. prefixes.1 has.prefixes)

pub returns-else-has_port_vlans : goal.returns-else-has_port_vlans
returns-else-has_port_vlans c = (λ yes. absurd cc, λ has. c.has_port_vlans.ensures.1 (has.keys, has.ports))
