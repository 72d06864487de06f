use Rattle.std.proofs.Common.{◌≡◌, length, ap, ◌∙◌, arith}
use Rattle.std.proofs.lemmas.List.{length-map}
use Rattle.savi_kinds.specs.Vlans.{vlans_of}
use Rattle.savi_kinds.proofs.VlanSets.{some_vlan}
use Rattle.savi_core.specs.PortTables.{ports_among}
use Rattle.savi_core.proofs.ports.Ports.vlan_count.Goals as goal

pub returns-clause-few : goal.returns-clause-few
returns-clause-few c =
    let plan = c.self.inside.plan in
    let valid = c.self.invariant.valid in
    let many : c.len.result ≡ length (vlans_of c.self.inside.plan) =
    c.len.ensures.value ∙ ap length c.self.invariant.vlans ∙ length-map (vlans_of c.self.inside.plan) (ports_among c.self.inside.plan.ports) in
    (omega (arith, many, some_vlan plan.ports valid.port_count.0 valid.port_vlans), omega (arith, many, valid.vlan_count))
