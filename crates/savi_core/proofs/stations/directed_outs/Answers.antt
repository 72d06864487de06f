use Rattle.savi_kinds.specs.Ports.{number_of}
use Rattle.savi_kinds.specs.ValidPlan.{numbers_of}
use Rattle.savi_history.specs.Outs.{others_in}
use Rattle.savi_history.proofs.Directing.{others_are_numbers}
use Rattle.savi_core.specs.VlanSets.{vlan_at_place}
use Rattle.savi_core.proofs.stations.directed_outs.Goals as goal

pub returns-clause-outs : goal.returns-clause-outs
returns-clause-outs c =
    let plan = c.args.ports.now in
    let vlan = vlan_at_place plan c.args.set in
    let number = number_of c.args.port in
    c.directed.ensures.set (numbers_of (others_in vlan plan c.args.scope number)) (others_are_numbers vlan plan c.args.scope number) c.others_in.ensures.set
