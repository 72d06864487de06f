use Rattle.std.proofs.Common.{sym, ap, ◌∙◌}
use Rattle.std.proofs.lemmas.List.{take_all}
use Rattle.savi_kinds.proofs.VlanSets.{ports_more, ports_too_many}
use Rattle.savi_kinds.specs.Vlans.{vlans_of_ports}
use Rattle.savi_kinds.proofs.vlan.vlans_of_ports.Goals as goal

pub returns-then-not-add_vlans-clause-none : goal.returns-then-not-add_vlans-clause-none
returns-then-not-add_vlans-clause-none c =
    ports_too_many c.args.ports.now c.loop-port.port-index c.port-item.result c.loop-port-test.true c.port-item.is
    (rw (c.loop-port.invariant, c.numbers.ensures) at (c.add_vlans.ensures.full c.if-not-add_vlans.true))

pub loop-port-preserved : goal.loop-port-preserved
loop-port-preserved c =
    c.add_vlans.ensures.added c.if-not-add_vlans.false
    ∙ rw (c.loop-port.invariant, c.numbers.ensures) (sym (ports_more c.args.ports.now c.loop-port.port-index c.port-item.result c.loop-port-test.true c.port-item.is))

pub returns-clause-some : goal.returns-clause-some
returns-clause-some c = c.loop-port.invariant ∙ ap vlans_of_ports (take_all c.loop-port.port-index c.args.ports.now c.loop-port-test.false)
