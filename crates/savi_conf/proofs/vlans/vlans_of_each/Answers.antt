use Rattle.std.proofs.lemmas.List.{map_push, take_more}
use Rattle.savi_conf.proofs.vlans.vlans_of_each.Goals as goal

pub loop-port-preserved : goal.loop-port-preserved
loop-port-preserved c =
    rw (c.in_ok-push.ensures.items, map_push, c.loop-port.invariant, take_more c.args.ports.now c.loop-port.port-index c.port-item.result c.loop-port-test.true, ← c.port-item.is, map_push, c.in_ok-vlans_of.ensures)
