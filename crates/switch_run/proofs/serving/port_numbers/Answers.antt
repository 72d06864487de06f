use Rattle.std.proofs.Common.{◌∙◌, arith}
use Rattle.switch_run.proofs.Numbers.{number_more}
use Rattle.switch_run.proofs.serving.port_numbers.Goals as goal

pub loop-port-preserved : goal.loop-port-preserved
loop-port-preserved c = record {
  numbers = number_more c.args.ports.now c.loop-port.port-index c.port-item.result c.loop-port.numbers.items c.push_reserved.new.self.items c.loop-port-test.true c.port-item.is c.loop-port.invariant.numbers c.push_reserved.ensures.items;
  len = omega (arith, c.push_reserved.ensures.len, c.loop-port.invariant.len);
  room = c.push_reserved.ensures.capacity ∙ c.loop-port.invariant.room;
}
