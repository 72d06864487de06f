use Rattle.std.proofs.Common.{arith}
use Rattle.end_places.proofs.PortLists.{nth_place-push}
use Rattle.end_places.proofs.port_spots.PortSpots.make.Goals as goal

pub loop-preserved : goal.loop-preserved
loop-preserved g c = record {
  len = omega (arith, c.in_ok-push.ensures.len, c.loop.invariant.len);
  unopened = λ n. rw c.in_ok-push.ensures.items (nth_place-push c.loop.spots.items c.new.result c.loop.invariant.unopened c.new.ensures n);
}
