use Rattle.checkpoint.specs.Orders.{requests_in_order}
use Rattle.checkpoint.proofs.Placing.{ComesBehind}
use Rattle.checkpoint.proofs.request_order.place_among.Given as goal

abbrev pub invariant-loop-at : goal.invariant-loop-at
invariant-loop-at l = ComesBehind l.request (requests_in_order l.requests) l.at
