use Rattle.std.proofs.Common.{◌≡◌}
use Rattle.egress_ring.specs.declared.item.Item.TheVariants as queued
use Rattle.savi_core.proofs.Offering.{IsOffered}
use Rattle.savi_core.proofs.queues.Queues.offer_frame.Given as goal

abbrev pub invariant-loop-port : goal.invariant-loop-port
invariant-loop-port l = record {
  offered : IsOffered (queued.Frame l.n) l.fn.outs l.left l.cuts l.fn.self.lanes l.self-inside.queues.items;
  shut : l.self-inside.shut ≡ l.fn.self.shut;
  joined : l.self-inside.queued ≡ l.fn.self.queued;
  lost : l.self-inside.lost ≡ l.fn.self.lost;
}

abbrev pub decreases-loop-port : goal.decreases-loop-port
decreases-loop-port l = l.left.0
