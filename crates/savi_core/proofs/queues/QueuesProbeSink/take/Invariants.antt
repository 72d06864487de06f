use Rattle.std.proofs.Common.{◌≡◌, ◌≤◌, length, map, drop}
use Rattle.std.specs.List.{count_by}
use Rattle.savi_history.specs.Offers.{offer_of}
use Rattle.savi_core.specs.Lanes.{with_probe, takes, leaves_out}
use Rattle.savi_core.specs.Rings.{counted, ring_item, shut_in}
use Rattle.savi_core.proofs.OneByOne.{changed_from}
use Rattle.savi_core.proofs.queues.QueuesProbeSink.take.Given as goal

abbrev pub invariant-loop-place : goal.invariant-loop-place
invariant-loop-place l = record {
  few : (l.self-inside.queued ≤ 4294967295) × (l.self-inside.lost ≤ 4294967295);
  shut : l.self-inside.shut ≡ l.fn.self.shut;
  size : length l.self-inside.queues.items ≡ length l.fn.self.lanes;
  lanes : changed_from (with_probe (shut_in l.fn.self.shut) (ring_item (offer_of l.vlan l.sent)) (offer_of l.vlan l.sent)) l.place l.self-inside.queues.items ≡ map (with_probe (shut_in l.fn.self.shut) (ring_item (offer_of l.vlan l.sent)) (offer_of l.vlan l.sent)) l.fn.self.lanes;
  queued : counted l.self-inside.queued (count_by (takes (shut_in l.fn.self.shut) (offer_of l.vlan l.sent)) (drop l.place l.self-inside.queues.items)) ≡ counted l.fn.self.queued (count_by (takes (shut_in l.fn.self.shut) (offer_of l.vlan l.sent)) l.fn.self.lanes);
  lost : counted l.self-inside.lost (count_by (leaves_out (shut_in l.fn.self.shut) (offer_of l.vlan l.sent)) (drop l.place l.self-inside.queues.items)) ≡ counted l.fn.self.lost (count_by (leaves_out (shut_in l.fn.self.shut) (offer_of l.vlan l.sent)) l.fn.self.lanes);
}
