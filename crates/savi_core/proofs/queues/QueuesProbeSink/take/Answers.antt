use Rattle.std.proofs.Common.{◌≡◌, ◌<◌, ◌≤◌, Bool, Some, None, if◌then◌else◌, List, [], length, map, get_or, drop, sym, ap, ◌∙◌, arith, length-set}
use Rattle.std.specs.List.{count_by}
use Rattle.std.proofs.lemmas.List.{get_or_default, drop_all}
use Rattle.savi_kinds.specs.declared.port.PortSet.{PortSet}
use Rattle.egress_ring.specs.declared.item.Item.{Item as Queued}
use Rattle.savi_history.specs.Offers.{offer_of}
use Rattle.savi_core.specs.Lanes.{Lane, goes_to, takes_one, takes, leaves_out, with_probe, no_lane}
use Rattle.savi_core.specs.Rings.{Rings, shut_in, counted, ring_item}
use Rattle.savi_core.proofs.OneByOne.{rings_are, changed_more, changed_all, count_one, count_none, took, left_it, passed_by}
use Rattle.savi_core.proofs.queues.QueuesProbeSink.take.Goals.{in-Some-true, in-Some-false, in-None}
use Rattle.savi_core.proofs.queues.QueuesProbeSink.take.Goals as goal

pub loop-place-init : goal.loop-place-init
loop-place-init c =
    let probe = offer_of c.args.vlan c.args.sent in
    let h = c.self.ranges in
    record {
      few = (omega arith, omega arith);
      shut = ap (λ (r : Rings). r.shut) c.self.view_is;
      size = ap (λ (r : Rings). length r.lanes) c.self.view_is;
      lanes = ap (λ (r : Rings). map (with_probe (shut_in c.args.self.now.shut) (ring_item (offer_of c.args.vlan c.args.sent)) (offer_of c.args.vlan c.args.sent)) r.lanes) c.self.view_is;
      queued = ap (λ (r : Rings). counted r.queued (count_by (takes (shut_in c.args.self.now.shut) (offer_of c.args.vlan c.args.sent)) r.lanes)) c.self.view_is;
      lost = ap (λ (r : Rings). counted r.lost (count_by (leaves_out (shut_in c.args.self.now.shut) (offer_of c.args.vlan c.args.sent)) r.lanes)) c.self.view_is;
    }

-- the place is that of a lane
inside : (c : goal.Joined-offer_probe) → c.loop-place.place < length c.loop-place.self-inside.queues.items
inside c = omega (arith, c.loop-place-test.true, c.len-place-end.ensures, c.loop-place.invariant.size, ap (λ (r : Rings). length r.lanes) c.self.view_is)

-- the lane there
here : (c : goal.Joined-offer_probe) → c.index_mut.result.now ≡ get_or c.loop-place.self-inside.queues.items c.loop-place.place no_lane
here c = c.index_mut.ensures.value ∙ get_or_default c.loop-place.self-inside.queues.items c.loop-place.place c.index_mut.result.now no_lane (inside c)

lane_is : (c : goal.Joined-offer_probe) → c.offer_probe.new.self ≡ with_probe (shut_in c.args.self.now.shut) (ring_item (offer_of c.args.vlan c.args.sent)) (offer_of c.args.vlan c.args.sent) (get_or c.loop-place.self-inside.queues.items c.loop-place.place no_lane)
lane_is c =
    c.offer_probe.ensures.lane
    ∙ ap (λ (set : PortSet). with_probe (shut_in set) (ring_item (offer_of c.args.vlan c.args.sent)) (offer_of c.args.vlan c.args.sent) c.index_mut.result.now) c.loop-place.invariant.shut
    ∙ ap (with_probe (shut_in c.args.self.now.shut) (ring_item (offer_of c.args.vlan c.args.sent)) (offer_of c.args.vlan c.args.sent)) (here c)

answer_is : (c : goal.Joined-offer_probe) → (if goes_to (shut_in c.args.self.now.shut) (offer_of c.args.vlan c.args.sent) (get_or c.loop-place.self-inside.queues.items c.loop-place.place no_lane) then Some (takes_one (get_or c.loop-place.self-inside.queues.items c.loop-place.place no_lane)) else None) ≡ c.offer_probe.result
answer_is c = sym (c.offer_probe.ensures.joined ∙ ap (λ (set : PortSet). if goes_to (shut_in set) (offer_of c.args.vlan c.args.sent) c.index_mut.result.now then Some (takes_one c.index_mut.result.now) else None) c.loop-place.invariant.shut ∙ ap (λ (lane : Lane Queued). if goes_to (shut_in c.args.self.now.shut) (offer_of c.args.vlan c.args.sent) lane then Some (takes_one lane) else None) (here c))

pub loop-place-preserved : goal.loop-place-preserved
loop-place-preserved c =
    let was = c.loop-place.invariant in
    let items = c.loop-place.self-inside.queues.items in
    let i = c.loop-place.place in
    let v = c.offer_probe.new.self in
    let lane = get_or items i no_lane in
    let probe = offer_of c.args.vlan c.args.sent in
    let old = c.args.self.now in
    let size = length-set items i v ∙ was.size in
    let lanes = changed_more (with_probe (shut_in c.args.self.now.shut) (ring_item (offer_of c.args.vlan c.args.sent)) (offer_of c.args.vlan c.args.sent)) items i no_lane v (inside c) (lane_is c) ∙ was.lanes in
    let taken = count_by (takes (shut_in c.args.self.now.shut) probe) old.lanes in
    let left = count_by (leaves_out (shut_in c.args.self.now.shut) probe) old.lanes in
    elim c.match-offer_probe.branch [
      | in-Some-true w ↦
          let what = took (goes_to (shut_in c.args.self.now.shut) probe lane) (takes_one lane) (answer_is c ∙ w.in-Some-true.is ∙ ap (λ (b : Bool). Some b) w.in-Some-true.field-0-test) in
          rw (w.self-inside-is, w.saturating_add-self-inside.ensures) (record {
            few = (omega arith, was.few.1);
            shut = was.shut;
            size = size;
            lanes = lanes;
            queued = count_one (takes (shut_in c.args.self.now.shut) probe) items i no_lane v (inside c) c.loop-place.self-inside.queued old.queued taken what.0 was.queued;
            lost = count_none (leaves_out (shut_in c.args.self.now.shut) probe) items i no_lane v (inside c) c.loop-place.self-inside.lost old.lost left what.1 was.lost;
          })
      | in-Some-false w ↦
          let what = left_it (goes_to (shut_in c.args.self.now.shut) probe lane) (takes_one lane) (answer_is c ∙ w.in-Some-false.is ∙ ap (λ (b : Bool). Some b) w.in-Some-false.field-0-test) in
          rw (w.self-inside-is, w.saturating_add-self-inside-in-Some-false.ensures) (record {
            few = (was.few.0, omega arith);
            shut = was.shut;
            size = size;
            lanes = lanes;
            queued = count_none (takes (shut_in c.args.self.now.shut) probe) items i no_lane v (inside c) c.loop-place.self-inside.queued old.queued taken what.0 was.queued;
            lost = count_one (leaves_out (shut_in c.args.self.now.shut) probe) items i no_lane v (inside c) c.loop-place.self-inside.lost old.lost left what.1 was.lost;
          })
      | in-None w ↦
          let what = passed_by (goes_to (shut_in c.args.self.now.shut) probe lane) (takes_one lane) (answer_is c ∙ w.in-None.is) in
          rw w.self-inside-is (record {
            few = was.few;
            shut = was.shut;
            size = size;
            lanes = lanes;
            queued = count_none (takes (shut_in c.args.self.now.shut) probe) items i no_lane v (inside c) c.loop-place.self-inside.queued old.queued taken what.0 was.queued;
            lost = count_none (leaves_out (shut_in c.args.self.now.shut) probe) items i no_lane v (inside c) c.loop-place.self-inside.lost old.lost left what.1 was.lost;
          })
    ]

pub returns : goal.returns
returns c =
    let items = c.loop-place.self-inside.queues.items in
    let past : length items ≤ c.loop-place.place = omega (arith, c.loop-place-test.false, c.len-place-end.ensures, c.loop-place.invariant.size, ap (λ (r : Rings). length r.lanes) c.self.view_is) in
    let was = c.loop-place.invariant in
    let none : drop c.loop-place.place items ≡ [] = drop_all c.loop-place.place items past in
    let queued_is : c.loop-place.self-inside.queued ≡ counted c.args.self.now.queued (count_by (takes (shut_in c.args.self.now.shut) (offer_of c.args.vlan c.args.sent)) c.args.self.now.lanes) =
    omega (arith, was.few.0, was.queued, ap (λ (l : List (Lane Queued)). count_by (takes (shut_in c.args.self.now.shut) (offer_of c.args.vlan c.args.sent)) l) none) in
    let lost_is : c.loop-place.self-inside.lost ≡ counted c.args.self.now.lost (count_by (leaves_out (shut_in c.args.self.now.shut) (offer_of c.args.vlan c.args.sent)) c.args.self.now.lanes) =
    omega (arith, was.few.1, was.lost, ap (λ (l : List (Lane Queued)). count_by (leaves_out (shut_in c.args.self.now.shut) (offer_of c.args.vlan c.args.sent)) l) none) in
    rings_are (sym (changed_all (with_probe (shut_in c.args.self.now.shut) (ring_item (offer_of c.args.vlan c.args.sent)) (offer_of c.args.vlan c.args.sent)) items c.loop-place.place past) ∙ was.lanes) was.shut queued_is lost_is
