use Rattle.std.proofs.Common.{ℕ, ◌≡◌, ◌<◌, ◌≤◌, ◌==◌, ◌&&◌, ◌||◌, Bool, true, List, length, map, get_or, sym, subst, ap, ◌∙◌, arith}
use Rattle.std.proofs.lemmas.List.{get_or_default, length-map}
use Rattle.savi_kinds.specs.declared.port.PortSet.{PortSet}
use Rattle.savi_kinds.specs.Ports.{number_of}
use Rattle.savi_kinds.specs.PortSets.{is_member, no_ports}
use Rattle.savi_kinds.specs.ValidPlan.{numbers_of}
use Rattle.egress_ring.specs.declared.item.Item.{Item as Queued}
use Rattle.egress_ring.specs.declared.item.Item.TheVariants as queued
use Rattle.savi_history.specs.Passes.{has_port}
use Rattle.savi_core.specs.Lanes.{Lane, with_offered, takes_none}
use Rattle.savi_core.specs.Rings.{Rings}
use Rattle.savi_history.proofs.PortPlaces.{placed_among}
use Rattle.savi_core.proofs.Places.{apart}
use Rattle.savi_core.proofs.Members.{AreLow, AreApart}
use Rattle.savi_core.proofs.Scopes.{low}
use Rattle.savi_core.proofs.OneByOne.{rings_are}
use Rattle.savi_core.proofs.Offering.{IsOffered, offered_none, offered_more, offered_all}
use Rattle.savi_core.proofs.queues.Queues.offer_frame.Goals.{then-offer_frame, else-offer_frame}
use Rattle.savi_core.proofs.queues.Queues.offer_frame.Goals as goal

pub loop-port-init : goal.loop-port-init
loop-port-init c =
    let old = c.args.self.now.lanes in
    let lanes_are : c.self.inside.queues.items ≡ c.args.self.now.lanes = ap (λ (r : Rings). r.lanes) c.self.view_is in
    let lows : AreLow (map (λ (lane : Lane Queued). lane.number) old) = subst AreLow (sym c.requires.lanes) (low c.args.ports.now.ports) in
    record {
      offered =
          subst (λ (cuts : PortSet). IsOffered (queued.Frame c.args.n) c.args.outs c.args.outs cuts old c.self.inside.queues.items) (sym c.empty-cuts.ensures)
          (subst (λ (lanes : List (Lane Queued)). IsOffered (queued.Frame c.args.n) c.args.outs c.args.outs no_ports old lanes) (sym lanes_are) (offered_none (queued.Frame c.args.n) c.args.outs old lows));
      shut = ap (λ (r : Rings). r.shut) c.self.view_is;
      joined = ap (λ (r : Rings). r.queued) c.self.view_is;
      lost = ap (λ (r : Rings). r.lost) c.self.view_is;
    }

pub index_mut-requires : goal.index_mut-requires
index_mut-requires c =
    let m = number_of c.in-Some.port in
    let known : has_port c.args.ports.now m ≡ true = c.requires.outs m c.in-Some.port.low (c.loop-port.invariant.offered.members m c.in-Some.port.low c.in-Some.ensures.member) in
    let place = placed_among (numbers_of c.args.ports.now.ports) m known in
    omega (arith, place.within, c.place_of-place.ensures.place, c.loop-port.invariant.offered.size, ap length c.requires.lanes, length-map c.args.self.now.lanes (λ (lane : Lane Queued). lane.number))

pub loop-port-preserved : goal.loop-port-preserved
loop-port-preserved c =
    let old = c.args.self.now.lanes in
    let now = c.loop-port.self-inside.queues.items in
    let ports = c.args.ports.now.ports in
    let m = number_of c.in-Some.port in
    let p = c.place_of-place.result in
    let cuts = c.loop-port.cuts in
    let flag = c.offer_frame.result in
    let was = c.loop-port.invariant.offered in
    let least = c.in-Some.port.low in
    let there : is_member c.loop-port.left m ≡ true = c.in-Some.ensures.member in
    let known : has_port c.args.ports.now m ≡ true = c.requires.outs m least (was.members m least there) in
    let place = placed_among (numbers_of ports) m known in
    let within : p < length old = omega (arith, place.within, c.place_of-place.ensures.place, ap length c.requires.lanes, length-map old (λ (lane : Lane Queued). lane.number)) in
    let lows : AreLow (map (λ (lane : Lane Queued). lane.number) old) = subst AreLow (sym c.requires.lanes) (low ports) in
    let far : AreApart (map (λ (lane : Lane Queued). lane.number) old) =
    subst AreApart (sym c.requires.lanes) (λ j k j_in k_in other. apart (numbers_of ports) j k c.requires.valid.ports j_in k_in other) in
    let number_is : get_or (map (λ (lane : Lane Queued). lane.number) old) p 0 ≡ m =
    ap (λ (ns : List ℕ). get_or ns p 0) c.requires.lanes ∙ ap (λ (k : ℕ). get_or (numbers_of ports) k 0) c.place_of-place.ensures.place ∙ place.number_is in
    let here : (d : Lane Queued) → c.index_mut.result.now ≡ get_or now p d = λ d. c.index_mut.ensures.value ∙ get_or_default now p c.index_mut.result.now d (omega (arith, within, was.size)) in
    let more : (n : ℕ) → 1 ≤ n → is_member c.if-offer_frame.cuts n ≡ ((flag && (n == m)) || is_member cuts n) = λ n low_n.
    elim c.if-offer_frame.branch [
      | then-offer_frame w ↦
          ap (λ (set : PortSet). is_member set n) w.cuts-is ∙ w.with-cuts.ensures.members n low_n
          ∙ ap (λ (b : Bool). (b && (n == m)) || is_member cuts n) (sym w.if-offer_frame.true)
      | else-offer_frame w ↦
          ap (λ (set : PortSet). is_member set n) w.cuts-is ∙ ap (λ (b : Bool). (b && (n == m)) || is_member cuts n) (sym w.if-offer_frame.false)
    ] in
    record {
      offered =
          offered_more (queued.Frame c.args.n) c.args.outs c.loop-port.left cuts old now lows far was m p within number_is there least c.without-left.result c.if-offer_frame.cuts c.offer_frame.new.self flag
          (λ d. c.offer_frame.ensures.lane ∙ ap (with_offered (queued.Frame c.args.n)) (here d)) (λ d. c.offer_frame.ensures.cut ∙ ap takes_none (here d)) c.without-left.ensures.members more;
      shut = c.loop-port.invariant.shut;
      joined = c.loop-port.invariant.joined;
      lost = c.loop-port.invariant.lost;
    }

pub loop-port-smaller : goal.loop-port-smaller
loop-port-smaller c = c.without-left.ensures.fewer c.in-Some.ensures.member

pub returns-clause-lanes : goal.returns-clause-lanes
returns-clause-lanes c =
    let old = c.args.self.now.lanes in
    let ports = c.args.ports.now.ports in
    let lows : AreLow (map (λ (lane : Lane Queued). lane.number) old) = subst AreLow (sym c.requires.lanes) (low ports) in
    let far : AreApart (map (λ (lane : Lane Queued). lane.number) old) =
    subst AreApart (sym c.requires.lanes) (λ j k j_in k_in other. apart (numbers_of ports) j k c.requires.valid.ports j_in k_in other) in
    let lanes_are = (offered_all (queued.Frame c.args.n) c.args.outs c.loop-port.left c.loop-port.cuts old c.loop-port.self-inside.queues.items lows far c.loop-port.invariant.offered c.in_default.ensures.member).0 in
    rings_are lanes_are c.loop-port.invariant.shut c.loop-port.invariant.joined c.loop-port.invariant.lost

pub returns-clause-cuts : goal.returns-clause-cuts
returns-clause-cuts c =
    let old = c.args.self.now.lanes in
    let ports = c.args.ports.now.ports in
    let lows : AreLow (map (λ (lane : Lane Queued). lane.number) old) = subst AreLow (sym c.requires.lanes) (low ports) in
    let far : AreApart (map (λ (lane : Lane Queued). lane.number) old) =
    subst AreApart (sym c.requires.lanes) (λ j k j_in k_in other. apart (numbers_of ports) j k c.requires.valid.ports j_in k_in other) in
    (offered_all (queued.Frame c.args.n) c.args.outs c.loop-port.left c.loop-port.cuts old c.loop-port.self-inside.queues.items lows far c.loop-port.invariant.offered c.in_default.ensures.member).1
