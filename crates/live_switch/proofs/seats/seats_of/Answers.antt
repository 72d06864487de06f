use Rattle.std.proofs.Common.{◌≡◌, ℕ, ◌+◌, ◌∙◌, List, length, slice_index_or, sym, ap, subst, arith}
use Rattle.std.proofs.lemmas.List.{get_or_default}
use Rattle.savi_kinds.specs.declared.plan.PortPlan.{PortPlan}
use Rattle.live_switch.specs.Seated.{AreSeats, IsSeat}
use Rattle.live_switch.specs.declared.seats.Seat.{Seat}
use Rattle.live_switch.proofs.Seating.{seats_more}
use Rattle.live_switch.proofs.seats.seats_of.Goals as goal

pub loop-port-preserved : goal.loop-port-preserved
loop-port-preserved g c =
    let ports : List PortPlan = c.as_slice-ports.result.now in
    let k : ℕ = c.loop-port.port-index in
    let port : PortPlan = c.port-item.result in
    let seat : Seat = record { port = port.number; format = port.format; room = c.in_ok-room.room; filler = c.in_ok-filler.filler; taker = c.in_ok-filler.taker } in
    let here : (p : PortPlan) → port ≡ slice_index_or ports k p = λ p. c.port-item.is ∙ get_or_default ports k port p c.loop-port-test.true in
    let one : (p : PortPlan) → IsSeat (slice_index_or ports k p) seat = λ p. record {
      port = ap (λ (x : PortPlan). x.number) (here p);
      format = ap (λ (x : PortPlan). x.format) (here p);
      rings = c.in_ok-filler.ensures.ends;
      unfilled = c.in_ok-filler.ensures.new.0;
      untaken = c.in_ok-filler.ensures.new.1;
    } in
    record {
      seats = subst (AreSeats ports (k + 1)) (sym c.push_reserved.ensures.items) (seats_more ports k c.loop-port.seats.items seat c.loop-port.invariant.seats one);
      len = omega (arith, c.push_reserved.ensures.len, c.loop-port.invariant.len);
      room = c.push_reserved.ensures.capacity ∙ c.loop-port.invariant.room;
    }

pub returns : goal.returns
returns g c =
    let all : c.loop-port.port-index ≡ length c.as_slice-ports.result.now = omega (arith, c.loop-port-test.false, c.loop-port.auto.port-index-end) in
    subst (λ (ports : List PortPlan). AreSeats ports (length ports) c.loop-port.seats.items) c.as_slice-ports.ensures
    (subst (λ (n : ℕ). AreSeats c.as_slice-ports.result.now n c.loop-port.seats.items) all c.loop-port.invariant.seats)
