use Rattle.std.proofs.Common.{◌≡◌, ◌+◌, ◌++◌, ◌∷◌, [], length, vec_len, MatchOption, Option, subst, arith}
use Rattle.savi_ends.specs.declared.world.Ends.{Ends}
use Rattle.live_switch.proofs.Gathering.{ports_more, ports_none}
use Rattle.live_switch.proofs.Popped.{none_if, popped, popped_len}
use Rattle.live_switch.proofs.sharing.+deal_ports.Goals as goal

pub returns-clause-dealt : goal.returns-clause-dealt
returns-clause-dealt g t c =
    let ports = c.args.ports.now in
    let seats = c.args.seats.now in
    let few = c.pop.new.self in
    let others = c.pop-2.new.self in
    let ends = c.in-Some.ends in
    let seat = c.unwrap-seat.result in
    let ports_are : ports.items ≡ few.items ++ ends ∷ [] = popped ports.items few.items c.pop.result ends c.pop.ensures.items c.in-Some.is in
    let seats_are : seats.items ≡ others.items ++ seat ∷ [] = popped seats.items others.items c.pop-2.result seat c.pop-2.ensures.items c.unwrap-seat.ensures in
    let sizes : length others.items ≡ length few.items =
    omega (
      arith,
      popped_len (vec_len few) (vec_len ports) c.pop.result ends c.pop.ensures.len c.in-Some.is,
      popped_len (vec_len others) (vec_len seats) c.pop-2.result seat c.pop-2.ensures.len c.unwrap-seat.ensures,
      c.requires.seats,
      few.ok.0,
      others.ok.0,
    ) in
    ports_more ports.items few.items ends seats.items others.items seat c.args.readers.now.items c.deal_ports.new.readers.items c.push_reserved.new.self.items
    c.args.services.now.items c.deal_ports.new.services.items c.push_reserved-2.new.self.items ports_are seats_are sizes
    c.deal_port-reader.result.0 c.deal_port-reader.result.1 c.deal_ports.ensures.dealt c.push_reserved.ensures.items c.push_reserved-2.ensures.items c.deal_port-reader.ensures.reader c.deal_port-reader.ensures.service

pub returns-in_default-clause-dealt : goal.returns-in_default-clause-dealt
returns-in_default-clause-dealt g t c =
    let ports = c.args.ports.now in
    let none = none_if c.pop.result c.in_default.not-Some in
    let sizes =
    subst (λ (o : Option (Ends g.row.S.Denot g.row.K.Denot g.row.C.Denot)). MatchOption o ((vec_len ports ≡ 0) × (vec_len c.pop.new.self ≡ 0)) (λ _. vec_len c.pop.new.self + 1 ≡ vec_len ports)) none c.pop.ensures.cases in
    ports_none ports.items c.args.seats.now.items c.args.readers.now.items c.args.services.now.items (omega (arith, sizes.0, ports.ok.0))
