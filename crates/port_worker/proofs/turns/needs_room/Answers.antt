use Rattle.std.proofs.Common.{◌≡◌, ◌-◌, sym, subst, arith, IsSome, IfSome, Option}
use Rattle.savi_history.specs.Turns.{Turn}
use Rattle.port_worker.specs.declared.port_ends.PortEnds.{PortEnds}
use Rattle.port_worker.specs.Inputs.{turn_of}
use Rattle.port_worker.specs.Steps.{comes_in}
use Rattle.port_worker.proofs.Making.{place_inside, port_place}
use Rattle.port_worker.proofs.Stepping.{place_turn}
use Rattle.port_worker.proofs.turns.needs_room.Goals as goal

pub offset_bounds-ports-place : goal.offset_bounds-ports-place
offset_bounds-ports-place g c =
    let ports = c.args.ports.now in
    let place = c.args.place in
    let same = port_place c.args.control.now ports place c.if-place-gt0.true in
    let inside = place_inside ports (place - 1) (subst (λ (o : Option Turn). IsSome o) same c.requires) in
    omega (arith, inside)

pub bounds-ports-place : goal.bounds-ports-place
bounds-ports-place g c =
    let ports = c.args.ports.now in
    let place = c.args.place in
    let same = port_place c.args.control.now ports place c.if-place-gt0.true in
    place_inside ports (place - 1) (subst (λ (o : Option Turn). IsSome o) same c.requires)

pub returns-then-place-gt0 : goal.returns-then-place-gt0
returns-then-place-gt0 g c =
    let ports = c.args.ports.now in
    let place = c.args.place in
    let same = port_place c.args.control.now ports place c.if-place-gt0.true in
    let inside = place_inside ports (place - 1) (subst (λ (o : Option Turn). IsSome o) same c.requires) in
    let result = c.has_arrival.result in
    let P = PortEnds g.row.S.Denot g.row.K.Denot g.row.C.Denot in
    subst (λ (o : Option Turn). IfSome o (λ turn. result ≡ comes_in turn)) (sym same)
    (subst (λ (o : Option Turn). IfSome o (λ turn. result ≡ comes_in turn)) (sym (place_turn ports (place - 1) c.index-ports-place.result inside))
    (subst (λ (p : P). IfSome (turn_of p) (λ turn. result ≡ comes_in turn)) c.index-ports-place.is c.has_arrival.ensures))
