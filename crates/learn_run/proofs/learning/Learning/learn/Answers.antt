use Rattle.std.proofs.Common.{◌-◌, ◌∷◌, ℕ, map, subst, arith, Option, None}
use Rattle.savi_history.specs.Picks.{IsPick}
use Rattle.port_worker.specs.Inputs.{turn_moment}
use Rattle.port_worker.proofs.Planned.{count_is}
use Rattle.learn_run.proofs.Running.{running_start, running_looked, looked_less, least_port, inside, sound_here, is_some_turn, has_room, fewer_all, passed_all, running_end, same_ports}
use Rattle.learn_run.proofs.learning.Learning.learn.Goals as goal

pub turns-init : goal.turns-init
turns-init g c = running_start g.S.Source.left g.S.Source.faults g.O.Sink.written g.O.Sink.faults c.args.plan.now c.args.ports.now c.args.self.now c.args.out.now c.requires.unread c.requires.begun

-- behind the last turn

pub returns-in_default-clause-ports : goal.returns-in_default-clause-ports
returns-in_default-clause-ports g c =
    let runs = running_looked g.S.Source.left g.S.Source.faults g.O.Sink.written g.O.Sink.faults c.args.plan.now c.args.ports.now c.args.self.now c.args.out.now c.turns.ports c.look_all.new.ports c.turns.self c.turns.out c.turns.invariant c.look_all.ensures.looked in
    same_ports g.S.Source.left g.S.Source.faults g.O.Sink.written g.O.Sink.faults c.args.plan.now c.args.ports.now c.args.self.now c.args.out.now c.look_all.new.ports c.turns.self c.turns.out c.requires.planned runs c.look_all.ensures.known
    (subst (λ (r : Option ℕ). IsPick (None ∷ map turn_moment c.look_all.new.ports) r) c.in_default.is c.next_of.ensures)

pub returns-in_default-clause-learns : goal.returns-in_default-clause-learns
returns-in_default-clause-learns g c = λ window begun.
    let runs = running_looked g.S.Source.left g.S.Source.faults g.O.Sink.written g.O.Sink.faults c.args.plan.now c.args.ports.now c.args.self.now c.args.out.now c.turns.ports c.look_all.new.ports c.turns.self c.turns.out c.turns.invariant c.look_all.ensures.looked in
    running_end g.S.Source.left g.S.Source.faults g.O.Sink.written g.O.Sink.faults c.args.plan.now c.args.ports.now c.args.self.now c.args.out.now c.look_all.new.ports c.turns.self c.turns.out c.requires.planned runs c.look_all.ensures.known
    (subst (λ (r : Option ℕ). IsPick (None ∷ map turn_moment c.look_all.new.ports) r) c.in_default.is c.next_of.ensures)
    window c.finish.result c.finish.new.sink (c.finish.ensures window) begun

-- the turn of a port

pub overflow_sub-place : goal.overflow_sub-place
overflow_sub-place g c =
    let least = least_port (map turn_moment c.look_all.new.ports) c.in-Some.place c.in-Some.ensures in
    let behind = least.0 in
    omega arith

pub advance-requires-clause-inside : goal.advance-requires-clause-inside
advance-requires-clause-inside g c =
    let runs = running_looked g.S.Source.left g.S.Source.faults g.O.Sink.written g.O.Sink.faults c.args.plan.now c.args.ports.now c.args.self.now c.args.out.now c.turns.ports c.look_all.new.ports c.turns.self c.turns.out c.turns.invariant c.look_all.ensures.looked in
    let least = least_port (map turn_moment c.look_all.new.ports) c.in-Some.place c.in-Some.ensures in
    inside g.S.Source.left g.S.Source.faults g.O.Sink.written g.O.Sink.faults c.args.plan.now c.args.ports.now c.args.self.now c.args.out.now c.look_all.new.ports c.turns.self c.turns.out runs c.look_all.ensures.known (c.in-Some.place - 1) least.1

pub advance-requires-clause-known : goal.advance-requires-clause-known
advance-requires-clause-known g c =
    let runs = running_looked g.S.Source.left g.S.Source.faults g.O.Sink.written g.O.Sink.faults c.args.plan.now c.args.ports.now c.args.self.now c.args.out.now c.turns.ports c.look_all.new.ports c.turns.self c.turns.out c.turns.invariant c.look_all.ensures.looked in
    let least = least_port (map turn_moment c.look_all.new.ports) c.in-Some.place c.in-Some.ensures in
    is_some_turn g.S.Source.left g.S.Source.faults g.O.Sink.written g.O.Sink.faults c.args.plan.now c.args.ports.now c.args.self.now c.args.out.now c.look_all.new.ports c.turns.self c.turns.out runs c.look_all.ensures.known (c.in-Some.place - 1) least.1

pub advance-requires-clause-sound : goal.advance-requires-clause-sound
advance-requires-clause-sound g c =
    let runs = running_looked g.S.Source.left g.S.Source.faults g.O.Sink.written g.O.Sink.faults c.args.plan.now c.args.ports.now c.args.self.now c.args.out.now c.turns.ports c.look_all.new.ports c.turns.self c.turns.out c.turns.invariant c.look_all.ensures.looked in
    let least = least_port (map turn_moment c.look_all.new.ports) c.in-Some.place c.in-Some.ensures in
    sound_here g.S.Source.left g.S.Source.faults g.O.Sink.written g.O.Sink.faults c.args.plan.now c.args.ports.now c.args.self.now c.args.out.now c.look_all.new.ports c.turns.self c.turns.out runs c.look_all.ensures.known (c.in-Some.place - 1) least.1

pub advance-requires-clause-room : goal.advance-requires-clause-room
advance-requires-clause-room g c =
    let runs = running_looked g.S.Source.left g.S.Source.faults g.O.Sink.written g.O.Sink.faults c.args.plan.now c.args.ports.now c.args.self.now c.args.out.now c.turns.ports c.look_all.new.ports c.turns.self c.turns.out c.turns.invariant c.look_all.ensures.looked in
    let least = least_port (map turn_moment c.look_all.new.ports) c.in-Some.place c.in-Some.ensures in
    has_room g.S.Source.left g.S.Source.faults g.O.Sink.written g.O.Sink.faults c.args.plan.now c.args.ports.now c.args.self.now c.args.out.now c.look_all.new.ports c.turns.self c.turns.out runs c.look_all.ensures.known (c.in-Some.place - 1) least.1
    c.requires.begun.1.room (count_is c.args.ports.now c.args.plan.now c.requires.planned)

pub turns-smaller : goal.turns-smaller
turns-smaller g c =
    let runs = running_looked g.S.Source.left g.S.Source.faults g.O.Sink.written g.O.Sink.faults c.args.plan.now c.args.ports.now c.args.self.now c.args.out.now c.turns.ports c.look_all.new.ports c.turns.self c.turns.out c.turns.invariant c.look_all.ensures.looked in
    let least = least_port (map turn_moment c.look_all.new.ports) c.in-Some.place c.in-Some.ensures in
    let less = fewer_all g.S.Source.left g.S.Source.faults g.O.Sink.written g.O.Sink.faults c.args.plan.now c.args.ports.now c.args.self.now c.args.out.now c.look_all.new.ports c.turns.self c.turns.out runs c.look_all.ensures.known (c.in-Some.place - 1) least.1 c.advance.new.ports c.advance.ensures.passed in
    let most = looked_less g.S.Source.left g.S.Source.faults g.O.Sink.written g.O.Sink.faults c.args.plan.now c.args.ports.now c.args.self.now c.args.out.now c.turns.ports c.look_all.new.ports c.turns.self c.turns.out c.turns.invariant c.look_all.ensures.looked in
    omega (arith, less, most)

pub turns-preserved : goal.turns-preserved
turns-preserved g c =
    let runs = running_looked g.S.Source.left g.S.Source.faults g.O.Sink.written g.O.Sink.faults c.args.plan.now c.args.ports.now c.args.self.now c.args.out.now c.turns.ports c.look_all.new.ports c.turns.self c.turns.out c.turns.invariant c.look_all.ensures.looked in
    let least = least_port (map turn_moment c.look_all.new.ports) c.in-Some.place c.in-Some.ensures in
    passed_all g.S.Source.left g.S.Source.faults g.O.Sink.written g.O.Sink.faults c.args.plan.now c.args.ports.now c.args.self.now c.args.out.now c.look_all.new.ports c.turns.self c.turns.out runs c.look_all.ensures.known (c.in-Some.place - 1) least.1 c.advance.new.ports c.advance.new.self c.advance.new.out c.advance.ensures.passed c.advance.ensures.taken
