use Rattle.std.proofs.Common.{subst, sym, Option, Some}
use Rattle.savi_segments.specs.Replay.{run_with}
use Rattle.port_worker.specs.declared.control_ends.ControlEnds.{ControlEnds}
use Rattle.port_worker.specs.ControlOutputs.{IsControlTurn, ControlGoesOn}
use Rattle.port_worker.specs.LineInputs.{control_turn_of}
use Rattle.port_worker.proofs.ControlAdvancing.{drainable_line, goes_line, ahead_line, goes_end}
use Rattle.port_worker.proofs.turns.advance_control.Goals as goal

pub drain_all-requires-clause-drainable : goal.drain_all-requires-clause-drainable
drain_all-requires-clause-drainable g c =
    let E = ControlEnds g.row.S.Denot g.row.K.Denot g.row.C.Denot in
    let turn = subst (λ (o : Option E). IsControlTurn o) c.in-Some.is c.requires.turn in
    drainable_line g.K.Sink.written g.K.Sink.faults c.args.core.now c.enter.new.core (control_turn_of c.in-Some.control) c.enter.result c.in-Some.control.ends.sink c.enter.new.self.ends.sink c.args.ports.now
    c.enter.ensures.entered turn.0 c.enter.ensures.plan c.enter.ensures.base c.if-enter.true c.requires.depth c.requires.planned c.requires.quiet

pub returns-then-enter-clause-ahead : goal.returns-then-enter-clause-ahead
returns-then-enter-clause-ahead g c =
    let E = ControlEnds g.row.S.Denot g.row.K.Denot g.row.C.Denot in
    let turn = subst (λ (o : Option E). IsControlTurn o) c.in-Some.is c.requires.turn in
    ahead_line g.K.Sink.written g.K.Sink.faults c.args.core.now c.enter.new.core (control_turn_of c.in-Some.control) c.enter.result c.in-Some.control.ends.sink c.enter.new.self.ends.sink c.args.ports.now
    c.enter.ensures.entered turn.0 c.enter.ensures.plan c.enter.ensures.base c.drain_all.new.core.past c.enter.new.self.ahead c.enter.ensures.ahead c.drain_all.ensures.low

pub returns-then-enter-clause-outputs : goal.returns-then-enter-clause-outputs
returns-then-enter-clause-outputs g c run stands =
    let E = ControlEnds g.row.S.Denot g.row.K.Denot g.row.C.Denot in
    let turn = subst (λ (o : Option E). IsControlTurn o) c.in-Some.is c.requires.turn in
    subst (λ (o : Option E). ControlGoesOn g.K.Sink.written g.K.Sink.faults c.args.core.now.plan run (run_with run c.drain_all.new.core.past) o (Some c.enter.new.self) c.args.ports.now c.drain_all.new.ports) (sym c.in-Some.is)
    (goes_line g.K.Sink.written g.K.Sink.faults c.args.core.now c.enter.new.core (control_turn_of c.in-Some.control) c.enter.result c.in-Some.control.ends.sink c.enter.new.self.ends.sink c.args.ports.now
    c.enter.ensures.entered turn.0 c.enter.ensures.plan c.enter.ensures.base c.requires.open.running run stands c.drain_all.new.core.past c.drain_all.new.ports c.if-enter.true c.drain_all.ensures.outputs)

pub returns-else-enter-clause-outputs : goal.returns-else-enter-clause-outputs
returns-else-enter-clause-outputs g c run stands =
    let E = ControlEnds g.row.S.Denot g.row.K.Denot g.row.C.Denot in
    let turn = subst (λ (o : Option E). IsControlTurn o) c.in-Some.is c.requires.turn in
    subst (λ (o : Option E). ControlGoesOn g.K.Sink.written g.K.Sink.faults c.args.core.now.plan run (run_with run c.enter.new.core.past) o (Some c.enter.new.self) c.args.ports.now c.args.ports.now) (sym c.in-Some.is)
    (goes_end g.K.Sink.written g.K.Sink.faults c.args.core.now c.enter.new.core (control_turn_of c.in-Some.control) c.enter.result c.in-Some.control.ends.sink c.enter.new.self.ends.sink c.args.ports.now
    c.enter.ensures.entered turn.0 c.enter.ensures.plan c.enter.ensures.base c.requires.open.running run stands c.if-enter.false)
