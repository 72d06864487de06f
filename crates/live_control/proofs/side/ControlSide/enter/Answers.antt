use Rattle.std.proofs.Common.{ℕ, List, ◌∷◌, Some, refl, ap, subst, sym}
use Rattle.core_keep.specs.Seen.{past_seen}
use Rattle.intake_ring.specs.declared.taker.Taker.{Taker}
use Rattle.control_reader.specs.Heard.{line_heard_of, lines_taken}
use Rattle.control_reader.specs.declared.arrival.LineArrival.{LineArrival}
use Rattle.live_turns.specs.Seats.{lock_base, lock_plan}
use Rattle.live_control.specs.LineTurns.{AnswersLine, line_told}
use Rattle.live_control.specs.Sides.{ControlGoes, StandsAs}
use Rattle.live_control.specs.declared.state.ControlState.{ControlState}
use Rattle.live_control.proofs.Stepping.{end_side, line_side}
use Rattle.live_control.proofs.side.ControlSide.enter.Goals as goal

pub returns-after-matches-clause-goes : goal.returns-after-matches-clause-goes
returns-after-matches-clause-goes g c = λ before first same enters goes.
    let side = c.args.self.now in
    let new = c.settle.new.self in
    let plan = lock_plan c.args.lock.now in
    let base = lock_base c.args.lock.now in
    let line = line_told c.in-Line.stamp c.in-Line.octets.items in
    let state = c.answer-turns.result.1 in
    let was = past_seen c.args.turns.pass in
    let now = past_seen c.answer-turns.result.0.pass in
    line_side g.K.Sink.written g.K.Sink.faults plan first base was now before same new line state (lines_taken side.taker) side.sink
    (subst (λ (came : LineArrival). ControlGoes g.K.Sink.written g.K.Sink.faults plan (was ∷ before) (lines_taken side.taker) (Some (line_heard_of came)) first side.sink) c.in-Line.is goes)
    (subst (λ (octets : List ℕ). AnswersLine g.K.Sink.written g.K.Sink.faults plan base (line_told c.in-Line.stamp octets) state was now side.sink new.sink) c.as_slice-line.ensures.value
    (subst (λ (k : g.row.K.Denot). AnswersLine g.K.Sink.written g.K.Sink.faults plan base (line_told c.in-Line.stamp c.as_slice-line.result.now) state was now side.sink k) (sym c.settle.ensures.sink) c.answer-turns.ensures.answers))
    (ap (λ (taker : Taker LineArrival). lines_taken taker) c.settle.ensures.taker) c.settle.ensures.kept c.settle.ensures.passes

pub returns-in-End-clause-goes : goal.returns-in-End-clause-goes
returns-in-End-clause-goes g c = λ before first same enters goes.
    let side = c.args.self.now in
    let plan = lock_plan c.args.lock.now in
    let was = past_seen c.args.turns.pass in
    let now = past_seen c.enter_ending.result.0.pass in
    subst (λ (state : ControlState). StandsAs g.K.Sink.written g.K.Sink.faults plan (now ∷ before) state first side) (sym c.enter_ending.ensures.so)
    (end_side g.K.Sink.written g.K.Sink.faults plan first (lock_base c.args.lock.now) was now before same side c.in-End.end (lines_taken side.taker) side.sink
    (subst (λ (came : LineArrival). ControlGoes g.K.Sink.written g.K.Sink.faults plan (was ∷ before) (lines_taken side.taker) (Some (line_heard_of came)) first side.sink) c.in-End.is goes)
    c.enter_ending.ensures.ended refl c.requires.unkept refl enters)
