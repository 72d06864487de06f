use Rattle.std.proofs.Common.{◌∷◌, None, Some, refl, ap, ◌∙◌}
use Rattle.core_keep.specs.Seen.{past_seen}
use Rattle.control_reader.specs.Heard.{line_heard_of, lines_taken}
use Rattle.live_turns.specs.Seats.{lock_base, lock_plan}
use Rattle.live_control.specs.Sides.{heard_in}
use Rattle.live_control.proofs.Passing.{goes_next}
use Rattle.live_control.proofs.Stepping.{look_side}
use Rattle.live_control.proofs.side.ControlSide.step.Goals as goal

pub returns-in-Some-clause-goes : goal.returns-in-Some-clause-goes
returns-in-Some-clause-goes g c = λ before first same goes.
    let side = c.args.self.now in
    let next = c.next.new.self in
    c.enter.ensures.goes before first same (c.next.ensures.passes ∙ goes.enters)
    (goes_next g.K.Sink.written g.K.Sink.faults (lock_plan c.args.lock.now) (past_seen c.args.turns.pass ∷ before) first side next (Some (line_heard_of c.in-Some.came)) c.next.ensures.sink c.in-Some.ensures.next goes.goes)

pub returns-in-None-clause-goes : goal.returns-in-None-clause-goes
returns-in-None-clause-goes g c = λ before first same goes.
    let side = c.args.self.now in
    let next = c.next.new.self in
    let looked = c.look_for_room in
    look_side g.K.Sink.written g.K.Sink.faults (lock_plan c.args.lock.now) first (lock_base c.args.lock.now) (past_seen c.args.turns.pass) (past_seen looked.result.0.pass) before same next
    looked.result.1 (lines_taken next.taker) None next.sink looked.ensures.unended
    (goes_next g.K.Sink.written g.K.Sink.faults (lock_plan c.args.lock.now) (past_seen c.args.turns.pass ∷ before) first side next None c.next.ensures.sink c.in-None.ensures.next goes.goes)
    looked.ensures.same refl (ap heard_in c.next.ensures.unkept) refl (c.next.ensures.passes ∙ goes.enters)
