use Rattle.std.proofs.Common.{◌∷◌, None, Some, refl, ap, ◌∙◌}
use Rattle.savi_kinds.specs.declared.entry.Who.TheVariants.{Control}
use Rattle.savi_core.specs.Machines.{base_of}
use Rattle.control_reader.specs.Heard.{line_heard_of, lines_taken}
use Rattle.live_turns.proofs.Entering.{look_one}
use Rattle.live_turns.proofs.MadeOnly.{made_by}
use Rattle.live_control.specs.Sides.{heard_in}
use Rattle.live_control.specs.declared.state.ControlState.TheVariants as states
use Rattle.live_control.proofs.Passing.{goes_next, side_stands}
use Rattle.live_control.proofs.Stepping.{look_side}
use Rattle.live_control.proofs.Told.{looks_here}
use Rattle.live_control.proofs.side.ControlSide.round.Goals as goal

pub returns-in-Some-clause-stands : goal.returns-in-Some-clause-stands
returns-in-Some-clause-stands g c = λ before first same goes.
    let side = c.args.self.now in
    let old = c.args.core.now.core.value in
    c.enter_now.ensures.stands before first same (c.next_now.ensures.passes ∙ goes.enters)
    (goes_next g.K.Sink.written g.K.Sink.faults old.plan (old.past ∷ before) first side c.next_now.new.self (Some (line_heard_of c.in-Some.came)) c.next_now.ensures.sink c.in-Some.ensures.next goes.goes)

pub returns-in-None-clause-made : goal.returns-in-None-clause-made
returns-in-None-clause-made g c =
    let old = c.args.core.now.core.value in
    let now = c.pause_if_full.new.kept.core.value.past in
    made_by old.plan (base_of old) old.past now Control (look_one old.plan (base_of old) old.past now Control c.pause_if_full.result c.pause_if_full.ensures.did)

pub returns-in-None-clause-stands : goal.returns-in-None-clause-stands
returns-in-None-clause-stands g c = λ before first same goes.
    let side = c.args.self.now in
    let next = c.next_now.new.self in
    let old = c.args.core.now.core.value in
    let now = c.pause_if_full.new.kept.core.value.past in
    side_stands g.K.Sink.written g.K.Sink.faults old.plan (now ∷ before) first next
    (look_side g.K.Sink.written g.K.Sink.faults old.plan first (base_of old) old.past now before same next states.Open (lines_taken next.taker) None next.sink tt
    (goes_next g.K.Sink.written g.K.Sink.faults old.plan (old.past ∷ before) first side next None c.next_now.ensures.sink c.in-None.ensures.next goes.goes)
    (looks_here old.plan (base_of old) old.past now c.pause_if_full.result c.pause_if_full.ensures.did) refl (ap heard_in c.next_now.ensures.unkept) refl (c.next_now.ensures.passes ∙ goes.enters))
