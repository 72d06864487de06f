use Rattle.std.proofs.Common.{ℕ, List, ◌∷◌, Some, refl, sym, ap, subst}
use Rattle.savi_kinds.specs.declared.entry.How.{How}
use Rattle.savi_kinds.specs.declared.entry.Who.TheVariants.{Control}
use Rattle.savi_core.specs.Machines.{base_of}
use Rattle.intake_ring.specs.declared.taker.Taker.{Taker}
use Rattle.control_reader.specs.Heard.{line_heard_of, lines_taken, reason_of}
use Rattle.control_reader.specs.declared.arrival.LineArrival.{LineArrival}
use Rattle.live_turns.specs.TurnKinds.{DidEnd}
use Rattle.live_turns.proofs.Entering.{end_one}
use Rattle.live_turns.proofs.MadeOnly.{made_by}
use Rattle.live_control.specs.LineTurns.{AnswersLine, line_told}
use Rattle.live_control.specs.Sides.{ControlGoes}
use Rattle.live_control.proofs.LineOutcomes.{read_end}
use Rattle.live_control.proofs.Stepping.{end_side, line_side, stands_as}
use Rattle.live_control.proofs.Told.{ends_here}
use Rattle.live_control.proofs.side.ControlSide.enter_now.Goals as goal

pub returns-in-Line-clause-stands : goal.returns-in-Line-clause-stands
returns-in-Line-clause-stands g c = λ before first same enters goes.
    let side = c.args.self.now in
    let new = c.settle.new.self in
    let old = c.args.core.now.core.value in
    let now = c.answer_now-state.new.core.core.value.past in
    let line = line_told c.in-Line.stamp c.in-Line.octets.items in
    let state = c.answer_now-state.result in
    stands_as g.K.Sink.written g.K.Sink.faults old.plan first (now ∷ before) state new
    (line_side g.K.Sink.written g.K.Sink.faults old.plan first (base_of old) old.past now before same new line state (lines_taken side.taker) side.sink
    (subst (λ (came : LineArrival). ControlGoes g.K.Sink.written g.K.Sink.faults old.plan (old.past ∷ before) (lines_taken side.taker) (Some (line_heard_of came)) first side.sink) c.in-Line.is goes)
    (subst (λ (octets : List ℕ). AnswersLine g.K.Sink.written g.K.Sink.faults old.plan (base_of old) (line_told c.in-Line.stamp octets) state old.past now side.sink new.sink) c.as_slice.ensures.value
    (subst (λ (k : g.row.K.Denot). AnswersLine g.K.Sink.written g.K.Sink.faults old.plan (base_of old) (line_told c.in-Line.stamp c.as_slice.result.now) state old.past now side.sink k) (sym c.settle.ensures.sink) c.answer_now-state.ensures.answers))
    (ap (λ (taker : Taker LineArrival). lines_taken taker) c.settle.ensures.taker) c.settle.ensures.kept c.settle.ensures.passes)

pub returns-in-End-clause-made : goal.returns-in-End-clause-made
returns-in-End-clause-made g c =
    let old = c.args.core.now.core.value in
    let now = c.end_pass.new.kept.core.value.past in
    made_by old.plan (base_of old) old.past now Control (end_one old.plan (base_of old) old.past now Control c.reason.result c.end_pass.ensures.did)

pub returns-in-End-clause-stands : goal.returns-in-End-clause-stands
returns-in-End-clause-stands g c = λ before first same enters goes.
    let side = c.args.self.now in
    let old = c.args.core.now.core.value in
    let now = c.end_pass.new.kept.core.value.past in
    let how = reason_of c.in-End.end in
    let did = subst (λ (h : How). DidEnd Control h old.plan (base_of old) old.past now) c.reason.ensures c.end_pass.ensures.did in
    end_side g.K.Sink.written g.K.Sink.faults old.plan first (base_of old) old.past now before same side c.in-End.end (lines_taken side.taker) side.sink
    (subst (λ (came : LineArrival). ControlGoes g.K.Sink.written g.K.Sink.faults old.plan (old.past ∷ before) (lines_taken side.taker) (Some (line_heard_of came)) first side.sink) c.in-End.is goes)
    (ends_here old.plan (base_of old) old.past now how (read_end c.in-End.end) did) refl c.requires.unkept refl enters
