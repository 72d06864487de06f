use Rattle.std.proofs.Common.{List, ◌∷◌, Option, None, Some, sym, ap, subst, ◌∙◌}
use Rattle.savi_kinds.specs.Ports.{number_of}
use Rattle.savi_kinds.specs.declared.entry.Who.TheVariants as passes
use Rattle.savi_kinds.specs.declared.port.Port.{Port}
use Rattle.savi_history.specs.Legal.{IsOpen}
use Rattle.savi_history.specs.Passes.{place_of}
use Rattle.savi_core.specs.Machines.{base_of}
use Rattle.parcel_ring.specs.Handed.{Handed}
use Rattle.parcel_ring.specs.Lent.{handed_by}
use Rattle.parcel_ring.specs.Sides.{was_taken}
use Rattle.live_session.specs.Standing.{InputStands}
use Rattle.live_turns.specs.Rounds.{MadeBy}
use Rattle.live_turns.proofs.Entering.{look_one}
use Rattle.live_turns.proofs.MadeOnly.{made_by}
use Rattle.live_input.specs.Entered.{TellsSame}
use Rattle.live_input.specs.Judged.{InputGoes, JudgesOne, kept_behind, kept_of}
use Rattle.live_input.proofs.InputTurns.{looks_here}
use Rattle.live_input.proofs.Judging.{goes_next, goes_same, goes_stands, judged, open_goes, stands_as}
use Rattle.live_input.proofs.judge.Ingress.round.Goals as goal

pub judge_now-state-requires-clause-open : goal.judge_now-state-requires-clause-open
judge_now-state-requires-clause-open g c =
    let old = c.args.core.now.core.value in
    subst (λ (p : Port). IsOpen old.plan (base_of old) old.past (passes.Ingress p)) (sym c.next_now.ensures.port) c.requires

pub returns-in-Some-clause-made : goal.returns-in-Some-clause-made
returns-in-Some-clause-made g c =
    let old = c.args.core.now.core.value in
    let judged = c.judge_now-state in
    subst (λ (p : Port). MadeBy (place_of old.plan (number_of p)) old.past judged.new.core.core.value.past) c.next_now.ensures.port judged.ensures.made

pub returns-in-Some-clause-stands : goal.returns-in-Some-clause-stands
returns-in-Some-clause-stands g c = λ before all same stands.
    let judge = c.args.self.now in
    let port = number_of judge.port in
    let old = c.args.core.now.core.value in
    let now = c.judge_now-state.new.core.core.value.past in
    let state = c.judge_now-state.result in
    let parcel = c.in-Some.parcel in
    let handed = handed_by c.arrival.result in
    let taken = was_taken c.next_now.new.self.taker in
    let came = sym c.deref.ensures ∙ sym c.arrival.ensures.came in
    let goes = open_goes old.plan (base_of old) port before old.past (was_taken judge.taker) (kept_of judge.kept) c.requires.known same c.requires.running c.judge_now-state.ensures.legal all stands in
    let next = goes_next port (old.past ∷ before) (was_taken judge.taker) taken judge.kept (Some parcel) c.in-Some.ensures.next goes in
    let held = subst (λ (h : Handed). InputGoes port (old.past ∷ before) taken (Some h)) came next in
    let one = subst (λ (p : Port). JudgesOne (number_of p) handed state old.past now) c.next_now.ensures.port c.judge_now-state.ensures.judged in
    let kept = c.settle.ensures.kept ∙ ap (kept_behind state) came in
    subst (λ (t : List Handed × Option Handed). InputStands port (now ∷ before) t.0 t.1) (λ i. (sym c.settle.ensures.taken i, sym kept i))
    (stands_as port (now ∷ before) taken (kept_behind state handed) state (judged port handed state old.past now before taken one held))

pub pause_if_full-requires-clause-open : goal.pause_if_full-requires-clause-open
pause_if_full-requires-clause-open g c =
    let old = c.args.core.now.core.value in
    subst (λ (p : Port). IsOpen old.plan (base_of old) old.past (passes.Ingress p)) (sym c.next_now.ensures.port) c.requires

pub returns-in-None-clause-made : goal.returns-in-None-clause-made
returns-in-None-clause-made g c =
    let old = c.args.core.now.core.value in
    let now = c.pause_if_full.new.kept.core.value.past in
    let who = passes.Ingress c.next_now.new.self.port in
    subst (λ (p : Port). MadeBy (place_of old.plan (number_of p)) old.past now) c.next_now.ensures.port
    (made_by old.plan (base_of old) old.past now who (look_one old.plan (base_of old) old.past now who c.pause_if_full.result c.pause_if_full.ensures.did))

pub returns-in-None-clause-stands : goal.returns-in-None-clause-stands
returns-in-None-clause-stands g c = λ before all same stands.
    let judge = c.args.self.now in
    let port = number_of judge.port in
    let old = c.args.core.now.core.value in
    let now = c.pause_if_full.new.kept.core.value.past in
    let taken = was_taken c.next_now.new.self.taker in
    let goes = open_goes old.plan (base_of old) port before old.past (was_taken judge.taker) (kept_of judge.kept) c.requires.known same c.requires.running c.pause_if_full.ensures.legal all stands in
    let next = goes_next port (old.past ∷ before) (was_taken judge.taker) taken judge.kept None c.in-None.ensures.next goes in
    let looked = looks_here old.plan (base_of old) old.past now c.next_now.new.self.port c.pause_if_full.result c.pause_if_full.ensures.did in
    let told = subst (λ (p : Port). TellsSame (number_of p) old.past now) c.next_now.ensures.port looked in
    let still = goes_same port (old.past ∷ before) (now ∷ before) taken None (told before) next in
    subst (λ (o : Option Handed). InputStands port (now ∷ before) taken o) (sym (ap kept_of c.next_now.ensures.unkept))
    (goes_stands port (now ∷ before) taken None still)
