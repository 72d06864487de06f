use Rattle.std.proofs.Common.{◌∷◌, None, Some, sym, ap, subst, Option}
use Rattle.std.specs.Prelude.{box_value}
use Rattle.savi_kinds.specs.declared.entry.Who.TheVariants as passes
use Rattle.savi_kinds.specs.declared.port.Port.{Port}
use Rattle.savi_kinds.specs.Ports.{number_of}
use Rattle.core_keep.specs.Seen.{past_seen}
use Rattle.parcel_ring.specs.Handed.{Handed}
use Rattle.parcel_ring.specs.Sides.{was_taken}
use Rattle.live_turns.specs.Seats.{IsAt, IsRunning}
use Rattle.live_input.specs.Entered.{TellsSame}
use Rattle.live_input.specs.Judged.{InputGoes, StandsAs, has_stopped, kept_of}
use Rattle.live_input.proofs.Judging.{goes_next, not_judged}
use Rattle.live_input.proofs.judge.Ingress.step.Goals as goal

pub judge-requires-clause-running : goal.judge-requires-clause-running
judge-requires-clause-running g c κs within =
    subst (λ (p : Port). IsRunning c.args.lock.now (passes.Ingress p) c.args.turns.pass) (sym c.next.ensures.port) c.requires.running

pub look_for_room-requires-clause-running : goal.look_for_room-requires-clause-running
look_for_room-requires-clause-running g c κs within =
    subst (λ (p : Port). IsRunning c.args.lock.now (passes.Ingress p) c.args.turns.pass) (sym c.next.ensures.port) c.requires.running

pub returns-in-Some-clause-state : goal.returns-in-Some-clause-state
returns-in-Some-clause-state g c =
    subst (λ (p : Port). IsAt c.args.lock.now (passes.Ingress p) (has_stopped c.judge.result.1) c.judge.result.0.pass) c.next.ensures.port c.judge.ensures.state

pub returns-in-Some-clause-goes : goal.returns-in-Some-clause-goes
returns-in-Some-clause-goes g c = λ before goes.
    let judge = c.args.self.now in
    let parcel = c.in-Some.parcel in
    let taken = was_taken c.next.new.self.taker in
    let old = past_seen c.args.turns.pass ∷ before in
    let next = goes_next (number_of judge.port) old (was_taken judge.taker) taken judge.kept (Some parcel) c.in-Some.ensures.next goes in
    let held = subst (λ (p : Port). InputGoes (number_of p) old taken (Some (box_value parcel))) (sym c.next.ensures.port) next in
    subst (λ (p : Port). StandsAs c.judge.result.1 (number_of p) (past_seen c.judge.result.0.pass ∷ before) (was_taken c.judge.new.self.taker) (kept_of c.judge.new.self.kept)) c.next.ensures.port
    (c.judge.ensures.goes before held)

pub returns-in-None-clause-state : goal.returns-in-None-clause-state
returns-in-None-clause-state g c =
    let looked = c.look_for_room in
    subst (λ (p : Port). IsAt c.args.lock.now (passes.Ingress p) (has_stopped looked.result.1) looked.result.0.pass) c.next.ensures.port looked.ensures.state

pub returns-in-None-clause-goes : goal.returns-in-None-clause-goes
returns-in-None-clause-goes g c = λ before goes.
    let judge = c.args.self.now in
    let port = number_of judge.port in
    let looked = c.look_for_room in
    let taken = was_taken c.next.new.self.taker in
    let next = goes_next port (past_seen c.args.turns.pass ∷ before) (was_taken judge.taker) taken judge.kept None c.in-None.ensures.next goes in
    let same = subst (λ (p : Port). TellsSame (number_of p) (past_seen c.args.turns.pass) (past_seen looked.result.0.pass)) c.next.ensures.port looked.ensures.same in
    subst (λ (o : Option Handed). StandsAs looked.result.1 port (past_seen looked.result.0.pass ∷ before) taken o) (sym (ap kept_of c.next.ensures.unkept))
    (not_judged port (past_seen c.args.turns.pass) (past_seen looked.result.0.pass) before taken None looked.result.1 looked.ensures.unended same next)

pub returns-in-None-2-clause-goes : goal.returns-in-None-2-clause-goes
returns-in-None-2-clause-goes g c = λ before goes.
    let judge = c.args.self.now in
    let port = number_of judge.port in
    let taken = was_taken c.next.new.self.taker in
    let segments = past_seen c.args.turns.pass ∷ before in
    let next = goes_next port segments (was_taken judge.taker) taken judge.kept None c.in-None-2.ensures.next goes in
    subst (λ (o : Option Handed). InputGoes port segments taken o) (sym (ap kept_of c.next.ensures.unkept)) next
