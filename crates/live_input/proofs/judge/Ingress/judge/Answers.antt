use Rattle.std.proofs.Common.{List, ◌∷◌, Option, Some, sym, ap, subst, ◌∙◌}
use Rattle.savi_kinds.specs.Ports.{number_of}
use Rattle.core_keep.specs.Seen.{past_seen}
use Rattle.parcel_ring.specs.Handed.{Handed}
use Rattle.parcel_ring.specs.Lent.{handed_by}
use Rattle.parcel_ring.specs.Sides.{was_taken}
use Rattle.live_input.specs.Judged.{InputGoes, StandsAs, kept_behind}
use Rattle.live_input.proofs.Judging.{judged}
use Rattle.live_input.proofs.judge.Ingress.judge.Goals as goal

-- the arrival that is read of the parcel is what is in it
pub returns-clause-goes : goal.returns-clause-goes
returns-clause-goes g c = λ before goes.
    let port = number_of c.args.self.now.port in
    let state = c.judge_one-turns.result.1 in
    let handed = handed_by c.arrival.result in
    let now = past_seen c.judge_one-turns.result.0.pass in
    let kept = c.settle.ensures.kept ∙ ap (kept_behind state) (sym c.deref.ensures ∙ sym c.arrival.ensures.came) in
    let held = subst (λ (h : Handed). InputGoes port (past_seen c.args.turns.pass ∷ before) (was_taken c.args.self.now.taker) (Some h)) (sym c.deref.ensures ∙ sym c.arrival.ensures.came) goes in
    subst (λ (t : List Handed × Option Handed). StandsAs state port (now ∷ before) t.0 t.1) (λ i. (sym c.settle.ensures.taken i, sym kept i))
    (judged port handed state (past_seen c.args.turns.pass) now before (was_taken c.args.self.now.taker) c.judge_one-turns.ensures.judged held)
