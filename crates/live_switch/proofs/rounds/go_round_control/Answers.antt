use Rattle.std.proofs.Common.{◌≡◌, ◌∷◌, false, ◌∙◌, refl}
use Rattle.savi_history.specs.Passes.{control_pass, has_ended}
use Rattle.savi_core.specs.Machines.{base_of}
use Rattle.live_turns.proofs.MadeOnly.{made_none}
use Rattle.live_switch.proofs.Roundwise.{control_moved, control_unended, not_ended}
use Rattle.live_switch.proofs.rounds.go_round_control.Goals as goal

pub returns-then-not-full : goal.returns-then-not-full
returns-then-not-full g c =
    let kept = c.args.kept.now in
    let old = kept.core.value in
    let fetched = c.fetch_line-has_line in
    let running : has_ended (base_of old) (control_pass old.plan) old.past ≡ false = not_ended c.deref.result.now old (λ m. control_pass m.plan) c.ended.result c.deref.ensures c.ended.ensures c.if-ended.false in
    control_moved g.K.Sink.written g.K.Sink.faults g.C.Clock.readings kept kept c.args.service.now c.requires fetched.new.control fetched.ensures.ring refl refl (made_none (control_pass old.plan) old.past)
    (λ first before legals base legal stands. fetched.ensures.stands old.plan (old.past ∷ before) first (control_unended kept before running legals base legal) stands)

pub returns : goal.returns
returns g c =
    let kept = c.args.kept.now in
    let old = kept.core.value in
    let fetched = c.fetch_line-has_line in
    let round = c.round.ensures in
    let running : has_ended (base_of old) (control_pass old.plan) old.past ≡ false = not_ended c.deref.result.now old (λ m. control_pass m.plan) c.ended.result c.deref.ensures c.ended.ensures c.if-ended.false in
    control_moved g.K.Sink.written g.K.Sink.faults g.C.Clock.readings kept c.round.new.core c.args.service.now c.requires c.round.new.self (round.ring ∙ fetched.ensures.ring) round.plan round.checkpoint round.made
    (λ first before legals base legal stands. round.stands before first legals base (fetched.ensures.stands old.plan (old.past ∷ before) first (control_unended kept before running legals base round.legal) stands))
