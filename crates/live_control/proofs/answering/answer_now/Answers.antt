use Rattle.std.proofs.Common.{◌≡◌, Bool, false, not, refl, sym, ap, subst, ◌∙◌}
use Rattle.savi_kinds.specs.declared.plan.Plan.{Plan}
use Rattle.savi_kinds.specs.declared.entry.Who.TheVariants.{Control}
use Rattle.checkpoint.specs.Bases.{Base}
use Rattle.checkpoint.specs.Columns.{kept_base}
use Rattle.savi_history.specs.Legal.{IsOpen}
use Rattle.savi_history.specs.Passes.{control_pass, has_ended}
use Rattle.savi_core.specs.Machines.{base_of}
use Rattle.live_turns.specs.Rounds.{MadeBy}
use Rattle.live_turns.specs.TurnKinds.{DidEnd, DidLine}
use Rattle.live_turns.proofs.Entering.{end_one, line_one, line_state}
use Rattle.live_turns.proofs.MadeOnly.{made_both, made_by}
use Rattle.live_control.specs.LineTurns.{line_told}
use Rattle.live_control.proofs.LineOutcomes.{answered_last, answered_on, may_end, reply_end}
use Rattle.live_control.proofs.Told.{ends_here, enters_here, paused_here}
use Rattle.live_control.proofs.answering.answer_now.Goals as goal

pub returns-then-not-entered-clause-made : goal.returns-then-not-entered-clause-made
returns-then-not-entered-clause-made g c =
    let old = c.args.core.now.core.value in
    let line = c.enter_line-entered in
    let mid = line.new.kept.core.value.past in
    made_by old.plan (base_of old) old.past mid Control (line_one old.plan (base_of old) old.past mid c.args.stamp c.args.line.now line.new.reply line.result line.ensures.did)

pub returns-then-not-entered-clause-answers : goal.returns-then-not-entered-clause-answers
returns-then-not-entered-clause-answers g c =
    let old = c.args.core.now.core.value in
    let line = c.enter_line-entered in
    let mid = line.new.kept.core.value.past in
    let did = subst (λ (b : Bool). DidLine c.args.stamp c.args.line.now b line.new.reply old.plan (base_of old) old.past mid) c.if-not-entered.true line.ensures.did in
    (paused_here old.plan (base_of old) old.past mid did, refl)

pub returns-in-None-clause-made : goal.returns-in-None-clause-made
returns-in-None-clause-made g c =
    let old = c.args.core.now.core.value in
    let line = c.enter_line-entered in
    let mid = line.new.kept.core.value.past in
    made_by old.plan (base_of old) old.past mid Control (line_one old.plan (base_of old) old.past mid c.args.stamp c.args.line.now line.new.reply line.result line.ensures.did)

pub returns-in-None-clause-answers : goal.returns-in-None-clause-answers
returns-in-None-clause-answers g c =
    let old = c.args.core.now.core.value in
    let line = c.enter_line-entered in
    let mid = line.new.kept.core.value.past in
    let did = subst (λ (b : Bool). DidLine c.args.stamp c.args.line.now b line.new.reply old.plan (base_of old) old.past mid) c.if-not-entered.false line.ensures.did in
    answered_on g.K.Sink.written g.K.Sink.faults old.plan (base_of old) (line_told c.args.stamp c.args.line.now) line.new.reply old.past mid c.args.sink.now c.reply_to.new.sink
    (enters_here old.plan (base_of old) old.past mid c.args.stamp c.args.line.now line.new.reply did) c.in-None.ensures.took c.reply_to.ensures.later

pub end_pass-requires-clause-open : goal.end_pass-requires-clause-open
end_pass-requires-clause-open g c =
    let old = c.args.core.now.core.value in
    let line = c.enter_line-entered in
    let mid = line.new.kept.core.value in
    let base_is : base_of mid ≡ base_of old = ap kept_base line.ensures.checkpoint in
    let running : has_ended (base_of old) (control_pass old.plan) mid.past ≡ false =
    line_state old.plan (base_of old) old.past mid.past c.args.stamp c.args.line.now line.new.reply line.result c.requires.open.running line.ensures.did ∙ ap not c.if-not-entered.false in
    subst (λ (t : Plan × Base). IsOpen t.0 t.1 mid.past Control) (λ i. (sym line.ensures.plan i, sym base_is i)) (record { known = refl; running = running })

pub end_pass-requires-clause-may : goal.end_pass-requires-clause-may
end_pass-requires-clause-may g c =
    let mid = c.enter_line-entered.new.kept.core.value in may_end _ _ _ _ _ _ c.in-Some.how mid.plan mid.past c.in-Some.ensures.took

pub returns-in-Some-clause-made : goal.returns-in-Some-clause-made
returns-in-Some-clause-made g c =
    let old = c.args.core.now.core.value in
    let line = c.enter_line-entered in
    let mid = line.new.kept.core.value in
    let after = c.end_pass.new.kept.core.value.past in
    let one = made_by old.plan (base_of old) old.past mid.past Control (line_one old.plan (base_of old) old.past mid.past c.args.stamp c.args.line.now line.new.reply line.result line.ensures.did) in
    let two = made_by mid.plan (base_of mid) mid.past after Control (end_one mid.plan (base_of mid) mid.past after Control c.in-Some.how c.end_pass.ensures.did) in
    made_both (control_pass old.plan) old.past mid.past after one (subst (λ (plan : Plan). MadeBy (control_pass plan) mid.past after) line.ensures.plan two)

pub returns-in-Some-clause-answers : goal.returns-in-Some-clause-answers
returns-in-Some-clause-answers g c =
    let old = c.args.core.now.core.value in
    let line = c.enter_line-entered in
    let mid = line.new.kept.core.value in
    let after = c.end_pass.new.kept.core.value.past in
    let how = c.in-Some.how in
    let base_is : base_of mid ≡ base_of old = ap kept_base line.ensures.checkpoint in
    let entered = subst (λ (b : Bool). DidLine c.args.stamp c.args.line.now b line.new.reply old.plan (base_of old) old.past mid.past) c.if-not-entered.false line.ensures.did in
    let ended = subst (λ (t : Plan × Base). DidEnd Control how t.0 t.1 mid.past after) (λ i. (line.ensures.plan i, base_is i)) c.end_pass.ensures.did in
    answered_last g.K.Sink.written g.K.Sink.faults old.plan (base_of old) (line_told c.args.stamp c.args.line.now) line.new.reply old.past mid.past c.args.sink.now c.reply_to.new.sink
    (enters_here old.plan (base_of old) old.past mid.past c.args.stamp c.args.line.now line.new.reply entered)
    after how (ends_here old.plan (base_of old) mid.past after how (reply_end _ _ _ _ _ _ how c.in-Some.ensures.took) ended) c.in-Some.ensures.took c.reply_to.ensures.later
