use Rattle.std.proofs.Common.{Bool, refl, subst}
use Rattle.core_keep.specs.Seen.{past_seen}
use Rattle.live_turns.specs.Seats.{lock_base, lock_plan}
use Rattle.live_turns.specs.TurnKinds.{DidLine}
use Rattle.live_control.specs.LineTurns.{AddsLine, line_told}
use Rattle.live_control.proofs.LineOutcomes.{answered_last, answered_on, may_end, reply_end}
use Rattle.live_control.proofs.Told.{ends_here, ends_through, enters_here, enters_through, paused_here, same_through}
use Rattle.live_control.proofs.answering.answer.Goals as goal

pub returns-then-not-entered-clause-answers : goal.returns-then-not-entered-clause-answers
returns-then-not-entered-clause-answers g c =
    let plan = lock_plan c.args.lock.now in
    let base = lock_base c.args.lock.now in
    let turned = c.line_turn-turns.ensures.turned in
    let after = past_seen c.line_turn-turns.result.0.pass in
    let did = subst (λ (b : Bool). DidLine c.args.stamp c.args.line.now b c.line_turn-turns.new.reply plan base turned.found after) c.if-not-entered.true turned.did in (
      same_through plan base (past_seen c.args.turns.pass) turned.found after turned.legal turned.later (paused_here plan base turned.found after did),
      refl {a = c.args.sink.now},
    )

pub returns-in-None-clause-answers : goal.returns-in-None-clause-answers
returns-in-None-clause-answers g c =
    let plan = lock_plan c.args.lock.now in
    let base = lock_base c.args.lock.now in
    let turned = c.line_turn-turns.ensures.turned in
    let before = past_seen c.args.turns.pass in
    let after = past_seen c.line_turn-turns.result.0.pass in
    let line = line_told c.args.stamp c.args.line.now in
    let reply = c.line_turn-turns.new.reply in
    let did = subst (λ (b : Bool). DidLine c.args.stamp c.args.line.now b reply plan base turned.found after) c.if-not-entered.false turned.did in
    let enters : AddsLine plan base line reply before after =
    enters_through plan base before turned.found after turned.legal turned.later line reply (enters_here plan base turned.found after c.args.stamp c.args.line.now reply did) in
    answered_on g.K.Sink.written g.K.Sink.faults plan base line reply before after c.args.sink.now c.reply_to.new.sink enters c.in-None.ensures.took c.reply_to.ensures.later

pub end_turn-turns-requires-clause-may : goal.end_turn-turns-requires-clause-may
end_turn-turns-requires-clause-may g c κs within past = may_end _ _ _ _ _ _ c.in-Some.how (lock_plan c.args.lock.now) past c.in-Some.ensures.took

pub returns-in-Some-clause-answers : goal.returns-in-Some-clause-answers
returns-in-Some-clause-answers g c =
    let plan = lock_plan c.args.lock.now in
    let base = lock_base c.args.lock.now in
    let turned = c.line_turn-turns.ensures.turned in
    let over = c.end_turn-turns.ensures.turned in
    let before = past_seen c.args.turns.pass in
    let mid = past_seen c.line_turn-turns.result.0.pass in
    let after = past_seen c.end_turn-turns.result.pass in
    let line = line_told c.args.stamp c.args.line.now in
    let reply = c.line_turn-turns.new.reply in
    let how = c.in-Some.how in
    let did = subst (λ (b : Bool). DidLine c.args.stamp c.args.line.now b reply plan base turned.found mid) c.if-not-entered.false turned.did in
    let enters : AddsLine plan base line reply before mid =
    enters_through plan base before turned.found mid turned.legal turned.later line reply (enters_here plan base turned.found mid c.args.stamp c.args.line.now reply did) in
    answered_last g.K.Sink.written g.K.Sink.faults plan base line reply before mid c.args.sink.now c.reply_to.new.sink enters after how
    (ends_through plan base mid over.found after over.legal over.later how (ends_here plan base over.found after how (reply_end _ _ _ _ _ _ how c.in-Some.ensures.took) over.did))
    c.in-Some.ensures.took c.reply_to.ensures.later
