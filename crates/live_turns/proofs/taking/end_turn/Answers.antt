use Rattle.std.proofs.Common.{◌∙◌, true, refl, sym, ap, subst}
use Rattle.savi_kinds.specs.declared.plan.Plan.{Plan}
use Rattle.checkpoint.specs.Bases.{Base}
use Rattle.savi_history.specs.Legal.{MayEnd}
use Rattle.savi_core.specs.Machines.{base_of}
use Rattle.core_keep.specs.declared.keep.KeptCore.{KeptCore}
use Rattle.core_keep.specs.Pasts.{coded}
use Rattle.table_lock.specs.Passes.{pass_number, pass_seen, pass_sleeps_at}
use Rattle.live_turns.specs.Seats.{kept_fixed}
use Rattle.live_turns.specs.TurnKinds.{DidEnd}
use Rattle.live_turns.specs.Wakes.{Wakes}
use Rattle.live_turns.proofs.Entering.{end_one, end_state}
use Rattle.live_turns.proofs.WokenPorts.{behind_turn}
use Rattle.live_turns.proofs.Turning.{Finds, finds, left_of, may_leave, stands, turned}
use Rattle.live_turns.proofs.taking.end_turn.Goals as goal

pub end_pass-requires-clause-open : goal.end_pass-requires-clause-open
end_pass-requires-clause-open g c =
    let found : Finds c.args.lock.now c.args.who c.args.turns.pass c.value.result.now =
    finds c.args.lock.now c.args.who c.args.turns.pass c.requires.running c.into_pass.result c.value.result.now c.enter-held.result.place.me.0.seen c.into_pass.ensures
    (ap (λ (k : KeptCore). coded k.core.value.past) c.value.ensures.value ∙ c.enter-held.ensures.seen) c.enter-held.ensures.extends c.enter-held.ensures.own
    (ap kept_fixed c.value.ensures.value ∙ c.enter-held.ensures.fixed) in found.opens

pub end_pass-requires-clause-may : goal.end_pass-requires-clause-may
end_pass-requires-clause-may g c =
    let found : Finds c.args.lock.now c.args.who c.args.turns.pass c.value.result.now =
    finds c.args.lock.now c.args.who c.args.turns.pass c.requires.running c.into_pass.result c.value.result.now c.enter-held.result.place.me.0.seen c.into_pass.ensures
    (ap (λ (k : KeptCore). coded k.core.value.past) c.value.ensures.value ∙ c.enter-held.ensures.seen) c.enter-held.ensures.extends c.enter-held.ensures.own
    (ap kept_fixed c.value.ensures.value ∙ c.enter-held.ensures.fixed) in subst (λ (t : Plan × Base). MayEnd t.0 t.1 c.value.result.now.core.value.past c.args.who c.args.how) (λ i. (sym found.plan_is i, sym found.base_is i)) (c.requires.may c.value.result.now.core.value.past)

pub leave-pass-requires-clause-history : goal.leave-pass-requires-clause-history
leave-pass-requires-clause-history g c =
    let found : Finds c.args.lock.now c.args.who c.args.turns.pass c.value.result.now =
    finds c.args.lock.now c.args.who c.args.turns.pass c.requires.running c.into_pass.result c.value.result.now c.enter-held.result.place.me.0.seen c.into_pass.ensures
    (ap (λ (k : KeptCore). coded k.core.value.past) c.value.ensures.value ∙ c.enter-held.ensures.seen) c.enter-held.ensures.extends c.enter-held.ensures.own
    (ap kept_fixed c.value.ensures.value ∙ c.enter-held.ensures.fixed) in
    may_leave c.args.lock.now c.args.who c.args.turns.pass c.requires.running c.into_pass.result c.enter-held.result.number c.value.result.now c.end_pass.new.kept c.enter-held.result.place.me.0.seen c.into_pass.ensures c.enter-held.ensures.number found
    (ap (λ (k : KeptCore). coded k.core.value.past) c.value.ensures.value ∙ c.enter-held.ensures.seen)
    (end_one c.value.result.now.core.value.plan (base_of c.value.result.now.core.value) c.value.result.now.core.value.past c.end_pass.new.kept.core.value.past c.args.who c.args.how c.end_pass.ensures.did)

pub wake_all-woken-requires : goal.wake_all-woken-requires
wake_all-woken-requires g c = left_of c.args.lock.now c.enter-held.result.lock.now c.leave-pass.result c.leave-pass.result c.enter-held.ensures.lock refl c.leave-pass.ensures.pass

pub returns-clause-turned : goal.returns-clause-turned
returns-clause-turned g c =
    let found : Finds c.args.lock.now c.args.who c.args.turns.pass c.value.result.now =
    finds c.args.lock.now c.args.who c.args.turns.pass c.requires.running c.into_pass.result c.value.result.now c.enter-held.result.place.me.0.seen c.into_pass.ensures
    (ap (λ (k : KeptCore). coded k.core.value.past) c.value.ensures.value ∙ c.enter-held.ensures.seen) c.enter-held.ensures.extends c.enter-held.ensures.own
    (ap kept_fixed c.value.ensures.value ∙ c.enter-held.ensures.fixed) in
    turned c.args.lock.now c.args.who c.args.turns.pass c.requires.running c.value.result.now c.end_pass.new.kept c.after.result.pass found (ap pass_seen c.after.ensures.pass ∙ c.leave-pass.ensures.seen)
    (DidEnd c.args.who c.args.how) c.end_pass.ensures.legal c.end_pass.ensures.did

pub returns-clause-wakes : goal.returns-clause-wakes
returns-clause-wakes g c =
    let found : Finds c.args.lock.now c.args.who c.args.turns.pass c.value.result.now =
    finds c.args.lock.now c.args.who c.args.turns.pass c.requires.running c.into_pass.result c.value.result.now c.enter-held.result.place.me.0.seen c.into_pass.ensures
    (ap (λ (k : KeptCore). coded k.core.value.past) c.value.ensures.value ∙ c.enter-held.ensures.seen) c.enter-held.ensures.extends c.enter-held.ensures.own
    (ap kept_fixed c.value.ensures.value ∙ c.enter-held.ensures.fixed) in
    turned c.args.lock.now c.args.who c.args.turns.pass c.requires.running c.value.result.now c.end_pass.new.kept c.after.result.pass found (ap pass_seen c.after.ensures.pass ∙ c.leave-pass.ensures.seen)
    (Wakes (DidEnd c.args.who c.args.how) c.after.result.woken.items) c.end_pass.ensures.legal (c.end_pass.ensures.did, (λ to of grown. rw c.after.ensures.woken (c.wake_all-woken.ensures.all to)), (behind_turn (pass_seen c.leave-pass.result) c.end_pass.new.kept.core.value.past c.wake_all-woken.result c.after.result.woken c.after.ensures.woken c.leave-pass.ensures.seen c.wake_all-woken.ensures.behind))

pub returns-clause-ended : goal.returns-clause-ended
returns-clause-ended g c =
    let found : Finds c.args.lock.now c.args.who c.args.turns.pass c.value.result.now =
    finds c.args.lock.now c.args.who c.args.turns.pass c.requires.running c.into_pass.result c.value.result.now c.enter-held.result.place.me.0.seen c.into_pass.ensures
    (ap (λ (k : KeptCore). coded k.core.value.past) c.value.ensures.value ∙ c.enter-held.ensures.seen) c.enter-held.ensures.extends c.enter-held.ensures.own
    (ap kept_fixed c.value.ensures.value ∙ c.enter-held.ensures.fixed) in
    stands c.args.lock.now c.args.who c.args.turns.pass c.requires.running c.value.result.now c.end_pass.new.kept c.after.result.pass found (ap pass_seen c.after.ensures.pass ∙ c.leave-pass.ensures.seen)
    c.into_pass.result c.enter-held.result.number true c.into_pass.ensures c.enter-held.ensures.number (left_of c.args.lock.now c.enter-held.result.lock.now c.leave-pass.result c.after.result.pass c.enter-held.ensures.lock c.after.ensures.pass c.leave-pass.ensures.pass) (ap pass_number c.after.ensures.pass ∙ c.leave-pass.ensures.number) (ap pass_sleeps_at c.after.ensures.pass ∙ c.leave-pass.ensures.sleeps ∙ c.enter-held.ensures.sleeps)
    (end_state c.value.result.now.core.value.plan (base_of c.value.result.now.core.value) c.value.result.now.core.value.past c.end_pass.new.kept.core.value.past c.args.who c.args.how c.end_pass.ensures.did)
