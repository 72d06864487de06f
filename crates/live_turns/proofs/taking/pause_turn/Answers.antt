use Rattle.std.proofs.Common.{◌∙◌, ap, refl}
use Rattle.savi_core.specs.Machines.{base_of}
use Rattle.core_keep.specs.declared.keep.KeptCore.{KeptCore}
use Rattle.core_keep.specs.Pasts.{coded}
use Rattle.table_lock.specs.Passes.{pass_number, pass_seen, pass_sleeps_at}
use Rattle.live_turns.specs.Seats.{kept_fixed}
use Rattle.live_turns.specs.TurnKinds.{DidLook}
use Rattle.live_turns.specs.Wakes.{Wakes}
use Rattle.live_turns.proofs.Growing.{none_grown_look}
use Rattle.live_turns.proofs.Entering.{look_one, look_state}
use Rattle.live_turns.proofs.WokenPorts.{behind_turn}
use Rattle.live_turns.proofs.Turning.{Finds, finds, left_of, may_leave, stands, turned}
use Rattle.live_turns.proofs.taking.pause_turn.Goals as goal

pub pause_if_full-paused-requires-clause-open : goal.pause_if_full-paused-requires-clause-open
pause_if_full-paused-requires-clause-open g c =
    let found : Finds c.args.lock.now c.args.who c.args.turns.pass c.value.result.now =
    finds c.args.lock.now c.args.who c.args.turns.pass c.requires.running c.into_pass.result c.value.result.now c.enter-held.result.place.me.0.seen c.into_pass.ensures
    (ap (λ (k : KeptCore). coded k.core.value.past) c.value.ensures.value ∙ c.enter-held.ensures.seen) c.enter-held.ensures.extends c.enter-held.ensures.own
    (ap kept_fixed c.value.ensures.value ∙ c.enter-held.ensures.fixed) in found.opens

pub leave-pass-requires-clause-history : goal.leave-pass-requires-clause-history
leave-pass-requires-clause-history g c =
    let found : Finds c.args.lock.now c.args.who c.args.turns.pass c.value.result.now =
    finds c.args.lock.now c.args.who c.args.turns.pass c.requires.running c.into_pass.result c.value.result.now c.enter-held.result.place.me.0.seen c.into_pass.ensures
    (ap (λ (k : KeptCore). coded k.core.value.past) c.value.ensures.value ∙ c.enter-held.ensures.seen) c.enter-held.ensures.extends c.enter-held.ensures.own
    (ap kept_fixed c.value.ensures.value ∙ c.enter-held.ensures.fixed) in
    may_leave c.args.lock.now c.args.who c.args.turns.pass c.requires.running c.into_pass.result c.enter-held.result.number c.value.result.now c.pause_if_full-paused.new.kept c.enter-held.result.place.me.0.seen c.into_pass.ensures c.enter-held.ensures.number found
    (ap (λ (k : KeptCore). coded k.core.value.past) c.value.ensures.value ∙ c.enter-held.ensures.seen)
    (look_one c.value.result.now.core.value.plan (base_of c.value.result.now.core.value) c.value.result.now.core.value.past c.pause_if_full-paused.new.kept.core.value.past c.args.who c.pause_if_full-paused.result c.pause_if_full-paused.ensures.did)

pub wake_all_if-woken-requires : goal.wake_all_if-woken-requires
wake_all_if-woken-requires g c = left_of c.args.lock.now c.enter-held.result.lock.now c.leave-pass.result c.leave-pass.result c.enter-held.ensures.lock refl c.leave-pass.ensures.pass

pub returns-clause-turned : goal.returns-clause-turned
returns-clause-turned g c =
    let found : Finds c.args.lock.now c.args.who c.args.turns.pass c.value.result.now =
    finds c.args.lock.now c.args.who c.args.turns.pass c.requires.running c.into_pass.result c.value.result.now c.enter-held.result.place.me.0.seen c.into_pass.ensures
    (ap (λ (k : KeptCore). coded k.core.value.past) c.value.ensures.value ∙ c.enter-held.ensures.seen) c.enter-held.ensures.extends c.enter-held.ensures.own
    (ap kept_fixed c.value.ensures.value ∙ c.enter-held.ensures.fixed) in
    turned c.args.lock.now c.args.who c.args.turns.pass c.requires.running c.value.result.now c.pause_if_full-paused.new.kept c.after.result.pass found (ap pass_seen c.after.ensures.pass ∙ c.leave-pass.ensures.seen)
    (DidLook c.args.who c.pause_if_full-paused.result) c.pause_if_full-paused.ensures.legal c.pause_if_full-paused.ensures.did

pub returns-clause-wakes : goal.returns-clause-wakes
returns-clause-wakes g c =
    let found : Finds c.args.lock.now c.args.who c.args.turns.pass c.value.result.now =
    finds c.args.lock.now c.args.who c.args.turns.pass c.requires.running c.into_pass.result c.value.result.now c.enter-held.result.place.me.0.seen c.into_pass.ensures
    (ap (λ (k : KeptCore). coded k.core.value.past) c.value.ensures.value ∙ c.enter-held.ensures.seen) c.enter-held.ensures.extends c.enter-held.ensures.own
    (ap kept_fixed c.value.ensures.value ∙ c.enter-held.ensures.fixed) in
    turned c.args.lock.now c.args.who c.args.turns.pass c.requires.running c.value.result.now c.pause_if_full-paused.new.kept c.after.result.pass found (ap pass_seen c.after.ensures.pass ∙ c.leave-pass.ensures.seen)
    (Wakes (DidLook c.args.who c.pause_if_full-paused.result) c.after.result.woken.items) c.pause_if_full-paused.ensures.legal (
      c.pause_if_full-paused.ensures.did,
      none_grown_look c.value.result.now.core.value.plan (base_of c.value.result.now.core.value) c.value.result.now.core.value.past c.args.who c.pause_if_full-paused.result c.pause_if_full-paused.new.kept.core.value.past c.after.result.woken.items c.pause_if_full-paused.ensures.did,
      behind_turn (pass_seen c.leave-pass.result) c.pause_if_full-paused.new.kept.core.value.past c.wake_all_if-woken.result c.after.result.woken c.after.ensures.woken c.leave-pass.ensures.seen c.wake_all_if-woken.ensures,
    )

pub returns-clause-state : goal.returns-clause-state
returns-clause-state g c =
    let found : Finds c.args.lock.now c.args.who c.args.turns.pass c.value.result.now =
    finds c.args.lock.now c.args.who c.args.turns.pass c.requires.running c.into_pass.result c.value.result.now c.enter-held.result.place.me.0.seen c.into_pass.ensures
    (ap (λ (k : KeptCore). coded k.core.value.past) c.value.ensures.value ∙ c.enter-held.ensures.seen) c.enter-held.ensures.extends c.enter-held.ensures.own
    (ap kept_fixed c.value.ensures.value ∙ c.enter-held.ensures.fixed) in
    stands c.args.lock.now c.args.who c.args.turns.pass c.requires.running c.value.result.now c.pause_if_full-paused.new.kept c.after.result.pass found (ap pass_seen c.after.ensures.pass ∙ c.leave-pass.ensures.seen)
    c.into_pass.result c.enter-held.result.number c.pause_if_full-paused.result c.into_pass.ensures c.enter-held.ensures.number (left_of c.args.lock.now c.enter-held.result.lock.now c.leave-pass.result c.after.result.pass c.enter-held.ensures.lock c.after.ensures.pass c.leave-pass.ensures.pass) (ap pass_number c.after.ensures.pass ∙ c.leave-pass.ensures.number) (ap pass_sleeps_at c.after.ensures.pass ∙ c.leave-pass.ensures.sleeps ∙ c.enter-held.ensures.sleeps)
    (look_state c.value.result.now.core.value.plan (base_of c.value.result.now.core.value) c.value.result.now.core.value.past c.pause_if_full-paused.new.kept.core.value.past c.args.who c.pause_if_full-paused.result found.opens.running c.pause_if_full-paused.ensures.did)
