use Rattle.std.proofs.Common.{◌∙◌, not, ap, refl}
use Rattle.savi_core.specs.Steps.{event_of}
use Rattle.savi_core.specs.Machines.{base_of}
use Rattle.core_keep.specs.declared.keep.KeptCore.{KeptCore}
use Rattle.core_keep.specs.Pasts.{coded}
use Rattle.table_lock.specs.Passes.{pass_number, pass_seen, pass_sleeps_at}
use Rattle.live_turns.specs.Seats.{kept_fixed}
use Rattle.live_turns.specs.TurnKinds.{DidInput, maker_of}
use Rattle.live_turns.specs.Wakes.{Wakes}
use Rattle.live_turns.proofs.Growing.{woken_too}
use Rattle.live_turns.proofs.WokenPorts.{behind_turn}
use Rattle.live_turns.proofs.Entering.{frame_one, frame_state}
use Rattle.live_turns.proofs.Turning.{Finds, finds, left_of, may_leave, stands, turned}
use Rattle.live_turns.proofs.taking.frame_turn.Goals as goal

pub enter_frame-entered-requires-clause-open : goal.enter_frame-entered-requires-clause-open
enter_frame-entered-requires-clause-open g c =
    let found : Finds c.args.lock.now (maker_of (event_of c.args.event)) c.args.turns.pass c.value.result.now =
    finds c.args.lock.now (maker_of (event_of c.args.event)) c.args.turns.pass c.requires.running c.into_pass.result c.value.result.now c.enter-held.result.place.me.0.seen c.into_pass.ensures
    (ap (λ (k : KeptCore). coded k.core.value.past) c.value.ensures.value ∙ c.enter-held.ensures.seen) c.enter-held.ensures.extends c.enter-held.ensures.own
    (ap kept_fixed c.value.ensures.value ∙ c.enter-held.ensures.fixed) in found.opens

pub leave-pass-requires-clause-history : goal.leave-pass-requires-clause-history
leave-pass-requires-clause-history g c =
    let found : Finds c.args.lock.now (maker_of (event_of c.args.event)) c.args.turns.pass c.value.result.now =
    finds c.args.lock.now (maker_of (event_of c.args.event)) c.args.turns.pass c.requires.running c.into_pass.result c.value.result.now c.enter-held.result.place.me.0.seen c.into_pass.ensures
    (ap (λ (k : KeptCore). coded k.core.value.past) c.value.ensures.value ∙ c.enter-held.ensures.seen) c.enter-held.ensures.extends c.enter-held.ensures.own
    (ap kept_fixed c.value.ensures.value ∙ c.enter-held.ensures.fixed) in
    may_leave c.args.lock.now (maker_of (event_of c.args.event)) c.args.turns.pass c.requires.running c.into_pass.result c.enter-held.result.number c.value.result.now c.enter_frame-entered.new.kept c.enter-held.result.place.me.0.seen c.into_pass.ensures c.enter-held.ensures.number found
    (ap (λ (k : KeptCore). coded k.core.value.past) c.value.ensures.value ∙ c.enter-held.ensures.seen)
    (frame_one c.value.result.now.core.value.plan (base_of c.value.result.now.core.value) c.value.result.now.core.value.past c.enter_frame-entered.new.kept.core.value.past (event_of c.args.event) c.enter_frame-entered.result.0 c.enter_frame-entered.ensures.did)

pub wake_outputs-woken-requires : goal.wake_outputs-woken-requires
wake_outputs-woken-requires g c = left_of c.args.lock.now c.enter-held.result.lock.now c.leave-pass.result c.leave-pass.result c.enter-held.ensures.lock refl c.leave-pass.ensures.pass

pub returns-clause-turned : goal.returns-clause-turned
returns-clause-turned g c =
    let found : Finds c.args.lock.now (maker_of (event_of c.args.event)) c.args.turns.pass c.value.result.now =
    finds c.args.lock.now (maker_of (event_of c.args.event)) c.args.turns.pass c.requires.running c.into_pass.result c.value.result.now c.enter-held.result.place.me.0.seen c.into_pass.ensures
    (ap (λ (k : KeptCore). coded k.core.value.past) c.value.ensures.value ∙ c.enter-held.ensures.seen) c.enter-held.ensures.extends c.enter-held.ensures.own
    (ap kept_fixed c.value.ensures.value ∙ c.enter-held.ensures.fixed) in
    turned c.args.lock.now (maker_of (event_of c.args.event)) c.args.turns.pass c.requires.running c.value.result.now c.enter_frame-entered.new.kept c.after.result.pass found (ap pass_seen c.after.ensures.pass ∙ c.leave-pass.ensures.seen)
    (DidInput (event_of c.args.event) c.enter_frame-entered.result.0) c.enter_frame-entered.ensures.legal c.enter_frame-entered.ensures.did

pub returns-clause-wakes : goal.returns-clause-wakes
returns-clause-wakes g c =
    let found : Finds c.args.lock.now (maker_of (event_of c.args.event)) c.args.turns.pass c.value.result.now =
    finds c.args.lock.now (maker_of (event_of c.args.event)) c.args.turns.pass c.requires.running c.into_pass.result c.value.result.now c.enter-held.result.place.me.0.seen c.into_pass.ensures
    (ap (λ (k : KeptCore). coded k.core.value.past) c.value.ensures.value ∙ c.enter-held.ensures.seen) c.enter-held.ensures.extends c.enter-held.ensures.own
    (ap kept_fixed c.value.ensures.value ∙ c.enter-held.ensures.fixed) in
    turned c.args.lock.now (maker_of (event_of c.args.event)) c.args.turns.pass c.requires.running c.value.result.now c.enter_frame-entered.new.kept c.after.result.pass found (ap pass_seen c.after.ensures.pass ∙ c.leave-pass.ensures.seen)
    (Wakes (DidInput (event_of c.args.event) c.enter_frame-entered.result.0) c.after.result.woken.items) c.enter_frame-entered.ensures.legal (c.enter_frame-entered.ensures.did, (woken_too c.enter_frame-entered.result.1 c.after.result.woken.items c.value.result.now.core.value.plan (base_of c.value.result.now.core.value) c.value.result.now.core.value.past c.enter_frame-entered.new.kept.core.value.past (rw c.after.ensures.woken c.wake_outputs-woken.ensures.all) c.enter_frame-entered.ensures.grown), (behind_turn (pass_seen c.leave-pass.result) c.enter_frame-entered.new.kept.core.value.past c.wake_outputs-woken.result c.after.result.woken c.after.ensures.woken c.leave-pass.ensures.seen c.wake_outputs-woken.ensures.behind))

pub returns-clause-state : goal.returns-clause-state
returns-clause-state g c =
    let found : Finds c.args.lock.now (maker_of (event_of c.args.event)) c.args.turns.pass c.value.result.now =
    finds c.args.lock.now (maker_of (event_of c.args.event)) c.args.turns.pass c.requires.running c.into_pass.result c.value.result.now c.enter-held.result.place.me.0.seen c.into_pass.ensures
    (ap (λ (k : KeptCore). coded k.core.value.past) c.value.ensures.value ∙ c.enter-held.ensures.seen) c.enter-held.ensures.extends c.enter-held.ensures.own
    (ap kept_fixed c.value.ensures.value ∙ c.enter-held.ensures.fixed) in
    stands c.args.lock.now (maker_of (event_of c.args.event)) c.args.turns.pass c.requires.running c.value.result.now c.enter_frame-entered.new.kept c.after.result.pass found (ap pass_seen c.after.ensures.pass ∙ c.leave-pass.ensures.seen)
    c.into_pass.result c.enter-held.result.number (not c.enter_frame-entered.result.0) c.into_pass.ensures c.enter-held.ensures.number (left_of c.args.lock.now c.enter-held.result.lock.now c.leave-pass.result c.after.result.pass c.enter-held.ensures.lock c.after.ensures.pass c.leave-pass.ensures.pass) (ap pass_number c.after.ensures.pass ∙ c.leave-pass.ensures.number) (ap pass_sleeps_at c.after.ensures.pass ∙ c.leave-pass.ensures.sleeps ∙ c.enter-held.ensures.sleeps)
    (frame_state c.value.result.now.core.value.plan (base_of c.value.result.now.core.value) c.value.result.now.core.value.past c.enter_frame-entered.new.kept.core.value.past (event_of c.args.event) c.enter_frame-entered.result.0 c.requires.frame found.opens.running c.enter_frame-entered.ensures.did)
