use Rattle.std.proofs.Common.{◌≡◌, ◌∙◌, ap, refl, sym, subst, true, Option}
use Rattle.arrayvec.specs.ArrayVec.{ArrayVec}
use Rattle.table_lock.specs.declared.lock.sleeping.Woken.{Woken}
use Rattle.savi_kinds.specs.declared.entry.Who.TheVariants.{Ticker}
use Rattle.savi_kinds.specs.declared.port.Port.{Port}
use Rattle.savi_kinds.specs.Ports.{number_of}
use Rattle.savi_core.specs.Machines.{base_of}
use Rattle.core_keep.specs.declared.keep.KeptCore.{KeptCore}
use Rattle.core_keep.specs.Pasts.{coded}
use Rattle.table_lock.specs.Passes.{pass_number, pass_seen, pass_sleeps_at}
use Rattle.live_turns.specs.Seats.{kept_fixed}
use Rattle.live_turns.specs.declared.kinds.TickTurn.TheVariants.{Idle}
use Rattle.live_turns.specs.TurnKinds.{DidTick, ends_ticker}
use Rattle.live_turns.specs.Wakes.{Wakes, was_woken}
use Rattle.live_turns.proofs.Growing.{tick_grown}
use Rattle.live_turns.proofs.Entering.{tick_one, tick_state}
use Rattle.live_turns.proofs.WokenPorts.{behind_turn}
use Rattle.live_turns.proofs.Turning.{Finds, finds, left_of, may_leave, stands, turned}
use Rattle.live_turns.proofs.taking.tick_turn.Goals as goal

pub tick-came-requires : goal.tick-came-requires
tick-came-requires g c =
    let found : Finds c.args.lock.now Ticker c.args.turns.pass c.value.result.now =
    finds c.args.lock.now Ticker c.args.turns.pass c.requires.running c.into_pass.result c.value.result.now c.enter-held.result.place.me.0.seen c.into_pass.ensures
    (ap (λ (k : KeptCore). coded k.core.value.past) c.value.ensures.value ∙ c.enter-held.ensures.seen) c.enter-held.ensures.extends c.enter-held.ensures.own
    (ap kept_fixed c.value.ensures.value ∙ c.enter-held.ensures.fixed) in record { «open» = found.opens }

pub leave-pass-requires-clause-history : goal.leave-pass-requires-clause-history
leave-pass-requires-clause-history g c =
    let found : Finds c.args.lock.now Ticker c.args.turns.pass c.value.result.now =
    finds c.args.lock.now Ticker c.args.turns.pass c.requires.running c.into_pass.result c.value.result.now c.enter-held.result.place.me.0.seen c.into_pass.ensures
    (ap (λ (k : KeptCore). coded k.core.value.past) c.value.ensures.value ∙ c.enter-held.ensures.seen) c.enter-held.ensures.extends c.enter-held.ensures.own
    (ap kept_fixed c.value.ensures.value ∙ c.enter-held.ensures.fixed) in
    may_leave c.args.lock.now Ticker c.args.turns.pass c.requires.running c.into_pass.result c.enter-held.result.number c.value.result.now c.tick-came.new.kept c.enter-held.result.place.me.0.seen c.into_pass.ensures c.enter-held.ensures.number found
    (ap (λ (k : KeptCore). coded k.core.value.past) c.value.ensures.value ∙ c.enter-held.ensures.seen)
    (tick_one c.value.result.now.core.value.plan (base_of c.value.result.now.core.value) c.value.result.now.core.value.past c.tick-came.new.kept.core.value.past c.args.stamp c.tick-came.result c.tick-came.ensures.did)

pub wake_after-woken-requires : goal.wake_after-woken-requires
wake_after-woken-requires g c = left_of c.args.lock.now c.enter-held.result.lock.now c.leave-pass.result c.leave-pass.result c.enter-held.ensures.lock refl c.leave-pass.ensures.pass

pub returns-clause-turned : goal.returns-clause-turned
returns-clause-turned g c =
    let found : Finds c.args.lock.now Ticker c.args.turns.pass c.value.result.now =
    finds c.args.lock.now Ticker c.args.turns.pass c.requires.running c.into_pass.result c.value.result.now c.enter-held.result.place.me.0.seen c.into_pass.ensures
    (ap (λ (k : KeptCore). coded k.core.value.past) c.value.ensures.value ∙ c.enter-held.ensures.seen) c.enter-held.ensures.extends c.enter-held.ensures.own
    (ap kept_fixed c.value.ensures.value ∙ c.enter-held.ensures.fixed) in
    turned c.args.lock.now Ticker c.args.turns.pass c.requires.running c.value.result.now c.tick-came.new.kept c.after.result.pass found (ap pass_seen c.after.ensures.pass ∙ c.leave-pass.ensures.seen)
    (DidTick c.args.stamp c.tick-came.result) c.tick-came.ensures.legal c.tick-came.ensures.did

pub returns-clause-wakes : goal.returns-clause-wakes
returns-clause-wakes g c =
    let found : Finds c.args.lock.now Ticker c.args.turns.pass c.value.result.now =
    finds c.args.lock.now Ticker c.args.turns.pass c.requires.running c.into_pass.result c.value.result.now c.enter-held.result.place.me.0.seen c.into_pass.ensures
    (ap (λ (k : KeptCore). coded k.core.value.past) c.value.ensures.value ∙ c.enter-held.ensures.seen) c.enter-held.ensures.extends c.enter-held.ensures.own
    (ap kept_fixed c.value.ensures.value ∙ c.enter-held.ensures.fixed) in
    turned c.args.lock.now Ticker c.args.turns.pass c.requires.running c.value.result.now c.tick-came.new.kept c.after.result.pass found (ap pass_seen c.after.ensures.pass ∙ c.leave-pass.ensures.seen)
    (Wakes (DidTick c.args.stamp c.tick-came.result) c.after.result.woken.items) c.tick-came.ensures.legal (
      c.tick-came.ensures.did,
      (tick_grown c.value.result.now.core.value.plan (base_of c.value.result.now.core.value) c.value.result.now.core.value.past c.args.stamp c.tick-came.result c.tick-came.new.kept.core.value.past c.after.result.woken.items c.tick-came.ensures.did
          (subst (λ (woken : ArrayVec (Option Woken)). (c.tick-came.result ≡ Idle → ⊥) → (port : Port) → was_woken woken.items (number_of port) ≡ true) (sym c.after.ensures.woken) c.wake_after-woken.ensures.all)),
      (behind_turn (pass_seen c.leave-pass.result) c.tick-came.new.kept.core.value.past c.wake_after-woken.result c.after.result.woken c.after.ensures.woken c.leave-pass.ensures.seen c.wake_after-woken.ensures.behind),
    )

pub returns-clause-state : goal.returns-clause-state
returns-clause-state g c =
    let found : Finds c.args.lock.now Ticker c.args.turns.pass c.value.result.now =
    finds c.args.lock.now Ticker c.args.turns.pass c.requires.running c.into_pass.result c.value.result.now c.enter-held.result.place.me.0.seen c.into_pass.ensures
    (ap (λ (k : KeptCore). coded k.core.value.past) c.value.ensures.value ∙ c.enter-held.ensures.seen) c.enter-held.ensures.extends c.enter-held.ensures.own
    (ap kept_fixed c.value.ensures.value ∙ c.enter-held.ensures.fixed) in
    stands c.args.lock.now Ticker c.args.turns.pass c.requires.running c.value.result.now c.tick-came.new.kept c.after.result.pass found (ap pass_seen c.after.ensures.pass ∙ c.leave-pass.ensures.seen)
    c.into_pass.result c.enter-held.result.number (ends_ticker c.tick-came.result) c.into_pass.ensures c.enter-held.ensures.number (left_of c.args.lock.now c.enter-held.result.lock.now c.leave-pass.result c.after.result.pass c.enter-held.ensures.lock c.after.ensures.pass c.leave-pass.ensures.pass) (ap pass_number c.after.ensures.pass ∙ c.leave-pass.ensures.number) (ap pass_sleeps_at c.after.ensures.pass ∙ c.leave-pass.ensures.sleeps ∙ c.enter-held.ensures.sleeps)
    (tick_state c.value.result.now.core.value.plan (base_of c.value.result.now.core.value) c.value.result.now.core.value.past c.tick-came.new.kept.core.value.past c.args.stamp c.tick-came.result found.opens.running c.tick-came.ensures.did)
