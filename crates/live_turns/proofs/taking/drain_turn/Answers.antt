use Rattle.std.proofs.Common.{◌∙◌, ap, Option}
use Rattle.arrayvec.specs.ArrayVec.{ArrayVec}
use Rattle.table_lock.specs.declared.lock.sleeping.Woken.{Woken}
use Rattle.savi_kinds.specs.declared.entry.Who.TheVariants.{Egress}
use Rattle.savi_core.specs.Machines.{base_of}
use Rattle.core_keep.specs.declared.keep.KeptCore.{KeptCore}
use Rattle.core_keep.specs.Pasts.{coded}
use Rattle.table_lock.specs.Passes.{pass_number, pass_seen, pass_sleeps_at}
use Rattle.live_turns.specs.Seats.{kept_fixed}
use Rattle.live_turns.specs.TurnKinds.{DidDrain, ends_egress}
use Rattle.live_turns.specs.Wakes.{Wakes}
use Rattle.live_turns.proofs.Growing.{none_grown_drain}
use Rattle.live_turns.proofs.Entering.{drain_one, drain_state}
use Rattle.live_turns.proofs.WokenPorts.{none_behind}
use Rattle.live_turns.proofs.Turning.{Finds, finds, left_of, may_leave, stands, turned}
use Rattle.live_turns.proofs.taking.drain_turn.Goals as goal

pub drain-came-requires : goal.drain-came-requires
drain-came-requires g c =
    let found : Finds c.args.lock.now (Egress c.args.port) c.args.turns.pass c.value.result.now =
    finds c.args.lock.now (Egress c.args.port) c.args.turns.pass c.requires.running c.into_pass.result c.value.result.now c.enter-held.result.place.me.0.seen c.into_pass.ensures
    (ap (λ (k : KeptCore). coded k.core.value.past) c.value.ensures.value ∙ c.enter-held.ensures.seen) c.enter-held.ensures.extends c.enter-held.ensures.own
    (ap kept_fixed c.value.ensures.value ∙ c.enter-held.ensures.fixed) in record { «open» = found.opens }

pub leave-requires-clause-history : goal.leave-requires-clause-history
leave-requires-clause-history g c =
    let found : Finds c.args.lock.now (Egress c.args.port) c.args.turns.pass c.value.result.now =
    finds c.args.lock.now (Egress c.args.port) c.args.turns.pass c.requires.running c.into_pass.result c.value.result.now c.enter-held.result.place.me.0.seen c.into_pass.ensures
    (ap (λ (k : KeptCore). coded k.core.value.past) c.value.ensures.value ∙ c.enter-held.ensures.seen) c.enter-held.ensures.extends c.enter-held.ensures.own
    (ap kept_fixed c.value.ensures.value ∙ c.enter-held.ensures.fixed) in
    may_leave c.args.lock.now (Egress c.args.port) c.args.turns.pass c.requires.running c.into_pass.result c.enter-held.result.number c.value.result.now c.drain-came.new.kept c.enter-held.result.place.me.0.seen c.into_pass.ensures c.enter-held.ensures.number found
    (ap (λ (k : KeptCore). coded k.core.value.past) c.value.ensures.value ∙ c.enter-held.ensures.seen)
    (drain_one c.value.result.now.core.value.plan (base_of c.value.result.now.core.value) c.value.result.now.core.value.past c.drain-came.new.kept.core.value.past c.args.port c.drain-came.new.batch c.drain-came.result c.drain-came.ensures.did)

pub returns-clause-turned : goal.returns-clause-turned
returns-clause-turned g c =
    let found : Finds c.args.lock.now (Egress c.args.port) c.args.turns.pass c.value.result.now =
    finds c.args.lock.now (Egress c.args.port) c.args.turns.pass c.requires.running c.into_pass.result c.value.result.now c.enter-held.result.place.me.0.seen c.into_pass.ensures
    (ap (λ (k : KeptCore). coded k.core.value.past) c.value.ensures.value ∙ c.enter-held.ensures.seen) c.enter-held.ensures.extends c.enter-held.ensures.own
    (ap kept_fixed c.value.ensures.value ∙ c.enter-held.ensures.fixed) in
    turned c.args.lock.now (Egress c.args.port) c.args.turns.pass c.requires.running c.value.result.now c.drain-came.new.kept c.after.result.pass found (ap pass_seen c.after.ensures.pass ∙ c.leave.ensures.seen)
    (DidDrain c.args.port c.drain-came.new.batch c.drain-came.result) c.drain-came.ensures.legal c.drain-came.ensures.did

pub returns-clause-wakes : goal.returns-clause-wakes
returns-clause-wakes g c =
    let found : Finds c.args.lock.now (Egress c.args.port) c.args.turns.pass c.value.result.now =
    finds c.args.lock.now (Egress c.args.port) c.args.turns.pass c.requires.running c.into_pass.result c.value.result.now c.enter-held.result.place.me.0.seen c.into_pass.ensures
    (ap (λ (k : KeptCore). coded k.core.value.past) c.value.ensures.value ∙ c.enter-held.ensures.seen) c.enter-held.ensures.extends c.enter-held.ensures.own
    (ap kept_fixed c.value.ensures.value ∙ c.enter-held.ensures.fixed) in
    turned c.args.lock.now (Egress c.args.port) c.args.turns.pass c.requires.running c.value.result.now c.drain-came.new.kept c.after.result.pass found (ap pass_seen c.after.ensures.pass ∙ c.leave.ensures.seen)
    (Wakes (DidDrain c.args.port c.drain-came.new.batch c.drain-came.result) c.after.result.woken.items) c.drain-came.ensures.legal (c.drain-came.ensures.did, (none_grown_drain c.value.result.now.core.value.plan (base_of c.value.result.now.core.value) c.value.result.now.core.value.past c.args.port c.drain-came.new.batch c.drain-came.result c.drain-came.new.kept.core.value.past c.after.result.woken.items c.drain-came.ensures.did), (none_behind c.drain-came.new.kept.core.value.past c.after.result.woken.items (ap (λ (woken : ArrayVec (Option Woken)). woken.items) c.after.ensures.woken ∙ c.new.ensures)))

pub returns-clause-state : goal.returns-clause-state
returns-clause-state g c =
    let found : Finds c.args.lock.now (Egress c.args.port) c.args.turns.pass c.value.result.now =
    finds c.args.lock.now (Egress c.args.port) c.args.turns.pass c.requires.running c.into_pass.result c.value.result.now c.enter-held.result.place.me.0.seen c.into_pass.ensures
    (ap (λ (k : KeptCore). coded k.core.value.past) c.value.ensures.value ∙ c.enter-held.ensures.seen) c.enter-held.ensures.extends c.enter-held.ensures.own
    (ap kept_fixed c.value.ensures.value ∙ c.enter-held.ensures.fixed) in
    stands c.args.lock.now (Egress c.args.port) c.args.turns.pass c.requires.running c.value.result.now c.drain-came.new.kept c.after.result.pass found (ap pass_seen c.after.ensures.pass ∙ c.leave.ensures.seen)
    c.into_pass.result c.enter-held.result.number (ends_egress c.drain-came.result) c.into_pass.ensures c.enter-held.ensures.number (left_of c.args.lock.now c.enter-held.result.lock.now c.leave.result c.after.result.pass c.enter-held.ensures.lock c.after.ensures.pass c.leave.ensures.pass) (ap pass_number c.after.ensures.pass ∙ c.leave.ensures.number) (ap pass_sleeps_at c.after.ensures.pass ∙ c.leave.ensures.sleeps ∙ c.enter-held.ensures.sleeps)
    (drain_state c.value.result.now.core.value.plan (base_of c.value.result.now.core.value) c.value.result.now.core.value.past c.drain-came.new.kept.core.value.past c.args.port c.drain-came.new.batch c.drain-came.result found.opens.running c.drain-came.ensures.did)
