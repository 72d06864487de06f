use Rattle.std.proofs.Common.{◌∙◌, not, ap, refl}
use Rattle.savi_kinds.specs.declared.entry.Who.TheVariants.{Control}
use Rattle.savi_core.specs.Machines.{base_of}
use Rattle.core_keep.specs.declared.keep.KeptCore.{KeptCore}
use Rattle.core_keep.specs.Pasts.{coded}
use Rattle.table_lock.specs.Passes.{pass_number, pass_seen, pass_sleeps_at}
use Rattle.live_turns.specs.Seats.{kept_fixed}
use Rattle.live_turns.specs.TurnKinds.{DidLine}
use Rattle.live_turns.specs.Wakes.{Wakes}
use Rattle.live_turns.proofs.Entering.{line_one, line_state}
use Rattle.live_turns.proofs.WokenPorts.{behind_turn}
use Rattle.live_turns.proofs.Turning.{Finds, finds, left_of, may_leave, stands, turned}
use Rattle.live_turns.proofs.taking.line_turn.Goals as goal

pub enter_line-entered-requires-clause-open : goal.enter_line-entered-requires-clause-open
enter_line-entered-requires-clause-open g c =
    let found : Finds c.args.lock.now Control c.args.turns.pass c.value.result.now =
    finds c.args.lock.now Control c.args.turns.pass c.requires.running c.into_pass.result c.value.result.now c.enter-held.result.place.me.0.seen c.into_pass.ensures
    (ap (λ (k : KeptCore). coded k.core.value.past) c.value.ensures.value ∙ c.enter-held.ensures.seen) c.enter-held.ensures.extends c.enter-held.ensures.own
    (ap kept_fixed c.value.ensures.value ∙ c.enter-held.ensures.fixed) in found.opens

pub leave-pass-requires-clause-history : goal.leave-pass-requires-clause-history
leave-pass-requires-clause-history g c =
    let found : Finds c.args.lock.now Control c.args.turns.pass c.value.result.now =
    finds c.args.lock.now Control c.args.turns.pass c.requires.running c.into_pass.result c.value.result.now c.enter-held.result.place.me.0.seen c.into_pass.ensures
    (ap (λ (k : KeptCore). coded k.core.value.past) c.value.ensures.value ∙ c.enter-held.ensures.seen) c.enter-held.ensures.extends c.enter-held.ensures.own
    (ap kept_fixed c.value.ensures.value ∙ c.enter-held.ensures.fixed) in
    may_leave c.args.lock.now Control c.args.turns.pass c.requires.running c.into_pass.result c.enter-held.result.number c.value.result.now c.enter_line-entered.new.kept c.enter-held.result.place.me.0.seen c.into_pass.ensures c.enter-held.ensures.number found
    (ap (λ (k : KeptCore). coded k.core.value.past) c.value.ensures.value ∙ c.enter-held.ensures.seen)
    (line_one c.value.result.now.core.value.plan (base_of c.value.result.now.core.value) c.value.result.now.core.value.past c.enter_line-entered.new.kept.core.value.past c.args.stamp c.args.line.now c.enter_line-entered.new.reply c.enter_line-entered.result c.enter_line-entered.ensures.did)

pub wake_all-woken-requires : goal.wake_all-woken-requires
wake_all-woken-requires g c = left_of c.args.lock.now c.enter-held.result.lock.now c.leave-pass.result c.leave-pass.result c.enter-held.ensures.lock refl c.leave-pass.ensures.pass

pub returns-clause-turned : goal.returns-clause-turned
returns-clause-turned g c =
    let found : Finds c.args.lock.now Control c.args.turns.pass c.value.result.now =
    finds c.args.lock.now Control c.args.turns.pass c.requires.running c.into_pass.result c.value.result.now c.enter-held.result.place.me.0.seen c.into_pass.ensures
    (ap (λ (k : KeptCore). coded k.core.value.past) c.value.ensures.value ∙ c.enter-held.ensures.seen) c.enter-held.ensures.extends c.enter-held.ensures.own
    (ap kept_fixed c.value.ensures.value ∙ c.enter-held.ensures.fixed) in
    turned c.args.lock.now Control c.args.turns.pass c.requires.running c.value.result.now c.enter_line-entered.new.kept c.after.result.pass found (ap pass_seen c.after.ensures.pass ∙ c.leave-pass.ensures.seen)
    (DidLine c.args.stamp c.args.line.now c.enter_line-entered.result c.enter_line-entered.new.reply) c.enter_line-entered.ensures.legal c.enter_line-entered.ensures.did

pub returns-clause-wakes : goal.returns-clause-wakes
returns-clause-wakes g c =
    let found : Finds c.args.lock.now Control c.args.turns.pass c.value.result.now =
    finds c.args.lock.now Control c.args.turns.pass c.requires.running c.into_pass.result c.value.result.now c.enter-held.result.place.me.0.seen c.into_pass.ensures
    (ap (λ (k : KeptCore). coded k.core.value.past) c.value.ensures.value ∙ c.enter-held.ensures.seen) c.enter-held.ensures.extends c.enter-held.ensures.own
    (ap kept_fixed c.value.ensures.value ∙ c.enter-held.ensures.fixed) in
    turned c.args.lock.now Control c.args.turns.pass c.requires.running c.value.result.now c.enter_line-entered.new.kept c.after.result.pass found (ap pass_seen c.after.ensures.pass ∙ c.leave-pass.ensures.seen)
    (Wakes (DidLine c.args.stamp c.args.line.now c.enter_line-entered.result c.enter_line-entered.new.reply) c.after.result.woken.items) c.enter_line-entered.ensures.legal (c.enter_line-entered.ensures.did, (λ to of grown. rw c.after.ensures.woken (c.wake_all-woken.ensures.all to)), (behind_turn (pass_seen c.leave-pass.result) c.enter_line-entered.new.kept.core.value.past c.wake_all-woken.result c.after.result.woken c.after.ensures.woken c.leave-pass.ensures.seen c.wake_all-woken.ensures.behind))

pub returns-clause-state : goal.returns-clause-state
returns-clause-state g c =
    let found : Finds c.args.lock.now Control c.args.turns.pass c.value.result.now =
    finds c.args.lock.now Control c.args.turns.pass c.requires.running c.into_pass.result c.value.result.now c.enter-held.result.place.me.0.seen c.into_pass.ensures
    (ap (λ (k : KeptCore). coded k.core.value.past) c.value.ensures.value ∙ c.enter-held.ensures.seen) c.enter-held.ensures.extends c.enter-held.ensures.own
    (ap kept_fixed c.value.ensures.value ∙ c.enter-held.ensures.fixed) in
    stands c.args.lock.now Control c.args.turns.pass c.requires.running c.value.result.now c.enter_line-entered.new.kept c.after.result.pass found (ap pass_seen c.after.ensures.pass ∙ c.leave-pass.ensures.seen)
    c.into_pass.result c.enter-held.result.number (not c.enter_line-entered.result) c.into_pass.ensures c.enter-held.ensures.number (left_of c.args.lock.now c.enter-held.result.lock.now c.leave-pass.result c.after.result.pass c.enter-held.ensures.lock c.after.ensures.pass c.leave-pass.ensures.pass) (ap pass_number c.after.ensures.pass ∙ c.leave-pass.ensures.number) (ap pass_sleeps_at c.after.ensures.pass ∙ c.leave-pass.ensures.sleeps ∙ c.enter-held.ensures.sleeps)
    (line_state c.value.result.now.core.value.plan (base_of c.value.result.now.core.value) c.value.result.now.core.value.past c.enter_line-entered.new.kept.core.value.past c.args.stamp c.args.line.now c.enter_line-entered.new.reply c.enter_line-entered.result found.opens.running c.enter_line-entered.ensures.did)
