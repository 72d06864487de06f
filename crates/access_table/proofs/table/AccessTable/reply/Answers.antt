use Rattle.std.proofs.Common.{ℕ, Some, List, refl, ap, sym, subst, ◌∙◌}
use Rattle.dhcp6_read.specs.declared.message.Lease.{Lease as Offered}
use Rattle.savi_access.specs.Rules.{AccessRules}
use Rattle.savi_access.specs.Frames.{answered_duid}
use Rattle.savi_access.specs.Judged.{with_events}
use Rattle.access_table.specs.declared.change.Change.TheVariants.{Leased}
use Rattle.savi_access.specs.Plans.{rules_of}
use Rattle.access_table.specs.Events.{change_event}
use Rattle.access_table.specs.Steps.{Moves}
use Rattle.access_table.proofs.Stepping.{reply_asked}
use Rattle.access_table.proofs.table.AccessTable.reply.Goals as goal

pub returns-clause-told : goal.returns-clause-told
returns-clause-told c = λ port.
    let r : AccessRules = rules_of c.args.plan.now in
    reply_asked r c.args.self.now.vlan c.args.t port c.args.self.now c.meet.new.self c.tell_each.new.self c.args.dhcp.now (answered_duid c.args.dhcp.now) c.in-Some.duid.now c.in-Some-meet.asker c.in-Some.ensures c.in-Some-meet.ensures.port refl (c.in-Some-meet.ensures.met r)
    (λ own. subst (λ (v : ℕ). Moves r c.args.t c.meet.new.self c.tell_each.new.self (λ base past. with_events r base v port c.args.t (change_event (Leased c.in-Some-meet.asker)) c.args.dhcp.now.leases.items past)) c.meet.ensures.vlan
    (subst (λ (leases : List Offered). Moves r c.args.t c.meet.new.self c.tell_each.new.self (λ base past. with_events r base c.meet.new.self.vlan port c.args.t (change_event (Leased c.in-Some-meet.asker)) leases past)) c.as_slice.ensures.value (c.tell_each.ensures.told port (own ∙ ap Some (sym c.meet.ensures.vlan)))))
