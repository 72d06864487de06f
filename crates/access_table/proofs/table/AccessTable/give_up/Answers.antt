use Rattle.std.proofs.Common.{List, if◌then◌else◌, sym, ◌∙◌, subst}
use Rattle.dhcp6_read.specs.declared.message.Lease.{Lease as Offered}
use Rattle.fcfs_states.specs.declared.event.Ev.TheVariants.{Release}
use Rattle.savi_access.specs.Rules.{AccessRules}
use Rattle.savi_access.specs.Judged.{with_events}
use Rattle.savi_access.specs.Plans.{rules_of}
use Rattle.access_table.specs.Steps.{Moves}
use Rattle.access_table.proofs.table.AccessTable.give_up.Goals as goal

pub returns-clause-told : goal.returns-clause-told
returns-clause-told c =
    let r : AccessRules = rules_of c.args.plan.now in
    subst (λ b. Moves r c.args.t c.args.self.now c.tell_each.new.self (λ base past. if b then with_events r base c.args.self.now.vlan c.args.port c.args.t (λ lease. Release c.args.port) c.args.dhcp.now.leases.items past else past)) (sym (sym c.gives_up.ensures ∙ c.if-not-gives_up.false))
    (subst (λ (leases : List Offered). Moves r c.args.t c.args.self.now c.tell_each.new.self (λ base past. with_events r base c.args.self.now.vlan c.args.port c.args.t (λ lease. Release c.args.port) leases past)) c.as_slice.ensures.value (c.tell_each.ensures.told c.args.port c.requires.port))
