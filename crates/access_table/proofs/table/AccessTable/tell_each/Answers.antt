use Rattle.std.proofs.Common.{◌≡◌, ℕ, ◌+◌, ◌∷◌, ◌++◌, List, [], take, slice_index_or, add-one, sym, subst, ◌∙◌}
use Rattle.std.proofs.Math.Seq.{take-suc}
use Rattle.dhcp6_read.specs.declared.message.Lease.{Lease as Offered}
use Rattle.savi_access.specs.Rules.{AccessRules}
use Rattle.savi_access.specs.Judged.{with_events}
use Rattle.savi_access.specs.Plans.{rules_of}
use Rattle.access_table.specs.Events.{change_event}
use Rattle.access_table.specs.Steps.{Moves}
use Rattle.access_table.proofs.Stepping.{one_more, taken_all}
use Rattle.access_table.proofs.table.AccessTable.tell_each.Goals as goal

pub loop-lease-preserved : goal.loop-lease-preserved
loop-lease-preserved c =
    let r : AccessRules = rules_of c.args.plan.now in
    let i : ℕ = c.loop-lease.lease-index in
    let none : Offered = record { address = record { 0 = 0 }; valid = 0 } in
    let lease : Offered = slice_index_or c.args.leases.now i none in
    let more : take (i + 1) c.args.leases.now ≡ take i c.args.leases.now ++ lease ∷ [] = rw add-one (take-suc c.args.leases.now i none c.loop-lease-test.true) in
    record {
      vlan = c.tell.ensures.vlan ∙ c.loop-lease.invariant.vlan;
      ready = c.tell.ensures.ready;
      told = λ port own.
          subst (λ (leases : List Offered). Moves r c.args.t c.args.self.now c.tell.new.self (λ base past. with_events r base c.args.self.now.vlan port c.args.t (change_event c.args.change) leases past)) (sym more)
          (one_more r c.args.self.now.vlan c.args.t port c.args.change c.args.self.now c.loop-lease.self c.tell.new.self (take i c.args.leases.now) lease c.event.result c.tell.result c.loop-lease.invariant.vlan c.event.ensures own (c.loop-lease.invariant.told port own) c.tell.ensures.heard);
    }

pub returns-clause-told : goal.returns-clause-told
returns-clause-told c = λ port own.
    subst (λ (leases : List Offered). Moves (rules_of c.args.plan.now) c.args.t c.args.self.now c.loop-lease.self (λ base past. with_events (rules_of c.args.plan.now) base c.args.self.now.vlan port c.args.t (change_event c.args.change) leases past)) (taken_all c.args.leases.now c.loop-lease.lease-index c.loop-lease-test.false)
    (c.loop-lease.invariant.told port own)
