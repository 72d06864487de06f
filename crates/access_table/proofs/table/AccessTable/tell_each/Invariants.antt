use Rattle.std.proofs.Common.{◌≡◌, Some, take}
use Rattle.savi_kinds.specs.Ports.{number_of}
use Rattle.savi_kinds.specs.declared.port.Port.{Port}
use Rattle.savi_access.specs.Judged.{with_events}
use Rattle.savi_kinds.specs.Vlans.{access_vlan}
use Rattle.savi_access.specs.Plans.{rules_of}
use Rattle.access_table.specs.Kept.{IsAgedTo}
use Rattle.access_table.specs.Events.{change_port, change_event}
use Rattle.access_table.specs.Steps.{Moves}
use Rattle.access_table.proofs.table.AccessTable.tell_each.Given as goal

abbrev pub invariant-loop-lease : goal.invariant-loop-lease
invariant-loop-lease l = record {
  vlan : l.self.vlan ≡ l.initial.self.vlan;
  ready : IsAgedTo (rules_of l.plan) l.t l.self;
  told : (port : Port) → access_vlan l.plan (number_of (change_port l.change)) ≡ Some l.initial.self.vlan → Moves (rules_of l.plan) l.t l.initial.self l.self (λ base past. with_events (rules_of l.plan) base l.initial.self.vlan port l.t (change_event l.change) (take l.lease-index l.leases) past);
}
