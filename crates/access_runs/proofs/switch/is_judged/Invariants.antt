use Rattle.std.proofs.Common.{◌≡◌, drop}
use Rattle.savi_kinds.specs.Ports.{number_of}
use Rattle.savi_kinds.specs.Vlans.{access_vlan_among}
use Rattle.savi_access.specs.Plans.{role_among}
use Rattle.access_runs.proofs.switch.is_judged.Given as goal

abbrev pub invariant-loop-p : goal.invariant-loop-p
invariant-loop-p l = record {
  role : role_among l.p-items (number_of l.port) ≡ role_among (drop l.p-index l.p-items) (number_of l.port);
  vlan : access_vlan_among l.p-items (number_of l.port) ≡ access_vlan_among (drop l.p-index l.p-items) (number_of l.port);
}
