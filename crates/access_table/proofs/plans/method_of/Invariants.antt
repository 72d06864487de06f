use Rattle.std.proofs.Common.{◌≡◌, drop}
use Rattle.savi_access.specs.Plans.{method_among}
use Rattle.access_table.proofs.plans.method_of.Given as goal

abbrev pub invariant-loop-p : goal.invariant-loop-p
invariant-loop-p l = method_among l.p-items l.vlan l.a.0 ≡ method_among (drop l.p-index l.p-items) l.vlan l.a.0
