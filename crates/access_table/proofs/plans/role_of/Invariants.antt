use Rattle.std.proofs.Common.{◌≡◌, drop}
use Rattle.savi_kinds.specs.Ports.{number_of}
use Rattle.savi_access.specs.Plans.{role_among}
use Rattle.access_table.proofs.plans.role_of.Given as goal

abbrev pub invariant-loop-p : goal.invariant-loop-p
invariant-loop-p l = role_among l.p-items (number_of l.port) ≡ role_among (drop l.p-index l.p-items) (number_of l.port)
