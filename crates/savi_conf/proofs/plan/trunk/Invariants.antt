use Rattle.std.proofs.Common.{◌≡◌, pos, map, take}
use Rattle.savi_conf.proofs.plan.trunk.Given as goal

abbrev pub invariant-loop-number : goal.invariant-loop-number
invariant-loop-number l = map (λ v. pos v) l.vlans.items ≡ take l.number-index l.numbers
