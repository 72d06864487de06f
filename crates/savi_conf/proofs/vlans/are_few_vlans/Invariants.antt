use Rattle.std.proofs.Common.{[], true, map, take}
use Rattle.std.specs.List.{flat_map}
use Rattle.savi_conf.specs.Gathering.{Gathers}
use Rattle.savi_conf.proofs.vlans.are_few_vlans.Given as goal

abbrev pub invariant-loop-numbers : goal.invariant-loop-numbers
invariant-loop-numbers l = Gathers [] (flat_map (λ zs. zs) (take l.numbers-index (map (λ numbers. numbers.items) l.vlans))) true l.gathered.items
