use Rattle.std.proofs.Common.{true, take}
use Rattle.savi_conf.specs.Gathering.{Gathers}
use Rattle.savi_conf.proofs.vlans.are_gathered.Given as goal

abbrev pub invariant-loop-number : goal.invariant-loop-number
invariant-loop-number l = Gathers l.initial.gathered.items (take l.number-index l.numbers) true l.gathered.items
