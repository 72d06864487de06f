use Rattle.std.proofs.Common.{◌≡◌, length}
use Rattle.bind_table.proofs.stored.empty_sets.Given as goal

abbrev pub invariant-loop : goal.invariant-loop
invariant-loop l = length l.sets.items ≡ l.counter
