use Rattle.std.proofs.Common.{◌≡◌, ◌≤◌, length}
use Rattle.tables_bench.proofs.timed.index.Given as goal

abbrev pub invariant-loop-n : goal.invariant-loop-n
invariant-loop-n l = record { most : l.index.most ≡ l.addresses; room : length l.index.entries ≤ l.n }
