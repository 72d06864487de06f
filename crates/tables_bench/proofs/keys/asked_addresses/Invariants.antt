use Rattle.std.proofs.Common.{◌≡◌, vec_len}
use Rattle.tables_bench.proofs.keys.asked_addresses.Given as goal

abbrev pub invariant-loop-n : goal.invariant-loop-n
invariant-loop-n l = vec_len l.asked ≡ l.n
