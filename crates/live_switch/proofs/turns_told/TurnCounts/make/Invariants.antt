use Rattle.std.proofs.Common.{◌≡◌, vec_capacity, vec_len}
use Rattle.live_switch.proofs.turns_told.TurnCounts.make.Given as goal

abbrev pub invariant-loop : goal.invariant-loop
invariant-loop l = (vec_len l.taken ≡ l.counter) × (vec_capacity l.taken ≡ 34)
