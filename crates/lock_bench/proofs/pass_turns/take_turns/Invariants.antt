use Rattle.lock_bench.specs.Made.{HasMade}
use Rattle.lock_bench.proofs.pass_turns.take_turns.Given as goal

abbrev pub invariant-loop : goal.invariant-loop
invariant-loop g l = HasMade l.lock l.counter l.pass
