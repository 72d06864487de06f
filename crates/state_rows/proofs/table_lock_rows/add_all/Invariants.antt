use Rattle.table_lock.specs.Passes.{IsPassOf}
use Rattle.table_lock.specs.Tallies.{tally_fixed}
use Rattle.state_rows.proofs.table_lock_rows.add_all.Given as goal

abbrev pub invariant-loop : goal.invariant-loop
invariant-loop g l = IsPassOf tally_fixed l.lock l.pass
