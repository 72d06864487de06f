use Rattle.fcfs_states.specs.Premises.{MomentsFit}
use Rattle.fcfs_states.specs.States.{IsSound}
use Rattle.state_rows.proofs.fcfs_states_rows.reached.Given as goal

abbrev pub invariant-loop-at : goal.invariant-loop-at
invariant-loop-at g l = IsSound l.state × MomentsFit l.state
