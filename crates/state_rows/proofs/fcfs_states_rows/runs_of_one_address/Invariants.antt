use Rattle.fcfs_states.specs.Premises.{MomentsFit}
use Rattle.fcfs_states.specs.States.{IsSound}
use Rattle.state_rows.proofs.fcfs_states_rows.runs_of_one_address.Given as goal

abbrev pub invariant-loop-step : goal.invariant-loop-step
invariant-loop-step g l = IsSound l.state × MomentsFit l.state
