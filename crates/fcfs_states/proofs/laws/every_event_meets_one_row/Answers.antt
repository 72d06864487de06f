use Rattle.fcfs_states.proofs.TableLemmas.{Row-next, Row-only, Row-kind}
use Rattle.fcfs_states.proofs.laws.every_event_meets_one_row.Goals as goal

pub returns : goal.returns
returns c = record {
  one = λ k t room state event sound kind. record { row = Row-next k t room state event kind; only = λ other row. Row-only row sound };
  none = λ k t room state new event answer row. Row-kind row;
}
