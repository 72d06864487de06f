use Rattle.fcfs_states.proofs.RowLemmas.{Row-sound, Row-fits, Row-rested}
use Rattle.fcfs_states.proofs.AgeingLemmas.{Ages-aged}
use Rattle.fcfs_states.proofs.AgesLemmas.{Ages-sound, Ages-fits}
use Rattle.fcfs_states.proofs.laws.states_stay_valid.Goals as goal

pub returns : goal.returns
returns c = record {
  sound_events = λ k t room state new event answer row. Row-sound row;
  fits_events = λ k t room state new event answer row. Row-fits row;
  rested_events = λ k t room state new event answer row. Row-rested row;
  sound_ageing = λ k t state times. Ages-sound k t (Ages-aged k times t state);
  fits_ageing = λ k t state times early. Ages-fits k t times early (Ages-aged k times t state);
}
