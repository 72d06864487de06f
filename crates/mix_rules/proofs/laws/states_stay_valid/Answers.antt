use Rattle.mix_rules.proofs.EventLemmas.{next-sound, next-still, next-fits}
use Rattle.mix_rules.proofs.AgeingLemmas.{aged-sound, aged-still, aged-fits}
use Rattle.mix_rules.proofs.laws.states_stay_valid.Goals as goal
use Rattle.std.proofs.Common.{rules}

pub returns : goal.returns
returns c = record {
  sound_start = λ m. search rules;
  sound_events = λ m k t room s event sound. next-sound m k t room s event sound;
  sound_ageing = λ m k t s times sound. aged-sound k times t m s sound;
  still_events = λ m k t room s event times still. next-still m k t room s event times still;
  still_ageing = λ k t s times. aged-still k times t s;
  fits_events = λ m k t room s event times early short fit. next-fits m k t room s event times early short fit;
  fits_ageing = λ k t s times early fit. aged-fits k times t s early fit;
}
