use Rattle.mix_rules.proofs.RunLemmas.{state_at-append, run-sound}
use Rattle.mix_rules.proofs.laws.states_are_read_from_any_moment.Goals as goal

pub returns : goal.returns
returns c = record {
  cut = λ m k base t0 t early late times run. state_at-append m k times base t0 t early late run;
  sound = λ m k base past times sound. run-sound m k times base sound past;
}
