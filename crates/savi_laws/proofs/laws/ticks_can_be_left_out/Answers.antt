use Rattle.savi_laws.proofs.Walking.{tick_answers, tick_later}
use Rattle.savi_laws.proofs.laws.ticks_can_be_left_out.Goals as goal

pub returns : goal.returns
returns c = record {
  answers = λ plan base past stamp events first. tick_answers plan base past stamp events first;
  later = λ plan base past stamp events first. tick_later plan base past stamp events first;
}
