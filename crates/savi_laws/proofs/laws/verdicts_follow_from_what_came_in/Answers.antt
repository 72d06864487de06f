use Rattle.savi_laws.proofs.Walking.{same_answers, same_later, rows_of_legal}
use Rattle.savi_laws.proofs.laws.verdicts_follow_from_what_came_in.Goals as goal

pub returns : goal.returns
returns c = record {
  answers = λ plan base past other rows others same. same_answers plan base past other rows others same;
  later = λ plan base past other rows others same low. same_later plan base past other rows others same low;
  legal = λ plan base past legal. rows_of_legal plan base past legal;
}
