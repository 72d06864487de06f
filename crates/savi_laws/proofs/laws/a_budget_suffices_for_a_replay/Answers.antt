use Rattle.savi_laws.proofs.ReplayBudget.{given_one_segment, one_segment, one_segment_few}
use Rattle.savi_laws.proofs.Given.{replay_given}
use Rattle.savi_laws.proofs.laws.a_budget_suffices_for_a_replay.Goals as goal

pub returns : goal.returns
returns c = record {
  entries = λ plan lines inputs stops past valid size is are same. one_segment_few plan valid lines inputs stops is are past same;
  room = λ plan lines inputs stops valid size is are suffices. one_segment plan valid lines inputs stops is are suffices;
  given = λ plan lines inputs stops. replay_given plan lines inputs stops;
  enough = λ plan lines inputs stops valid size is are suffices. given_one_segment plan valid lines inputs stops is are suffices;
}
