use Rattle.savi_laws.proofs.Refusing.{changes_nothing, same_later, tells_why}
use Rattle.savi_laws.proofs.laws.a_refused_command_changes_nothing.Goals as goal

pub returns : goal.returns
returns c = record {
  nothing = λ plan base past stamp line refusal refused. changes_nothing plan base past stamp line refusal refused;
  later = λ plan base past stamp line refusal refused. same_later plan base past stamp line refusal refused;
  reply = λ plan base past stamp line refusal refused. tells_why plan base past stamp line refusal refused;
}
