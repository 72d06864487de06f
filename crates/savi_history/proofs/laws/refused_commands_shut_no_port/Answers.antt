use Rattle.savi_history.proofs.Shutting.{refused_shuts_none, shut_inside}
use Rattle.savi_history.proofs.laws.refused_commands_shut_no_port.Goals as goal

pub returns : goal.returns
returns c = record {
  refused = λ plan rows order refusal number before refused. refused_shuts_none plan rows order refusal number before refused;
  inside = λ plan base past number within shut. shut_inside plan base past number within shut;
}
