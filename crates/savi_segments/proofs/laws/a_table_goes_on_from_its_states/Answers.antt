use Rattle.savi_segments.proofs.Tables.{table_goes_on}
use Rattle.savi_segments.proofs.laws.a_table_goes_on_from_its_states.Goals as goal

pub returns : goal.returns
returns c = λ r base past t kept early is. table_goes_on c.states_and_requests_stay_a_base.ensures.kept r base past t kept early is
