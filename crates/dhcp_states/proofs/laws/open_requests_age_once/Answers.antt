use Rattle.dhcp_states.proofs.Counts.{open_at-later}
use Rattle.dhcp_states.proofs.laws.open_requests_age_once.Goals as goal

pub returns : goal.returns
returns c = λ t u requests later. open_at-later t u requests later
