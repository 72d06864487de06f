use Rattle.savi_access.proofs.Requests.{within_limits}
use Rattle.savi_access.proofs.laws.requests_stay_within_limits.Goals as goal

pub returns : goal.returns
returns c = λ r base vlan t past is right after. within_limits r base is vlan past t right after
