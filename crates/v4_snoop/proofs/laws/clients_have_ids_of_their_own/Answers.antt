use Rattle.v4_snoop.proofs.VlansApart.{one_client}
use Rattle.v4_snoop.proofs.laws.clients_have_ids_of_their_own.Goals as goal

pub returns : goal.returns
returns c = one_client
