use Rattle.v4_snoop.proofs.VlansApart.{one_address}
use Rattle.v4_snoop.proofs.laws.addresses_have_keys_of_their_own.Goals as goal

pub returns : goal.returns
returns c = one_address
