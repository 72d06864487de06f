use Rattle.savi_access.proofs.Trusting.{trusts}
use Rattle.savi_access.proofs.laws.trusted_ports_are_not_validated.Goals as goal

pub returns : goal.returns
returns c = λ r base vlan port t past class trusted none. trusts r base vlan port t past class trusted none
