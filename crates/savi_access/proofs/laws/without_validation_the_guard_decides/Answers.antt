use Rattle.savi_access.proofs.Trusting.{without}
use Rattle.savi_access.proofs.laws.without_validation_the_guard_decides.Goals as goal

pub returns : goal.returns
returns c = λ r base vlan port t past class off. without r base vlan port t past class off
