use Rattle.savi_access.proofs.Lifetimes.{lifetimes}
use Rattle.savi_access.proofs.laws.lifetimes_are_of_32_bits.Goals as goal

pub returns : goal.returns
returns c = λ frame bytes. lifetimes frame bytes
