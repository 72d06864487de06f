use Rattle.core_keep.proofs.Goings.{later_of}
use Rattle.core_keep.proofs.laws.a_pass_knows_its_own.Goals as goal

pub returns : goal.returns
returns c pass seen now starts own = later_of pass seen now starts own
