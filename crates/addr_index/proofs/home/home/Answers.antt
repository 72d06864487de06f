use Rattle.std.proofs.Common.{refl}
use Rattle.addr_index.specs.Homes.{home_of}
use Rattle.addr_index.proofs.home.home.Goals as goal

pub returns-clause-home : goal.returns-clause-home
unfolding home_of
returns-clause-home c = rw c.mix.ensures refl
