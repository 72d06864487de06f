use Rattle.std.proofs.Common.{refl}
use Rattle.addr_index.specs.Homes.{home_of}
use Rattle.state_rows.proofs.addr_index_rows.chosen.Goals as goal

pub returns-clause-a : goal.returns-clause-a
unfolding home_of
returns-clause-a c = refl

pub returns-clause-b : goal.returns-clause-b
unfolding home_of
returns-clause-b c = refl

pub returns-clause-c : goal.returns-clause-c
unfolding home_of
returns-clause-c c = refl

pub returns-clause-d : goal.returns-clause-d
unfolding home_of
returns-clause-d c = refl
