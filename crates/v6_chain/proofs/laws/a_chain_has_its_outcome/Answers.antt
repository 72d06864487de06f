use Rattle.v6_chain.proofs.Whole.{chain_of-outcome, chain_is}
use Rattle.v6_chain.proofs.laws.a_chain_has_its_outcome.Goals as goal

pub returns-clause-outcome : goal.returns-clause-outcome
returns-clause-outcome c = chain_of-outcome

pub returns-clause-only : goal.returns-clause-only
returns-clause-only c = chain_is
