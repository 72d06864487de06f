use Rattle.cli_lang.proofs.Uniqueness.{front_input}
use Rattle.cli_lang.proofs.laws.front_arrives.Goals as goal

pub returns : goal.returns
returns c = front_input
