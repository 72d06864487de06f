use Rattle.cli_lang.proofs.Existence.{some_input}
use Rattle.cli_lang.proofs.laws.octets_arrive.Goals as goal

pub returns : goal.returns
returns c = some_input
