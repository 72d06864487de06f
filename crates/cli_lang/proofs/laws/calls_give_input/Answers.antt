use Rattle.cli_lang.proofs.WholeRuns.{calls_give_input}
use Rattle.cli_lang.proofs.laws.calls_give_input.Goals as goal

pub returns : goal.returns
returns c = calls_give_input
