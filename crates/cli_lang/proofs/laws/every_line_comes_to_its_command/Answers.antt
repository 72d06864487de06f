use Rattle.cli_lang.proofs.CommandFound.{line_given}
use Rattle.cli_lang.proofs.laws.every_line_comes_to_its_command.Goals as goal

pub returns : goal.returns
returns c = line_given
