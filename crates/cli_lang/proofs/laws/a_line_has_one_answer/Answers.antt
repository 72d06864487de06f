use Rattle.cli_lang.proofs.OneAnswer.{one_answer}
use Rattle.cli_lang.proofs.laws.a_line_has_one_answer.Goals as goal

pub returns : goal.returns
returns c = one_answer
