use Rattle.std.proofs.Common.{sym, ◌∙◌}
use Rattle.cli_lang.proofs.WordsFound.{no_space, at_space}
use Rattle.cli_lang.proofs.words.first_word.Goals as goal

pub returns-in_err-space : goal.returns-in_err-space
returns-in_err-space c = rw c.from_residual.ensures (no_space _ (sym c.space_in.ensures ∙ c.in_err-space.was))

pub returns : goal.returns
returns c = at_space _ _ (sym c.space_in.ensures ∙ c.in_ok-space.was)
