use Rattle.cli_lang.proofs.WordsJoined.{words_joined}
use Rattle.cli_lang.proofs.laws.words_spell_their_line.Goals as goal

pub returns : goal.returns
returns c = words_joined
