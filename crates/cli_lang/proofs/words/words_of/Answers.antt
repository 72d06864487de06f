use Rattle.cli_lang.proofs.WordsFound.{four_words}
use Rattle.cli_lang.proofs.words.words_of.Goals as goal

pub returns-in-Some-first_word-2 : goal.returns-in-Some-first_word-2
returns-in-Some-first_word-2 c = four_words _ _ _ _ _ _ c.in-Some-first_word-2.field-0.1.now c.in-Some.ensures c.in-Some-first_word.ensures c.in-Some-first_word-2.ensures
