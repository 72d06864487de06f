use Rattle.std.proofs.Common.{rules}
use Rattle.cli_lang.proofs.CommandFound.{value_is}
use Rattle.cli_lang.proofs.command_line.command.Goals as goal

pub returns-in-One-clause-value : goal.returns-in-One-clause-value
returns-in-One-clause-value c = value_is c.args.line.now c.one_word.result (search rules)

pub returns-in-Two-clause-value : goal.returns-in-Two-clause-value
returns-in-Two-clause-value c = value_is c.args.line.now c.two_words.result (search rules)

pub returns-in-Three-clause-value : goal.returns-in-Three-clause-value
returns-in-Three-clause-value c = value_is c.args.line.now c.three_words.result (search rules)

pub returns-in-More-clause-value : goal.returns-in-More-clause-value
returns-in-More-clause-value c = value_is c.args.line.now _ (search rules)
