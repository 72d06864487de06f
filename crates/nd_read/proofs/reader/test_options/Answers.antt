use Rattle.std.proofs.Common.{◌≡◌, ◌-◌, length, take, drop, ap, ◌∙◌, ℕ, List}
use Rattle.std.proofs.lemmas.List.{take_rest}
use Rattle.nd_read.specs.Messages.{behind_fixed, fixed_len}
use Rattle.nd_read.proofs.Readings.{options_ok, options_err}
use Rattle.nd_read.proofs.reader.test_options.Goals as goal

from_fixed : (message : List ℕ) (fixed : ℕ) → fixed ≡ fixed_len message → take (length message - fixed) (drop fixed message) ≡ behind_fixed message
from_fixed message fixed e = take_rest message fixed ∙ ap (λ (n : ℕ). drop n message) e

pub returns-clause-ok : goal.returns-clause-ok
returns-clause-ok c =
    let message = c.args.message.now in
    options_ok (take (length message - c.args.fixed) (drop c.args.fixed message)) message c.names_source.result (from_fixed message c.args.fixed c.requires.fixed) c.names_source.ensures

pub returns-clause-err : goal.returns-clause-err
returns-clause-err c =
    let message = c.args.message.now in
    options_err (take (length message - c.args.fixed) (drop c.args.fixed message)) message c.names_source.result (from_fixed message c.args.fixed c.requires.fixed) c.names_source.ensures
