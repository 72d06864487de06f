use Rattle.std.proofs.Common.{decimal}
use Rattle.std.proofs.lemmas.Option.{none-some}
use Rattle.hist_store.proofs.Words.{word_decimal}
use Rattle.hist_store.proofs.FieldsRead.{spaceless}
use Rattle.hist_store.proofs.read_fields.take_number.Goals as goal

pub returns-in_err-field-clause-whole : goal.returns-in_err-field-clause-whole
returns-in_err-field-clause-whole c =
    rw c.from_residual.ensures (λ x fields small is. c.in_err-field.ensures.whole (decimal x) fields (spaceless (decimal x) (word_decimal x)) is)

pub returns-in_err-read_number-clause-whole : goal.returns-in_err-read_number-clause-whole
returns-in_err-read_number-clause-whole c =
    rw c.from_residual-in_err-read_number.ensures (λ x fields small is.
    let cut = c.in_ok-field.ensures.whole (decimal x) fields (spaceless (decimal x) (word_decimal x)) is in
    none-some x (c.in_err-read_number.ensures.whole x small cut.0))

pub returns-clause-whole : goal.returns-clause-whole
returns-clause-whole c = λ x fields small is.
    let cut = c.in_ok-field.ensures.whole (decimal x) fields (spaceless (decimal x) (word_decimal x)) is in
    let same = c.in_ok-read_number.ensures.whole x small cut.0 in
    (cc same, cut.1)
