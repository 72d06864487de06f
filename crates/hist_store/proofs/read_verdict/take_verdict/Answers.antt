use Rattle.std.proofs.Common.{Some}
use Rattle.std.proofs.lemmas.Option.{none-some}
use Rattle.hist_store.specs.VerdictTexts.{verdict_text}
use Rattle.hist_store.proofs.FieldWords.{word_verdict}
use Rattle.hist_store.proofs.FieldsRead.{spaceless}
use Rattle.hist_store.proofs.read_verdict.take_verdict.Goals as goal

pub returns-in_err-field-clause-whole : goal.returns-in_err-field-clause-whole
returns-in_err-field-clause-whole c =
    rw c.from_residual.ensures (λ x fields is. c.in_err-field.ensures.whole (verdict_text x) fields (spaceless (verdict_text x) (word_verdict (Some x))) is)

pub returns-in_err-read_verdict-clause-whole : goal.returns-in_err-read_verdict-clause-whole
returns-in_err-read_verdict-clause-whole c =
    rw c.from_residual-in_err-read_verdict.ensures (λ x fields is.
    let cut = c.in_ok-field.ensures.whole (verdict_text x) fields (spaceless (verdict_text x) (word_verdict (Some x))) is in
    none-some x (c.in_err-read_verdict.ensures.whole x cut.0))

pub returns-clause-whole : goal.returns-clause-whole
returns-clause-whole c = λ x fields is.
    let cut = c.in_ok-field.ensures.whole (verdict_text x) fields (spaceless (verdict_text x) (word_verdict (Some x))) is in
    let same = c.in_ok-read_verdict.ensures.whole x cut.0 in
    (cc same, cut.1)
