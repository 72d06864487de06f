use Rattle.std.proofs.Common.{sym, ap, ◌∙◌, true≢false}
use Rattle.hist_store.specs.TextOfLines.{spaced}
use Rattle.hist_store.proofs.FieldsRead.{spaceless}
use Rattle.hist_store.proofs.EntryRead.{has_letter}
use Rattle.hist_store.proofs.reading.read_act.Goals as goal

pub returns-in_err-letter-clause-whole : goal.returns-in_err-letter-clause-whole
returns-in_err-letter-clause-whole c = rw c.from_residual.ensures (λ row says.
    let s = has_letter row.entry row.octets row.entry.act in
    absurd (c.in_err-letter.ensures.whole s.word s.rest (spaceless s.word s.is_word) (says.text_is ∙ ap spaced s.fields)))

pub returns-else-is_word-6-clause-whole : goal.returns-else-is_word-6-clause-whole
returns-else-is_word-6-clause-whole c = λ row says.
    let s = has_letter row.entry row.octets row.entry.act in
    let cut = c.in_ok-letter.ensures.whole s.word s.rest (spaceless s.word s.is_word) (says.text_is ∙ ap spaced s.fields) in
    absurd (s.none c.in_ok-letter.letter.now cut.0
    (λ e. true≢false (sym (c.if-is_word.ensures.1 e)))
    (λ e. true≢false (sym (c.if-is_word-2.ensures.1 e)))
    (λ e. true≢false (sym (c.if-is_word-3.ensures.1 e)))
    (λ e. true≢false (sym (c.if-is_word-4.ensures.1 e)))
    (λ e. true≢false (sym (c.if-is_word-5.ensures.1 e)))
    (λ e. true≢false (sym (c.if-is_word-6.ensures.1 e))))
