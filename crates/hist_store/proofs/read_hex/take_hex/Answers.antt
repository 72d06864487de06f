use Rattle.std.proofs.Common.{sym, true≢false}
use Rattle.hist_store.specs.LineTexts.{hex_text}
use Rattle.hist_store.proofs.FieldWords.{word_hex}
use Rattle.hist_store.proofs.FieldsRead.{spaceless}
use Rattle.hist_store.proofs.read_hex.take_hex.Goals as goal

pub returns-in_err-field-clause-whole : goal.returns-in_err-field-clause-whole
returns-in_err-field-clause-whole c =
    rw c.from_residual.ensures (λ bytes fields is short text. absurd (c.in_err-field.ensures.whole (hex_text bytes) fields (spaceless (hex_text bytes) (word_hex bytes is)) text))

pub returns-then-read_octets-clause-whole : goal.returns-then-read_octets-clause-whole
returns-then-read_octets-clause-whole c = λ bytes fields is short text.
    let cut = c.in_ok-field.ensures.whole (hex_text bytes) fields (spaceless (hex_text bytes) (word_hex bytes is)) text in
    (cut.1, (c.read_octets.ensures.whole bytes is short cut.0).1)

pub returns-else-read_octets-clause-whole : goal.returns-else-read_octets-clause-whole
returns-else-read_octets-clause-whole c = λ bytes fields is short text.
    let cut = c.in_ok-field.ensures.whole (hex_text bytes) fields (spaceless (hex_text bytes) (word_hex bytes is)) text in
    absurd (true≢false (sym (c.if-read_octets.ensures.whole bytes is short cut.0).0))
