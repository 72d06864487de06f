use Rattle.std.proofs.lemmas.Option.{none-some}
use Rattle.hist_store.specs.PortTexts.{members_text}
use Rattle.hist_store.proofs.FieldWords.{word_ports}
use Rattle.hist_store.proofs.FieldsRead.{spaceless}
use Rattle.hist_store.proofs.read_ports.take_ports.Goals as goal

pub returns-in_err-field-clause-whole : goal.returns-in_err-field-clause-whole
returns-in_err-field-clause-whole c =
    rw c.from_residual.ensures (λ x fields small is. c.in_err-field.ensures.whole (members_text x) fields (spaceless (members_text x) (word_ports x)) is)

pub returns-in_err-read_ports-clause-whole : goal.returns-in_err-read_ports-clause-whole
returns-in_err-read_ports-clause-whole c =
    rw c.from_residual-in_err-read_ports.ensures (λ x fields small is.
    let cut = c.in_ok-field.ensures.whole (members_text x) fields (spaceless (members_text x) (word_ports x)) is in
    none-some x (c.in_err-read_ports.ensures.whole x small cut.0))

pub returns-clause-whole : goal.returns-clause-whole
returns-clause-whole c = λ x fields small is.
    let cut = c.in_ok-field.ensures.whole (members_text x) fields (spaceless (members_text x) (word_ports x)) is in
    let same = c.in_ok-read_ports.ensures.whole x small cut.0 in
    (cc same, cut.1)
