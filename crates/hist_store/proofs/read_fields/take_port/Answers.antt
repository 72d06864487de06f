use Rattle.std.proofs.lemmas.Option.{none-some}
use Rattle.hist_store.specs.PortTexts.{port_text}
use Rattle.hist_store.proofs.FieldWords.{word_port}
use Rattle.hist_store.proofs.FieldsRead.{spaceless}
use Rattle.hist_store.proofs.read_fields.take_port.Goals as goal

pub returns-in_err-field-clause-whole : goal.returns-in_err-field-clause-whole
returns-in_err-field-clause-whole c =
    rw c.from_residual.ensures (λ x fields is. c.in_err-field.ensures.whole (port_text x) fields (spaceless (port_text x) (word_port x)) is)

pub returns-in_err-read_port-clause-whole : goal.returns-in_err-read_port-clause-whole
returns-in_err-read_port-clause-whole c =
    rw c.from_residual-in_err-read_port.ensures (λ x fields is.
    let cut = c.in_ok-field.ensures.whole (port_text x) fields (spaceless (port_text x) (word_port x)) is in
    none-some x (c.in_err-read_port.ensures.whole x cut.0))

pub returns-clause-whole : goal.returns-clause-whole
returns-clause-whole c = λ x fields is.
    let cut = c.in_ok-field.ensures.whole (port_text x) fields (spaceless (port_text x) (word_port x)) is in
    let same = c.in_ok-read_port.ensures.whole x cut.0 in
    (cc same, cut.1)
