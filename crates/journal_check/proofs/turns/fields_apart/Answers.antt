use Rattle.std.proofs.Common.{◌∙◌, arith}
use Rattle.hist_store.specs.LineTexts.{line_fields}
use Rattle.hist_store.proofs.FieldWords.{line_row}
use Rattle.journal_check.proofs.FieldsCut.{line_spaceless}
use Rattle.journal_check.proofs.ShortFields.{the_row}
use Rattle.journal_check.proofs.turns.fields_apart.Goals as goal

pub returns : goal.returns
returns c = λ have field other says apart told told'.
    let want = the_row c.args.want.now c.args.octets.now in
    let wants = line_fields c.args.n want in
    let haves = line_fields c.args.n have in
    c.first_apart.ensures wants haves field other (line_spaceless wants (line_row c.args.n want (λ i. let fits = c.type_inv.octets i in omega arith))) (line_spaceless haves (line_row c.args.n have says.octets))
    (c.as_slice.ensures.value ∙ c.put_line.ensures.text) says.text apart told told'
