use Rattle.std.proofs.Common.{ℕ, ◌≡◌, List, ◌∷◌, ◌++◌, decimal, Some, sym, ap, ap₂, ◌∙◌}
use Rattle.std.proofs.lemmas.Option.{none-some}
use Rattle.savi_kinds.specs.declared.entry.Entry.{Entry}
use Rattle.hist_store.specs.TextOfLines.{joined, spaced}
use Rattle.hist_store.specs.LineTexts.{act_fields}
use Rattle.hist_store.proofs.FieldsRead.{spaceless}
use Rattle.hist_store.specs.EntryLines.{SaysAct}
use Rattle.hist_store.proofs.Words.{word_decimal}
use Rattle.hist_store.proofs.LineLemmas.{joined-spaced}
use Rattle.hist_store.proofs.reading.read_entry.Goals as goal

pub returns-in_err-n-clause-whole : goal.returns-in_err-n-clause-whole
returns-in_err-n-clause-whole c = rw c.from_residual.ensures (λ n row says.
    let line = says.text ∙ joined-spaced (decimal n) (decimal row.entry.by ∷ decimal row.entry.moment ∷ act_fields row.entry row.octets row.entry.act) in
    let number = c.cut_field.ensures.whole (decimal n) (decimal row.entry.by ∷ decimal row.entry.moment ∷ act_fields row.entry row.octets row.entry.act) (spaceless (decimal n) (word_decimal n)) line in
    absurd (none-some n (c.in_err-n.ensures.whole n says.number number.0)))

pub returns-in_err-by-clause-whole : goal.returns-in_err-by-clause-whole
returns-in_err-by-clause-whole c = rw c.from_residual-in_err-by.ensures (λ n row says.
    let line = says.text ∙ joined-spaced (decimal n) (decimal row.entry.by ∷ decimal row.entry.moment ∷ act_fields row.entry row.octets row.entry.act) in
    let number = c.cut_field.ensures.whole (decimal n) (decimal row.entry.by ∷ decimal row.entry.moment ∷ act_fields row.entry row.octets row.entry.act) (spaceless (decimal n) (word_decimal n)) line in
    absurd (c.in_err-by.ensures.whole row.entry.by (decimal row.entry.moment ∷ act_fields row.entry row.octets row.entry.act) says.numbers.by number.1))

pub returns-in_err-moment-clause-whole : goal.returns-in_err-moment-clause-whole
returns-in_err-moment-clause-whole c = rw c.from_residual-in_err-moment.ensures (λ n row says.
    let line = says.text ∙ joined-spaced (decimal n) (decimal row.entry.by ∷ decimal row.entry.moment ∷ act_fields row.entry row.octets row.entry.act) in
    let number = c.cut_field.ensures.whole (decimal n) (decimal row.entry.by ∷ decimal row.entry.moment ∷ act_fields row.entry row.octets row.entry.act) (spaceless (decimal n) (word_decimal n)) line in
    let by = c.in_ok-by.ensures.whole row.entry.by (decimal row.entry.moment ∷ act_fields row.entry row.octets row.entry.act) says.numbers.by number.1 in
    absurd (c.in_err-moment.ensures.whole row.entry.moment (act_fields row.entry row.octets row.entry.act) says.numbers.moment by.1))

pub returns-in_err-entry-clause-whole : goal.returns-in_err-entry-clause-whole
returns-in_err-entry-clause-whole c = rw c.from_residual-in_err-entry.ensures (λ n row says.
    let line = says.text ∙ joined-spaced (decimal n) (decimal row.entry.by ∷ decimal row.entry.moment ∷ act_fields row.entry row.octets row.entry.act) in
    let number = c.cut_field.ensures.whole (decimal n) (decimal row.entry.by ∷ decimal row.entry.moment ∷ act_fields row.entry row.octets row.entry.act) (spaceless (decimal n) (word_decimal n)) line in
    let by = c.in_ok-by.ensures.whole row.entry.by (decimal row.entry.moment ∷ act_fields row.entry row.octets row.entry.act) says.numbers.by number.1 in
    let moment = c.in_ok-moment.ensures.whole row.entry.moment (act_fields row.entry row.octets row.entry.act) says.numbers.moment by.1 in
    let act : SaysAct c.in_ok-moment.rest.now c.in_ok-by.by c.in_ok-moment.moment row = record { by_is = sym by.0; moment_is = sym moment.0; numbers = says.numbers; octets = says.octets; fits = says.fits; text_is = moment.1 } in
    absurd (none-some row.entry (c.in_err-entry.ensures.whole row act).0))

-- a line, field by field
line_is : (line number first second third : List ℕ) (n by moment : ℕ) (fields : List (List ℕ)) → line ≡ number ++ first → number ≡ decimal n → first ≡ 32 ∷ decimal by ++ second → second ≡ 32 ∷ decimal moment ++ third → third ≡ spaced fields → line ≡ joined (decimal n ∷ decimal by ∷ decimal moment ∷ fields)
line_is line number first second third n by moment fields a b d e f =
    let whole : line ≡ decimal n ++ spaced (decimal by ∷ decimal moment ∷ fields) = cc in
    whole ∙ sym (joined-spaced (decimal n) (decimal by ∷ decimal moment ∷ fields))

pub returns-clause-read : goal.returns-clause-read
returns-clause-read c =
    let says = c.in_ok-entry.ensures.read in
    let entry = c.in_ok-entry.entry in
    record {
      number = c.in_ok-n.ensures.read.1;
      numbers = says.numbers;
      octets = says.octets;
      fits = says.fits;
      text = line_is c.args.line.now _ _ _ _ c.in_ok-n.n entry.by entry.moment (act_fields entry _ entry.act) c.cut_field.ensures.read c.in_ok-n.ensures.read.0
          (c.in_ok-by.ensures.read.0 ∙ ap (λ (b : ℕ). 32 ∷ decimal b ++ c.in_ok-by.rest.now) (sym says.by_is))
          (c.in_ok-moment.ensures.read.0 ∙ ap (λ (m : ℕ). 32 ∷ decimal m ++ c.in_ok-moment.rest.now) (sym says.moment_is))
          says.text_is;
    }

pub returns-clause-whole : goal.returns-clause-whole
returns-clause-whole c = λ n row says.
    let line = says.text ∙ joined-spaced (decimal n) (decimal row.entry.by ∷ decimal row.entry.moment ∷ act_fields row.entry row.octets row.entry.act) in
    let number = c.cut_field.ensures.whole (decimal n) (decimal row.entry.by ∷ decimal row.entry.moment ∷ act_fields row.entry row.octets row.entry.act) (spaceless (decimal n) (word_decimal n)) line in
    let one = c.in_ok-n.ensures.whole n says.number number.0 in
    let by = c.in_ok-by.ensures.whole row.entry.by (decimal row.entry.moment ∷ act_fields row.entry row.octets row.entry.act) says.numbers.by number.1 in
    let moment = c.in_ok-moment.ensures.whole row.entry.moment (act_fields row.entry row.octets row.entry.act) says.numbers.moment by.1 in
    let act : SaysAct c.in_ok-moment.rest.now c.in_ok-by.by c.in_ok-moment.moment row = record { by_is = sym by.0; moment_is = sym moment.0; numbers = says.numbers; octets = says.octets; fits = says.fits; text_is = moment.1 } in
    let told = c.in_ok-entry.ensures.whole row act in
    let same : c.in_ok-n.n ≡ n = cc one in
    let entry : c.in_ok-entry.entry ≡ row.entry = cc told.0 in
    (ap₂ (λ (a : ℕ) (e : Entry). Some (a, e)) same entry, told.1)
