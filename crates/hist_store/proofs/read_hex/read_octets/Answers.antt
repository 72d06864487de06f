use Rattle.std.proofs.Common.{ℕ, ◌≡◌, ◌*◌, ◌<◌, List, length, codes, refl, sym, ap, subst, ◌∙◌, arith, true≢false}
use Rattle.std.proofs.lemmas.Bool.{eqb-true}
use Rattle.hex.specs.Hex.{IsBytes}
use Rattle.hist_store.specs.LineTexts.{hex_text}
use Rattle.hist_store.proofs.HexRead.{bytes_none, hex_text-none, dash_none, digits_of_text, text_of_digits}
use Rattle.hist_store.proofs.read_hex.read_octets.Goals as goal
use Rattle.hist_store.proofs.read_hex.read_octets.Goals.{then-is_empty-via-then-is_empty, then-is_empty-via-else-is_empty+then-field-ne0, then-is_empty-via-else-is_empty+else-field-ne0+then-field-most}

pub returns-then-is_dash-clause-read : goal.returns-then-is_dash-clause-read
returns-then-is_dash-clause-read c =
    let dash : c.args.field.now ≡ codes "-" = c.if-is_dash.ensures.0 refl in (
      dash ∙ sym (ap hex_text c.requires.empty ∙ hex_text-none),
      subst (λ (xs : List ℕ). IsBytes xs) (sym c.requires.empty) bytes_none,
      omega (arith, ap length c.requires.empty),
    )

pub returns-then-is_dash-clause-whole : goal.returns-then-is_dash-clause-whole
returns-then-is_dash-clause-whole c = λ bytes is short text.
    let dash : c.args.field.now ≡ codes "-" = c.if-is_dash.ensures.0 refl in
    (refl, c.requires.empty ∙ sym (dash_none bytes (sym dash ∙ text)))

pub returns-then-is_empty-clause-whole : goal.returns-then-is_empty-clause-whole
returns-then-is_empty-clause-whole c = λ bytes is short text.
    let digits = digits_of_text c.args.field.now bytes text (λ e. true≢false (sym (c.if-is_dash.ensures.1 e))) in
    let size : length c.args.field.now ≡ 2 * length bytes = digits.1 in
    let some : 0 < length bytes = digits.2 in
    elim c.then-is_empty.branch [
      | then-is_empty-via-then-is_empty w ↦ let none : length c.args.field.now ≡ 0 = eqb-true (length c.args.field.now) 0 (sym c.is_empty.ensures ∙ w.if-is_empty.true) in absurd (omega arith)
      | then-is_empty-via-else-is_empty+then-field-ne0 w ↦ absurd (omega (arith, size, w.if-field-ne0.true))
      | then-is_empty-via-else-is_empty+else-field-ne0+then-field-most w ↦ absurd (omega (arith, size, w.if-field-most.true))
    ]

pub returns-clause-read : goal.returns-clause-read
returns-clause-read c = text_of_digits c.read_digits.result c.args.field.now c.read_digits.new.octets.items c.args.most (sym c.is_empty.ensures ∙ c.if-is_empty.false) (omega (arith, c.if-field-most.false)) c.read_digits.ensures.read

pub returns-clause-whole : goal.returns-clause-whole
returns-clause-whole c = λ bytes is short text.
    let digits = digits_of_text c.args.field.now bytes text (λ e. true≢false (sym (c.if-is_dash.ensures.1 e))) in
    c.read_digits.ensures.whole bytes is digits.0
