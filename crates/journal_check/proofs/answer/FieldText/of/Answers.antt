use Rattle.std.proofs.Common.{◌≡◌, ◌<◌, ℕ, List, length, get_or, All, IsAscii, ap, ◌∙◌, inl, inr, arith}
use Rattle.std.proofs.lemmas.Bool.{cases_lt}
use Rattle.std.proofs.lemmas.List.{get_or_past}
use Rattle.std.proofs.lemmas.Str.{IsUtf8-from_ascii}
use Rattle.journal_check.proofs.answer.FieldText.of.Goals as goal

ascii_field : (t : List ℕ) → All (λ octet. octet < 128) t → IsAscii t
ascii_field t all = λ i.
    elim (cases_lt i (length t)) [
      | inl inside ↦ all i 0 inside
      | inr over ↦ let past : get_or t i 0 ≡ 0 = get_or_past t i 0 over in omega (arith, past)
    ]

pub returns-in-Ok : goal.returns-in-Ok
returns-in-Ok c = λ is.
    let short = is.short in
    let same = ap length c.in-Ok.ensures.cases.0 in
    c.of_text.ensures (omega (arith, short, same)) ∙ c.in-Ok.ensures.cases.0

pub returns-in-Err : goal.returns-in-Err
returns-in-Err c = λ is. absurd (c.in-Err.ensures.cases.0 (IsUtf8-from_ascii c.args.field.now (ascii_field c.args.field.now is.plain)))
