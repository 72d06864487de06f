-- Names and numbers of places as tests.
use Rattle.std.proofs.Common.{◌≡◌, ◌≢◌, ℕ, ◌==◌, true, false, List, sym, ◌∙◌, inl, inr}
use Rattle.std.specs.Str.{bytes_eq}
use Rattle.std.proofs.lemmas.Bool.{cases_Bool}
use Rattle.std.proofs.lemmas.Bool.Decides.{Decides-eqb}
use Rattle.std.proofs.lemmas.Slice.Eq.{bytes_eq-Decides}

-- a key of this name has no other name
pub other_name : (key name other : List ℕ) → bytes_eq key name ≡ true → other ≢ name → bytes_eq key other ≡ false
other_name key name other named differs =
    elim (cases_Bool (bytes_eq key other)) [
      | inl same ↦ absurd (differs (sym ((bytes_eq-Decides key other).0 same) ∙ (bytes_eq-Decides key name).0 named))
      | inr off ↦ off
    ]

-- a port of this number has no other number
pub other_number : (key number other : ℕ) → (key == number) ≡ true → other ≢ number → (key == other) ≡ false
other_number key number other numbered differs =
    elim (cases_Bool (key == other)) [
      | inl same ↦ absurd (differs (sym ((Decides-eqb key other).0 same) ∙ (Decides-eqb key number).0 numbered))
      | inr off ↦ off
    ]
