-- The readings that a clock has added: none, and one more behind others.
use Rattle.std.proofs.Common.{ℕ, List, [], ◌∷◌, ◌++◌, refl, sym, ap, subst, ◌∙◌, append-nil, append_assoc, Option, Some, None}
use Rattle.savi_ends.specs.Readings.{AddsReading}
use Rattle.stream_io.specs.Calls.{AddsReadings}

pub adds_none : (readings : Option (List ℕ)) → AddsReadings readings readings []
adds_none None = tt
adds_none (Some made) = (made, refl, sym (append-nil made))

pub adds_more : (old mid new : Option (List ℕ)) (readings : List ℕ) (reading : ℕ) → AddsReadings old mid readings → AddsReading mid new reading → AddsReadings old new (readings ++ reading ∷ [])
adds_more old mid None readings reading adds one = tt
adds_more old mid (Some new) readings reading adds one =
    let front = subst (λ (o : Option (List ℕ)). AddsReadings old o readings) one.1 adds in
    (front.0, front.1, one.2 ∙ ap (λ (l : List ℕ). l ++ reading ∷ []) front.2 ∙ append_assoc front.0 readings (reading ∷ []))
