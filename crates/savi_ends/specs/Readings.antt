-- What a clock has read.
use Rattle.std.specs.Prelude.{◌≡◌, ℕ, List, [], ◌∷◌, ◌++◌, Option, Some, None}

-- One reading more, where the clock still tells its readings. A clock may stop telling and never starts.
abbrev pub AddsReading : Option (List ℕ) → Option (List ℕ) → ℕ → Type 0
AddsReading old None reading = Unit {0}
AddsReading old (Some new) reading = (before : List ℕ) × (old ≡ Some before) × (new ≡ before ++ reading ∷ [])
