-- The choice among numbers.
use Rattle.std.proofs.Common.{◌≡◌, ℕ, ◌≤◌, List, length, subst, ◌∙◌, arith, Option, None}
use Rattle.std.proofs.lemmas.List.{get_or_default}
use Rattle.std.specs.List.{All}
use Rattle.port_worker.specs.Choices.{IsFirstOf}

pub none_of : (numbers : List (Option ℕ)) (count : ℕ) (first : Option (ℕ × ℕ)) → IsFirstOf numbers count first → first ≡ None → length numbers ≤ count → All (λ number. number ≡ None) numbers
none_of numbers count first is none whole k d inside =
    let each : IsFirstOf numbers count None = subst (λ (f : Option (ℕ × ℕ)). IsFirstOf numbers count f) none is in
    get_or_default numbers k d None inside ∙ each k (omega arith)
