-- Counts of faults, step after step.
use Rattle.std.proofs.Common.{◌≡◌, ℕ, subst}
use Rattle.savi_ends.specs.Faults.{Rose}

-- a fault behind none is one since the first step
pub rose_since : (first mid new : ℕ) → mid ≡ first → Rose mid new → Rose first new
rose_since first mid new same rose = subst (λ (n : ℕ). Rose n new) same rose
