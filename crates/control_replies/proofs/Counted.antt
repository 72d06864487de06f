-- What is counted stays a number of 64 bits.
use Rattle.std.proofs.Common.{ℕ, zero, suc, ◌≡◌, ◌-◌, ◌^◌, ◌<◌, List, [], ◌∷◌, get_or, set, refl, sym, subst, arith}
use Rattle.std.specs.List.{repeat}
use Rattle.savi_kinds.specs.declared.verdict.Rule.{Rule}
use Rattle.savi_kinds.specs.Rules.{rule_number}
use Rattle.control_replies.specs.Counters.{AreCounts}
use Rattle.control_replies.specs.Counting.{count_more, nothing_counted}

pub counted_small : (count more : ℕ) → count_more count more < 2 ^ 64
counted_small count more = omega arith

-- what holds of each count and of a new one holds of each with the new one in its place
pub set_holds : (P : ℕ → Type 0) (counts : List ℕ) (place count i : ℕ) → P count → P (get_or counts i 0) → P (get_or (set counts place count) i 0)
set_holds P [] place count i new old = old
set_holds P (x ∷ counts) zero count zero new old = new
set_holds P (x ∷ counts) zero count (suc i) new old = old
set_holds P (x ∷ counts) (suc place) count zero new old = old
set_holds P (x ∷ counts) (suc place) count (suc i) new old = set_holds P counts place count i new old

none_at : (n i : ℕ) → let counts : List ℕ = repeat n (0 ∷ []) in get_or counts i 0 ≡ 0
none_at zero i = refl
none_at (suc n) zero = refl
none_at (suc n) (suc i) = none_at n i

pub none_counted : AreCounts nothing_counted
none_counted = record {
  by_rule = λ rule. subst (λ (n : ℕ). n < 2 ^ 64) (sym (none_at 23 (rule_number rule - 1))) (omega arith);
  pass = omega arith;
  cut = omega arith;
  probes = omega arith;
  lost = omega arith;
}
