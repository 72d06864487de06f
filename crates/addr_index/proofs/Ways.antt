-- Ways along the ring of places.
use Rattle.std.proofs.Common.{◌≢◌, ◌≤◌, ◌<◌, ◌+◌, ◌⊎◌, ℕ, inl, inr, arith}
use Rattle.std.proofs.lemmas.Bool.{cases_lt}
use Rattle.addr_index.specs.Ways.{IsOnWay, IsOffWay, IsRound}
use Rattle.addr_index.proofs.Gaps.{IsPassedPlace, IsAhead}

-- the end of a way isn't on it
pub end_off : (a b : ℕ) → IsOnWay a b b → ⊥
end_off a b on = grind arith

pub on_off : (a b x : ℕ) → IsOnWay a b x → IsOffWay a b x → ⊥
on_off a b x on off = grind arith

-- a way on which the gap is, to a place that isn't between the gap and `at`, comes by `at`
pub by_gap : (home gap at p : ℕ) → IsOnWay home p gap → IsOffWay gap at p → p ≢ gap → at ≢ gap → p ≢ at → IsOnWay home p at
by_gap home gap at p on off pg ag pa = record {
  begun = λ h. grind arith;
  before = λ h. grind arith;
  round = λ h h'. grind arith;
}

-- a way that ends earlier
pub shorter : (home gap at x : ℕ) → IsOnWay home at gap → IsOnWay home gap x → IsOnWay home at x
shorter home gap at x on less = record {
  begun = λ h. grind arith;
  before = λ h. grind arith;
  round = λ h h'. grind arith;
}

-- the region behind the gap, one place longer
pub further : (n k gap at next p : ℕ) → IsRound n k at → IsRound n (k + 1) next → k + 1 ≤ n + n → IsOffWay gap at p → p ≢ at → at ≢ gap → p < n → IsOffWay gap next p
further n k gap at next p r r' less off pa ag pn = record {
  beyond = λ h h'. grind arith;
  not_begun = λ h. grind arith;
  past = λ h. grind arith;
}

-- the region of one place
pub beside : (n k at next p : ℕ) → IsRound n k at → IsRound n (k + 1) next → p ≢ at → p < n → IsOffWay at next p
beside n k at next p r r' pa pn = record {
  beyond = λ h h'. grind arith;
  not_begun = λ h. grind arith;
  past = λ h. grind arith;
}

pub cases_passed : (n from steps x : ℕ) → IsPassedPlace n from steps x ⊎ IsAhead n from steps x
cases_passed n from steps x =
    elim (cases_lt x from) [
      | inl before ↦ elim (cases_lt (x + n) (from + steps)) [
        | inl passed ↦ inl (record { straight = λ h. omega arith; round = λ h. passed })
        | inr ahead ↦ inr (record { straight = λ h. omega arith; round = λ h. ahead })
      ]
      | inr behind ↦ elim (cases_lt x (from + steps)) [
        | inl passed ↦ inl (record { straight = λ h. passed; round = λ h. omega arith })
        | inr ahead ↦ inr (record { straight = λ h. ahead; round = λ h. omega arith })
      ]
    ]

pub passed_ahead : (n from steps x : ℕ) → IsPassedPlace n from steps x → IsAhead n from steps x → ⊥
passed_ahead n from steps x passed ahead = grind arith

-- all on the way to a place was passed
pub way_passed : (n from steps at x : ℕ) → IsRound n (from + steps) at → from < n → steps < n → x < n → IsOnWay from at x → IsPassedPlace n from steps x
way_passed n from steps at x r fn sn xn on = record { straight = λ h. grind arith; round = λ h. grind arith }

-- a place ahead is reached by `at`
pub ahead_by : (n from steps at x : ℕ) → IsRound n (from + steps) at → from < n → steps < n → x < n → IsAhead n from steps x → x ≢ at → IsOnWay from x at
ahead_by n from steps at x r fn sn xn ahead other = record { begun = λ h. grind arith; before = λ h. grind arith; round = λ h h'. grind arith }

pub passed_at : (n from steps at : ℕ) → IsRound n (from + steps) at → from < n → steps < n → IsPassedPlace n from (steps + 1) at
passed_at n from steps at r fn sn = record { straight = λ h. grind arith; round = λ h. grind arith }

pub passed_later : (n from steps x : ℕ) → IsPassedPlace n from steps x → IsPassedPlace n from (steps + 1) x
passed_later n from steps x passed = record { straight = λ h. grind arith; round = λ h. grind arith }

pub not_passed : (n from steps at x : ℕ) → IsRound n (from + steps) at → from < n → steps < n → x < n → IsPassedPlace n from steps x → at ≢ x
not_passed n from steps at x r fn sn xn passed same = grind arith

pub ahead_more : (n from steps at x : ℕ) → IsRound n (from + steps) at → from < n → steps < n → x < n → x ≢ at → IsAhead n from steps x → IsAhead n from (steps + 1) x
ahead_more n from steps at x r fn sn xn other ahead = record { straight = λ h. grind arith; round = λ h. grind arith }

-- once round, nothing is ahead
pub none_ahead : (n from x : ℕ) → x < n → from < n → IsAhead n from n x → ⊥
none_ahead n from x xn fn ahead = grind arith
