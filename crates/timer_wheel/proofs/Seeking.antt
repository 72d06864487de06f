-- The search for the least row by slices.
use Rattle.std.proofs.Common.{◌≡◌, ◌≢◌, ◌⊎◌, ℕ, ◌+◌, ◌-◌, ◌%◌, ◌^◌, ◌≤◌, ◌<◌, true, false, List, Option, None, Some, sym, ap, ◌∙◌, arith, inl, inr}
use Rattle.std.proofs.lemmas.Bool.{cases_eq, cases_lt, cases_Bool, false≢true, eq-eqb, eqb-true}
use Rattle.timer_wheel.specs.declared.armed.Armed.{Armed}
use Rattle.timer_wheel.specs.Rows.{armed_at}
use Rattle.timer_wheel.specs.Rings.{slice_of, bucket_of, rank_of, is_sooner, sooner_of, is_in}
use Rattle.timer_wheel.specs.Kept.{IsEarly}
use Rattle.timer_wheel.specs.Searches.{LeastOf}
use Rattle.timer_wheel.proofs.Walks.{sooner_rank, later_rank}

-- each row's address is one
abbrev pub Fit : List (Option Armed) → Type 0
Fit slots = (key : ℕ) (armed : Armed) → armed_at slots key ≡ Some armed → armed.address.0 < 2 ^ 128

-- the least of more is that of fewer
pub least_weaker : (slots : List (Option Armed)) (P Q : Armed → Type 0) (o : Option Armed) → ((key : ℕ) (armed : Armed) → armed_at slots key ≡ Some armed → Q armed → P armed) → LeastOf slots P o → LeastOf slots Q o
least_weaker slots P Q None weaker least = λ key armed there such. least key armed there (weaker key armed there such)
least_weaker slots P Q (Some x) weaker least = record { row = least.row; lowest = λ key armed there such. least.lowest key armed there (weaker key armed there such) }

-- the sooner of two is the least of what either is the least of
pub least_joined : (slots : List (Option Armed)) (P Q : Armed → Type 0) (a b : Option Armed) → Fit slots → LeastOf slots P a → LeastOf slots Q b → LeastOf slots (λ armed. P armed ⊎ Q armed) (sooner_of a b)
least_joined slots P Q None None fit one other = λ key armed there such. elim such [ inl p ↦ one key armed there p | inr q ↦ other key armed there q ]
least_joined slots P Q None (Some y) fit one other = record { row = other.row; lowest = λ key armed there such. elim such [ inl p ↦ absurd (one key armed there p) | inr q ↦ other.lowest key armed there q ] }
least_joined slots P Q (Some x) None fit one other = record { row = one.row; lowest = λ key armed there such. elim such [ inl p ↦ one.lowest key armed there p | inr q ↦ absurd (other key armed there q) ] }
least_joined slots P Q (Some x) (Some y) fit one other = go (cases_Bool (is_sooner y x))
  where
    go : ((is_sooner y x ≡ true) ⊎ (is_sooner y x ≡ false)) → LeastOf slots (λ armed. P armed ⊎ Q armed) (sooner_of (Some x) (Some y))
    go (inl sooner) =
        let less : rank_of y < rank_of x = sooner_rank y x (fit other.row.key y other.row.there) sooner in
        rw sooner (record {
          row = other.row;
          lowest = λ key armed there such. elim such [ inl p ↦ omega (arith, less, one.lowest key armed there p) | inr q ↦ other.lowest key armed there q ];
        })
    go (inr later) =
        let le : rank_of x ≤ rank_of y = later_rank y x (fit one.row.key x one.row.there) later in
        rw later (record {
          row = one.row;
          lowest = λ key armed there such. elim such [ inl p ↦ one.lowest key armed there p | inr q ↦ omega (arith, le, other.lowest key armed there q) ];
        })

-- a row was looked at, in one of so many buckets from a slice on
abbrev pub WasSeen : ℕ → ℕ → Armed → Type 0
WasSeen from step armed = (slice_of armed - from) % 1024 < step

-- so many slices were looked at, and none of them has a row
pub record IsSought (slots : List (Option Armed)) (from step : ℕ) (least : Option Armed) : Type 0 where
  pub early : IsEarly slots (from + step)
  pub seen : LeastOf slots (WasSeen from step) least
  pub fits : from + step ≤ 2 ^ 58

by_slice : (x y : Armed) → x.address.0 < 2 ^ 128 → slice_of x < slice_of y → rank_of x ≤ rank_of y
by_slice x y fits less =
    let due : x.due < y.due = omega (arith, less) in
    omega (arith, due, fits)

slice_rank : (x y : Armed) → y.address.0 < 2 ^ 128 → rank_of x ≤ rank_of y → slice_of x ≤ slice_of y
slice_rank x y fits le =
    let due : x.due ≤ y.due = omega (arith, le, fits) in
    omega (arith, due)

-- the first row of a slice is the least of all
pub sought_here : (slots : List (Option Armed)) (from step last : ℕ) (least first : Option Armed) → Fit slots → IsSought slots from step least → LeastOf slots (λ armed. bucket_of armed ≡ (from + step) % 1024) first → is_in (from + step) first ≡ true → LeastOf slots (λ armed. slice_of armed ≤ last) first
sought_here slots from step last least None fit sought one here = absurd (false≢true here)
sought_here slots from step last least (Some x) fit sought one here =
    let slice : slice_of x ≡ from + step = eqb-true (slice_of x) (from + step) here in
    record {
      row = one.row;
      lowest = λ key armed there such.
          elim (cases_eq (slice_of armed) (from + step)) [
            | inl same ↦ one.lowest key armed there (ap (λ n. n % 1024) same)
            | inr other ↦
                let from_on : from + step ≤ slice_of armed = sought.early key armed there in
                by_slice x armed (fit one.row.key x one.row.there) (omega (arith, slice, from_on, other))
          ];
    }

-- the bucket of a row in a bucket that is looked at next
seen_next : (from step slice : ℕ) → from ≤ slice → (slice - from) % 1024 < step + 1 → ((slice - from) % 1024 < step) ⊎ (slice % 1024 ≡ (from + step) % 1024)
seen_next from step slice le seen =
    elim (cases_lt ((slice - from) % 1024) step) [
      | inl before ↦ inl before
      | inr not_before ↦ inr (omega (arith, le, seen, not_before))
    ]

-- the next slice has no row either
pub sought_next : (slots : List (Option Armed)) (from step last : ℕ) (least first : Option Armed) → Fit slots → IsSought slots from step least → LeastOf slots (λ armed. bucket_of armed ≡ (from + step) % 1024) first → is_in (from + step) first ≡ false → from + step ≤ last → last < 2 ^ 58 → IsSought slots from (step + 1) (sooner_of first least)
sought_next slots from step last least first fit sought one not_here within fits = record {
  early = λ key armed there. early key armed there first one not_here (cases_eq (slice_of armed) (from + step));
  seen =
      least_weaker slots (λ armed. (bucket_of armed ≡ (from + step) % 1024) ⊎ WasSeen from step armed) (WasSeen from (step + 1)) (sooner_of first least)
      (λ key armed there seen.
      let from_on : from + step ≤ slice_of armed = sought.early key armed there in
      elim (seen_next from step (slice_of armed) (omega (arith, from_on)) seen) [ inl before ↦ inr before | inr now ↦ inl now ])
      (least_joined slots (λ armed. bucket_of armed ≡ (from + step) % 1024) (WasSeen from step) first least fit one sought.seen);
  fits = omega (arith, within, fits);
}
  where
    early : (key : ℕ) (armed : Armed) → armed_at slots key ≡ Some armed → (o : Option Armed) → LeastOf slots (λ x. bucket_of x ≡ (from + step) % 1024) o → is_in (from + step) o ≡ false → (slice_of armed ≡ from + step) ⊎ (slice_of armed ≢ from + step) → from + (step + 1) ≤ slice_of armed
    early key armed there o head out (inr other) = let from_on : from + step ≤ slice_of armed = sought.early key armed there in omega (arith, from_on, other)
    early key armed there None head out (inl same) = absurd (head key armed there (ap (λ n. n % 1024) same))
    early key armed there (Some x) head out (inl same) =
        let le : slice_of x ≤ slice_of armed = slice_rank x armed (fit key armed there) (head.lowest key armed there (ap (λ n. n % 1024) same)) in
        let from_on : from + step ≤ slice_of x = sought.early head.row.key x head.row.there in
        let slice : slice_of x ≡ from + step = omega (arith, le, from_on, same) in
        absurd (false≢true (sym out ∙ eq-eqb (slice_of x) (from + step) slice))

-- after a whole turn each row was seen
pub sought_all : (slots : List (Option Armed)) (from step : ℕ) (Q : Armed → Type 0) (least : Option Armed) → IsSought slots from step least → 1024 ≤ step → LeastOf slots Q least
sought_all slots from step Q least sought turn =
    least_weaker slots (WasSeen from step) Q least (λ key armed there such. omega (arith, turn)) sought.seen

-- so the least row's slice is the least
pub sought_early : (slots : List (Option Armed)) (from step : ℕ) (least : Armed) → Fit slots → IsSought slots from step (Some least) → 1024 ≤ step → IsEarly slots (slice_of least)
sought_early slots from step least fit sought turn key armed there =
    let all : LeastOf slots (λ x. ℕ) (Some least) = sought_all slots from step (λ x. ℕ) (Some least) sought turn in
    slice_rank least armed (fit key armed there) (all.lowest key armed there 0)
