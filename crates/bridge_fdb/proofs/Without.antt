-- The list of stations but for the one with a MAC address.
use Rattle.std.proofs.Common.{◌≡◌, ◌≢◌, ◌⊎◌, ℕ, ◌+◌, ◌-◌, ◌^◌, ◌≤◌, ◌<◌, suc, add-one, nat_lt, Bool, true, false, cond, List, [], ◌∷◌, ◌++◌, length, get_or, filter, find, take, drop, count_by, Some, None, All, refl, sym, ◌∙◌, ap, append-nil, length-append, length-drop, get_or-take, get_or-drop, arith, inl, inr}
use Rattle.std.proofs.lemmas.Bool.{cases_Bool, cases_eq, false≢true, ltb-true, ltb-false, le-ltb, eqb-true, eq-eqb}
use Rattle.std.proofs.lemmas.List.{take-append-drop, length-take-le}
use Rattle.std.proofs.lemmas.List.Edits.{get_or-remove_below, get_or-remove_above}
use Rattle.std.proofs.lemmas.List.Elements.{All-append, All-cons, All-filter, All-weaker, All-head, All-tail, filter_passes, filter-append}
use Rattle.std.proofs.lemmas.List.Kept.{AllPairs-filter}
use Rattle.std.proofs.lemmas.List.Sums.{sum_by-append}
use Rattle.bridge_fdb.specs.declared.station.Station.{Station}
use Rattle.savi_kinds.specs.Orders.{is_below, is_above, IsRising}
use Rattle.bridge_fdb.specs.Stations.{station_number, mac_number, is_live, live_at, is_of, is_at}
use Rattle.bridge_fdb.specs.Learning.{with_station}
use Rattle.bridge_fdb.specs.Limits.{IsWithinLimits}
use Rattle.bridge_fdb.specs.Places.{StandsAt, BelongsAt}
use Rattle.bridge_fdb.specs.Kept.{without}
use Rattle.savi_kinds.proofs.Filters.{filter-all, filter-none}
use Rattle.savi_kinds.proofs.Pairs.{AllPairs-append}
use Rattle.bridge_fdb.proofs.Rising.{behind, rest_rising, is_of-other, none_below, all_above, belongs}
use Rattle.bridge_fdb.proofs.Parts.{count_parts, filter_turned}

above_not_below : (n : ℕ) (xs : List Station) → All (λ x. is_below station_number n x ≡ false) (filter (is_above station_number n) xs)
above_not_below n xs = All-weaker (λ x. is_above station_number n x ≡ true) (λ x. is_below station_number n x ≡ false) (λ x h. let less : n < mac_number x.mac = ltb-true n (mac_number x.mac) h in le-ltb (mac_number x.mac) n (omega (arith, less))) (filter (is_above station_number n) xs) (filter_passes (is_above station_number n) xs)

below_not_above : (n : ℕ) (xs : List Station) → All (λ x. is_above station_number n x ≡ false) (filter (is_below station_number n) xs)
below_not_above n xs = All-weaker (λ x. is_below station_number n x ≡ true) (λ x. is_above station_number n x ≡ false) (λ x h. let less : mac_number x.mac < n = ltb-true (mac_number x.mac) n h in le-ltb n (mac_number x.mac) (omega (arith, less))) (filter (is_below station_number n) xs) (filter_passes (is_below station_number n) xs)

-- to put a station into its place where the one with its MAC address was given up
pub with_without : (s : Station) (xs : List Station) → with_station s (without (mac_number s.mac) xs) ≡ with_station s xs
with_without s xs =
    let n : ℕ = mac_number s.mac in
    let front : List Station = filter (is_below station_number n) xs in
    let back : List Station = filter (is_above station_number n) xs in
    let below : filter (is_below station_number n) (front ++ back) ≡ front ++ [] = filter-append (is_below station_number n) front back ∙ rw (filter-all (is_below station_number n) front (filter_passes (is_below station_number n) xs), filter-none (is_below station_number n) back (above_not_below n xs)) refl in
    let above : filter (is_above station_number n) (front ++ back) ≡ back = filter-append (is_above station_number n) front back ∙ rw (filter-all (is_above station_number n) back (filter_passes (is_above station_number n) xs), filter-none (is_above station_number n) front (below_not_above n xs)) refl in
    rw (below, above) (ap (λ ys. ys ++ s ∷ back) (append-nil front))

pub live_without : (t n : ℕ) (xs : List Station) → live_at t (without n xs) ≡ without n (live_at t xs)
live_without t n xs = filter-append (is_live t) (filter (is_below station_number n) xs) (filter (is_above station_number n) xs) ∙ rw (filter_turned (is_live t) (is_below station_number n) xs, filter_turned (is_live t) (is_above station_number n) xs) refl

-- where none has it, the list stays
pub without_same : (n : ℕ) (xs : List Station) → IsRising station_number xs → All (λ x. is_of n x ≡ false) xs → without n xs ≡ xs
without_same n [] rising others = refl
without_same n (x ∷ xs) rising others =
    let m : ℕ = mac_number x.mac in
    elim (cases_Bool (nat_lt m n)) [
      | inl low ↦
          let less : m < n = ltb-true m n low in
          rw (low, le-ltb n m (omega (arith, less))) (ap (λ ys. x ∷ ys) (without_same n xs (rest_rising x xs rising) (All-tail (λ y. is_of n y ≡ false) x xs others)))
      | inr not_low ↦
          let least : n ≤ m = ltb-false m n not_low in
          let ne : m ≢ n = λ same. false≢true (sym (All-head (λ y. is_of n y ≡ false) x xs others) ∙ eq-eqb m n same) in
          let first : n < m = omega (arith, least, ne) in
          let higher : All (λ y. n < mac_number y.mac) (x ∷ xs) = All-cons (λ y. n < mac_number y.mac) x xs first (All-weaker (λ y. m < mac_number y.mac) (λ y. n < mac_number y.mac) (λ y more. omega (arith, more, first)) xs (behind x xs rising)) in
          let front : filter (is_below station_number n) (x ∷ xs) ≡ [] = filter-none (is_below station_number n) (x ∷ xs) (none_below n (x ∷ xs) higher) in
          let back : filter (is_above station_number n) (x ∷ xs) ≡ x ∷ xs = filter-all (is_above station_number n) (x ∷ xs) (all_above n (x ∷ xs) higher) in
          ap (λ ys. ys ++ filter (is_above station_number n) (x ∷ xs)) front ∙ back
    ]

pub IsRising-without : (n : ℕ) (xs : List Station) → IsRising station_number xs → IsRising station_number (without n xs)
IsRising-without n xs rising =
    let R : Station → Station → Type 0 = λ earlier later. mac_number earlier.mac < mac_number later.mac in
    let front : List Station = filter (is_below station_number n) xs in
    let back : List Station = filter (is_above station_number n) xs in
    let lower : All (λ y. mac_number y.mac < n) front = All-weaker (λ y. is_below station_number n y ≡ true) (λ y. mac_number y.mac < n) (λ y h. ltb-true (mac_number y.mac) n h) front (filter_passes (is_below station_number n) xs) in
    let higher : All (λ y. n < mac_number y.mac) back = All-weaker (λ y. is_above station_number n y ≡ true) (λ y. n < mac_number y.mac) (λ y h. ltb-true n (mac_number y.mac) h) back (filter_passes (is_above station_number n) xs) in
    AllPairs-append R front back (AllPairs-filter R (is_below station_number n) xs rising) (AllPairs-filter R (is_above station_number n) xs rising)
    (All-weaker (λ y. mac_number y.mac < n) (λ y. All (R y) back) (λ y low. All-weaker (λ z. n < mac_number z.mac) (R y) (λ z high. omega (arith, low, high)) back higher) front lower)

pub count_without : (p : Station → Bool) (n : ℕ) (xs : List Station) → count_by p (without n xs) + count_by p (filter (is_of n) xs) ≡ count_by p xs
count_without p n xs =
    let both : count_by p (without n xs) ≡ count_by p (filter (is_below station_number n) xs) + count_by p (filter (is_above station_number n) xs) = sum_by-append (λ y. cond (p y) 1 0) (filter (is_below station_number n) xs) (filter (is_above station_number n) xs) in
    omega (arith, both, count_parts n p xs)

pub All-without : (P : Station → Type 0) (n : ℕ) (xs : List Station) → All P xs → All P (without n xs)
All-without P n xs all = All-append P (filter (is_below station_number n) xs) (filter (is_above station_number n) xs) (All-filter (is_below station_number n) P xs all) (All-filter (is_above station_number n) P xs all)

pub IsWithinLimits-without : (n : ℕ) (xs : List Station) → IsWithinLimits xs → IsWithinLimits (without n xs)
IsWithinLimits-without n xs within = record {
  rising = IsRising-without n xs within.rising;
  room = λ port. omega (arith, count_without (is_at port) n xs, within.room port);
  in_time = All-without (λ station. station.last ≤ 2 ^ 62) n xs within.in_time;
}

-- the station with the MAC address is taken out
pub remove_stands : (n : ℕ) (xs : List Station) (i : ℕ) → StandsAt n xs i → take i xs ++ drop (suc i) xs ≡ without n xs
remove_stands n xs i at =
    let back : drop (suc i) xs ≡ filter (is_above station_number n) xs = rw add-one at at.above in
    rw (at.below, back) refl

pub belongs_without : (n : ℕ) (xs : List Station) (i : ℕ) → BelongsAt n xs i → xs ≡ without n xs
belongs_without n xs i at = sym (take-append-drop i xs) ∙ rw (at.below, at.above) refl

pub none_found : {X : Type 0} (p : X → Bool) (xs : List X) → find p xs ≡ None → All (λ x. p x ≡ false) xs
none_found p [] none = λ i d below. absurd (omega (arith, below))
none_found {X} p (x ∷ xs) none =
    elim (cases_Bool (p x)) [
      | inl is ↦ let found : Some x ≡ None = sym (rw is refl) ∙ none in cc
      | inr other ↦ let rest : find p xs ≡ None = rw other at none in All-cons (λ y. p y ≡ false) x xs other (none_found p xs rest)
    ]

pub none_left : (n : ℕ) (xs : List Station) → All (λ x. is_of n x ≡ false) (without n xs)
none_left n xs =
    All-append (λ x. is_of n x ≡ false) (filter (is_below station_number n) xs) (filter (is_above station_number n) xs)
    (All-weaker (λ y. is_below station_number n y ≡ true) (λ y. is_of n y ≡ false) (λ y h. let less : mac_number y.mac < n = ltb-true (mac_number y.mac) n h in is_of-other n y (omega (arith, less))) (filter (is_below station_number n) xs) (filter_passes (is_below station_number n) xs))
    (All-weaker (λ y. is_above station_number n y ≡ true) (λ y. is_of n y ≡ false) (λ y h. let less : n < mac_number y.mac = ltb-true n (mac_number y.mac) h in is_of-other n y (omega (arith, less))) (filter (is_above station_number n) xs) (filter_passes (is_above station_number n) xs))

-- where the one with the MAC address has ended, the same are live without it
pub live_without_ended : (t n : ℕ) (xs : List Station) (i : ℕ) → IsRising station_number xs → i < length xs → ((d : Station) → is_of n (get_or xs i d) ≡ true) → ((d : Station) → is_live t (get_or xs i d) ≡ false) → live_at t (without n xs) ≡ live_at t xs
live_without_ended t n xs i rising within of_it ended =
    live_without t n xs ∙ without_same n (live_at t xs) (AllPairs-filter (λ earlier later. mac_number earlier.mac < mac_number later.mac) (is_live t) xs rising) (none_live (filter_passes (is_live t) xs) (All-filter (is_live t) (λ x. is_of n x ≡ true → is_live t x ≡ false) xs each))
  where
    each : All (λ x. is_of n x ≡ true → is_live t x ≡ false) xs
    each k d below same =
        elim (cases_eq k i) [
          | inl here ↦ rw here (ended d)
          | inr other ↦
              let one : mac_number (get_or xs k d).mac ≡ mac_number (get_or xs i d).mac = eqb-true (mac_number (get_or xs k d).mac) n same ∙ sym (eqb-true (mac_number (get_or xs i d).mac) n (of_it d)) in
              elim (cases_Bool (nat_lt k i)) [
                | inl before ↦ let less : mac_number (get_or xs k d).mac < mac_number (get_or xs i d).mac = rising k i d (ltb-true k i before) within in absurd (omega (arith, less, one))
                | inr after ↦
                    let least : i ≤ k = ltb-false k i after in
                    let less : mac_number (get_or xs i d).mac < mac_number (get_or xs k d).mac = rising i k d (omega (arith, least, other)) below in
                    absurd (omega (arith, less, one))
              ]
        ]

    none_live : All (λ x. is_live t x ≡ true) (live_at t xs) → All (λ x. is_of n x ≡ true → is_live t x ≡ false) (live_at t xs) → All (λ x. is_of n x ≡ false) (live_at t xs)
    none_live live not_live k d below =
        elim (cases_Bool (is_of n (get_or (live_at t xs) k d))) [
          | inl same ↦ absurd (false≢true (sym (not_live k d below same) ∙ live k d below))
          | inr other ↦ other
        ]

-- where a station belongs once another one was taken out
pub belongs_left : (n : ℕ) (xs : List Station) (gone at left : ℕ) → IsRising station_number xs → gone < length xs → BelongsAt n xs at → (gone < at → left + 1 ≡ at) → (at ≤ gone → left ≡ at) → BelongsAt n (take gone xs ++ drop (suc gone) xs) left
belongs_left n xs gone at left rising within belongs_at before after =
    belongs n (take gone xs ++ drop (suc gone) xs) left (omega (arith, count, place))
    (λ k d from to. lower k d to (cases_Bool (nat_lt k gone)))
    (λ k d from to. higher k d from (omega (arith, to, count)) (cases_Bool (nat_lt k gone)))
  where
    count : length (take gone xs ++ drop (suc gone) xs) + 1 ≡ length xs
    count = omega (arith, length-append (take gone xs) (drop (suc gone) xs), length-take-le gone xs (omega (arith, within)), length-drop (suc gone) xs, within)

    place : left + 1 ≤ length xs
    place =
        elim (cases_Bool (nat_lt gone at)) [
          | inl is ↦ omega (arith, before (ltb-true gone at is), belongs_at.bound)
          | inr isnt ↦ omega (arith, after (ltb-false gone at isnt), ltb-false gone at isnt, within)
        ]

    low_at : (k : ℕ) (d : Station) → k < at → mac_number (get_or xs k d).mac < n
    low_at k d to =
        let all : All (λ x. is_below station_number n x ≡ true) (take at xs) = rw belongs_at.below (filter_passes (is_below station_number n) xs) in
        let here : is_below station_number n (get_or (take at xs) k d) ≡ true = all k d (omega (arith, to, length-take-le at xs belongs_at.bound)) in
        let same : get_or (take at xs) k d ≡ get_or xs k d = get_or-take at xs k d to in
        ltb-true (mac_number (get_or xs k d).mac) n (rw same at here)

    high_at : (k : ℕ) (d : Station) → at ≤ k → k < length xs → n < mac_number (get_or xs k d).mac
    high_at k d from to =
        let all : All (λ x. is_above station_number n x ≡ true) (drop at xs) = rw belongs_at.above (filter_passes (is_above station_number n) xs) in
        let here : is_above station_number n (get_or (drop at xs) (k - at) d) ≡ true = all (k - at) d (omega (arith, from, to, length-drop at xs)) in
        let index : at + (k - at) ≡ k = omega (arith, from) in
        let same : get_or (drop at xs) (k - at) d ≡ get_or xs k d = get_or-drop at xs (k - at) d ∙ ap (λ j. get_or xs j d) index in
        ltb-true n (mac_number (get_or xs k d).mac) (rw same at here)

    lower : (k : ℕ) (d : Station) → k < left → (nat_lt k gone ≡ true) ⊎ (nat_lt k gone ≡ false) → mac_number (get_or (take gone xs ++ drop (suc gone) xs) k d).mac < n
    lower k d to (inl is) =
        let less : k < gone = ltb-true k gone is in
        rw (get_or-remove_below xs gone d k less within)
        (elim (cases_Bool (nat_lt gone at)) [
          | inl early ↦ low_at k d (omega (arith, less, ltb-true gone at early))
          | inr late ↦ low_at k d (omega (arith, to, after (ltb-false gone at late)))
        ])
    lower k d to (inr isnt) =
        let least : gone ≤ k = ltb-false k gone isnt in
        rw (get_or-remove_above xs gone d k least within)
        (elim (cases_Bool (nat_lt gone at)) [
          | inl early ↦ low_at (k + 1) d (omega (arith, to, before (ltb-true gone at early)))
          | inr late ↦ absurd (omega (arith, to, after (ltb-false gone at late), ltb-false gone at late, least))
        ])

    higher : (k : ℕ) (d : Station) → left ≤ k → k + 1 < length xs → (nat_lt k gone ≡ true) ⊎ (nat_lt k gone ≡ false) → n < mac_number (get_or (take gone xs ++ drop (suc gone) xs) k d).mac
    higher k d from to (inl is) =
        let less : k < gone = ltb-true k gone is in
        rw (get_or-remove_below xs gone d k less within)
        (elim (cases_Bool (nat_lt gone at)) [
          | inl early ↦ absurd (omega (arith, from, before (ltb-true gone at early), ltb-true gone at early, less))
          | inr late ↦ high_at k d (omega (arith, from, after (ltb-false gone at late))) (omega (arith, to))
        ])
    higher k d from to (inr isnt) =
        let least : gone ≤ k = ltb-false k gone isnt in
        rw (get_or-remove_above xs gone d k least within)
        (elim (cases_Bool (nat_lt gone at)) [
          | inl early ↦ high_at (k + 1) d (omega (arith, from, before (ltb-true gone at early))) to
          | inr late ↦ high_at (k + 1) d (omega (arith, from, after (ltb-false gone at late))) to
        ])
