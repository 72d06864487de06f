-- Stations in rising order of MAC address, and where one of a MAC address stands among them.
use Rattle.std.proofs.Common.{◌≡◌, ◌≢◌, ◌⊎◌, ℕ, get_or, add-one, subst, ◌≤◌, ◌<◌, ◌==◌, zero, suc, true, false, List, [], ◌∷◌, length, filter, drop, All, refl, sym, ap, arith, inl, inr}
use Rattle.std.specs.List.{AllWithin}
use Rattle.std.specs.List.Sorted.{IsNonDecreasingBy}
use Rattle.std.proofs.lemmas.Bool.{cases_Bool, cases_eq, ltb-true, ltb-false, lt-ltb, le-ltb, eqb-true, eq-eqb}
use Rattle.std.proofs.lemmas.List.Elements.{All-weaker}
use Rattle.bridge_fdb.specs.declared.station.Station.{Station}
use Rattle.savi_kinds.specs.Orders.{is_below, is_above, IsRising}
use Rattle.bridge_fdb.specs.Stations.{station_number, mac_number, is_of}
use Rattle.bridge_fdb.specs.Places.{StandsAt, BelongsAt}
use Rattle.savi_kinds.proofs.Filters.{filter-all, filter-none, find-none}
use Rattle.savi_kinds.proofs.Pairs.{AllPairs-head, AllPairs-tail}

-- in a rising list those behind a station are higher
pub behind : (x : Station) (xs : List Station) → IsRising station_number (x ∷ xs) → All (λ y. mac_number x.mac < mac_number y.mac) xs
behind x xs rising = AllPairs-head (λ earlier later. mac_number earlier.mac < mac_number later.mac) x xs rising

pub rest_rising : (x : Station) (xs : List Station) → IsRising station_number (x ∷ xs) → IsRising station_number xs
rest_rising x xs rising = AllPairs-tail (λ earlier later. mac_number earlier.mac < mac_number later.mac) x xs rising

-- those that are higher than a number are all above it
pub all_above : (n : ℕ) (xs : List Station) → All (λ y. n < mac_number y.mac) xs → All (λ y. is_above station_number n y ≡ true) xs
all_above n xs higher = All-weaker (λ y. n < mac_number y.mac) (λ y. is_above station_number n y ≡ true) (λ y h. lt-ltb n (mac_number y.mac) h) xs higher

pub none_below : (n : ℕ) (xs : List Station) → All (λ y. n < mac_number y.mac) xs → All (λ y. is_below station_number n y ≡ false) xs
none_below n xs higher = All-weaker (λ y. n < mac_number y.mac) (λ y. is_below station_number n y ≡ false) (λ y h. le-ltb (mac_number y.mac) n (omega (arith, h))) xs higher

-- a station with another number isn't the one
pub is_of-other : (n : ℕ) (y : Station) → mac_number y.mac ≢ n → is_of n y ≡ false
is_of-other n y other =
    elim (cases_Bool (mac_number y.mac == n)) [
      | inl same ↦ absurd (other (eqb-true (mac_number y.mac) n same))
      | inr is ↦ is
    ]

pub none_of : (n : ℕ) (xs : List Station) → All (λ y. n < mac_number y.mac) xs → All (λ y. is_of n y ≡ false) xs
none_of n xs higher = All-weaker (λ y. n < mac_number y.mac) (λ y. is_of n y ≡ false) (λ y h. is_of-other n y (omega (arith, h))) xs higher

-- a station with the number stands where it is
pub stands : (n : ℕ) (xs : List Station) (i : ℕ) → IsRising station_number xs → i < length xs → ((d : Station) → mac_number (get_or xs i d).mac ≡ n) → StandsAt n xs i
stands n [] i rising within is = absurd (omega (arith, within))
stands n (x ∷ xs) zero rising within is =
    let same : mac_number x.mac ≡ n = is x in
    let higher : All (λ y. n < mac_number y.mac) xs = subst (λ m. All (λ y. m < mac_number y.mac) xs) same (behind x xs rising) in
    record {
      bound = within;
      found = rw (eq-eqb (mac_number x.mac) n same) refl;
      below = rw (le-ltb (mac_number x.mac) n (omega (arith, same))) (sym (filter-none (is_below station_number n) xs (none_below n xs higher)));
      above = rw (le-ltb n (mac_number x.mac) (omega (arith, same))) (sym (filter-all (is_above station_number n) xs (all_above n xs higher)));
    }
stands n (x ∷ xs) (suc i) rising within is =
    let inside : i < length xs = omega (arith, within) in
    let later : mac_number x.mac < mac_number (get_or xs i x).mac = behind x xs rising i x inside in
    let lower : mac_number x.mac < n = omega (arith, later, is x) in
    let rest : StandsAt n xs i = stands n xs i (rest_rising x xs rising) inside is in
    let behind_it : drop (suc i) xs ≡ filter (is_above station_number n) xs = rw add-one at rest.above in
    record {
      bound = within;
      found = rw (is_of-other n x (omega (arith, lower))) rest.found;
      below = rw (lt-ltb (mac_number x.mac) n lower) (ap (λ ys. x ∷ ys) rest.below);
      above = rw (add-one, le-ltb n (mac_number x.mac) (omega (arith, lower))) behind_it;
    }

-- a station with the number would stand between the lower and the higher ones
pub belongs : (n : ℕ) (xs : List Station) (i : ℕ) → i ≤ length xs → AllWithin (λ y. mac_number y.mac < n) xs 0 i → AllWithin (λ y. n < mac_number y.mac) xs i (length xs) → BelongsAt n xs i
belongs n xs zero within lower higher =
    let all : All (λ y. n < mac_number y.mac) xs = λ k d inside. higher k d (omega arith) inside in
    record {
      bound = within;
      none = find-none (is_of n) xs (none_of n xs all);
      below = sym (filter-none (is_below station_number n) xs (none_below n xs all));
      above = sym (filter-all (is_above station_number n) xs (all_above n xs all));
    }
belongs n [] (suc i) within lower higher = absurd (omega (arith, within))
belongs n (x ∷ xs) (suc i) within lower higher =
    let first : mac_number x.mac < n = lower 0 x (omega arith) (omega arith) in
    let rest : BelongsAt n xs i = belongs n xs i (omega (arith, within)) (λ k d from to. lower (suc k) d (omega arith) (omega (arith, to))) (λ k d from to. higher (suc k) d (omega (arith, from)) (omega (arith, to))) in
    record {
      bound = within;
      none = rw (is_of-other n x (omega (arith, first))) rest.none;
      below = rw (lt-ltb (mac_number x.mac) n first) (ap (λ ys. x ∷ ys) rest.below);
      above = rw (le-ltb n (mac_number x.mac) (omega (arith, first))) rest.above;
    }

-- the same from where the lower ones end
pub belongs_at_end : (n : ℕ) (xs : List Station) (i : ℕ) → IsRising station_number xs → i ≤ length xs → AllWithin (λ y. is_below station_number n y ≡ true) xs 0 i → AllWithin (λ y. is_below station_number n y ≡ false) xs i (length xs) → (i < length xs → (d : Station) → mac_number (get_or xs i d).mac ≢ n) → BelongsAt n xs i
belongs_at_end n xs i rising within front not_yet other =
    belongs n xs i within
    (λ k d from to. ltb-true (mac_number (get_or xs k d).mac) n (front k d from to))
    (λ k d from to. higher k d from to (cases_eq i k))
  where
    higher : (k : ℕ) (d : Station) → i ≤ k → k < length xs → (i ≡ k) ⊎ (i ≢ k) → n < mac_number (get_or xs k d).mac
    higher k d from to (inl same) =
        let ne : mac_number (get_or xs i d).mac ≢ n = other (omega (arith, from, to)) d in
        let at_least : n ≤ mac_number (get_or xs i d).mac = ltb-false (mac_number (get_or xs i d).mac) n (not_yet i d (omega arith) (omega (arith, from, to))) in
        subst (λ j. n < mac_number (get_or xs j d).mac) same (omega (arith, ne, at_least))
    higher k d from to (inr later) =
        let at_least : n ≤ mac_number (get_or xs i d).mac = ltb-false (mac_number (get_or xs i d).mac) n (not_yet i d (omega arith) (omega (arith, from, to))) in
        let more : mac_number (get_or xs i d).mac < mac_number (get_or xs k d).mac = rising i k d (omega (arith, from, later)) to in
        omega (arith, at_least, more)

-- what the search for a place asks
pub IsNonDecreasingBy-from_rising : (xs : List Station) → IsRising station_number xs → IsNonDecreasingBy (λ station. mac_number station.mac) xs
IsNonDecreasingBy-from_rising xs rising i j d from to =
    elim (cases_eq i j) [
      | inl same ↦ subst (λ k. mac_number (get_or xs i d).mac ≤ mac_number (get_or xs k d).mac) same (omega arith)
      | inr later ↦ let more : mac_number (get_or xs i d).mac < mac_number (get_or xs j d).mac = rising i j d (omega (arith, from, later)) to in omega (arith, more)
    ]
