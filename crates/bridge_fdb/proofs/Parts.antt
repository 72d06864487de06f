-- Lists of stations parted by a MAC address: those below it, the one with it, those above it.
use Rattle.std.proofs.Common.{◌≡◌, ℕ, ◌+◌, ◌<◌, nat_lt, zero, suc, get_or, Bool, true, false, ◌&&◌, cond, List, [], ◌∷◌, ◌++◌, length, filter, find, take, drop, count_by, Option, None, Some, All, refl, sym, ◌∙◌, ap, ap₂, subst, arith, inl, inr}
use Rattle.std.specs.List.{list_any, slice_get}
use Rattle.std.specs.Option.{option_to_list, option_map}
use Rattle.std.proofs.lemmas.Bool.{cases_Bool, ltb-true, ltb-false, le-ltb, eqb-true, eq-eqb}
use Rattle.std.proofs.lemmas.List.{take-append-drop, take-set, drop-set}
use Rattle.std.proofs.Math.ListN.{set}
use Rattle.std.proofs.Math.Seq.{drop-cons}
use Rattle.std.proofs.lemmas.List.Sums.{sum_by-append}
use Rattle.std.proofs.lemmas.List.Elements.{All-filter, All-head, All-tail, filter-append}
use Rattle.std.proofs.lemmas.Option.{slice_get_read}
use Rattle.savi_kinds.specs.Ports.{number_of}
use Rattle.savi_kinds.specs.declared.address.Mac.{Mac}
use Rattle.bridge_fdb.specs.declared.station.Station.{Station}
use Rattle.savi_kinds.specs.Orders.{is_below, is_above, IsRising}
use Rattle.bridge_fdb.specs.Stations.{station_number, mac_number, is_live, live_at, is_of, is_at, learned_port}
use Rattle.bridge_fdb.specs.Learning.{with_station, is_known}
use Rattle.bridge_fdb.specs.Places.{StandsAt, BelongsAt}
use Rattle.savi_kinds.proofs.Filters.{count_by-cons, filter-none, find-none}
use Rattle.bridge_fdb.proofs.Rising.{is_of-other, behind, rest_rising, none_of}

-- each station is below, with or above
pub count_parts : (n : ℕ) (p : Station → Bool) (xs : List Station) → count_by p xs ≡ count_by p (filter (is_below station_number n) xs) + count_by p (filter (is_of n) xs) + count_by p (filter (is_above station_number n) xs)
count_parts n p [] = refl
count_parts n p (x ∷ xs) =
    let m : ℕ = mac_number x.mac in
    let one : count_by p (x ∷ xs) ≡ cond (p x) 1 0 + count_by p xs = count_by-cons p x xs in
    let rest : count_by p xs ≡ count_by p (filter (is_below station_number n) xs) + count_by p (filter (is_of n) xs) + count_by p (filter (is_above station_number n) xs) = count_parts n p xs in
    elim (cases_Bool (nat_lt m n)) [
      | inl low ↦
          let before : m < n = ltb-true m n low in
          let kept : count_by p (x ∷ filter (is_below station_number n) xs) ≡ cond (p x) 1 0 + count_by p (filter (is_below station_number n) xs) = count_by-cons p x (filter (is_below station_number n) xs) in
          rw (low, is_of-other n x (omega (arith, before)), le-ltb n m (omega (arith, before))) (omega (arith, one, rest, kept))
      | inr not_low ↦
          elim (cases_Bool (nat_lt n m)) [
            | inl high ↦
                let after : n < m = ltb-true n m high in
                let kept : count_by p (x ∷ filter (is_above station_number n) xs) ≡ cond (p x) 1 0 + count_by p (filter (is_above station_number n) xs) = count_by-cons p x (filter (is_above station_number n) xs) in
                rw (not_low, is_of-other n x (omega (arith, after)), high) (omega (arith, one, rest, kept))
            | inr not_high ↦
                let same : m ≡ n = omega (arith, ltb-false m n not_low, ltb-false n m not_high) in
                let kept : count_by p (x ∷ filter (is_of n) xs) ≡ cond (p x) 1 0 + count_by p (filter (is_of n) xs) = count_by-cons p x (filter (is_of n) xs) in
                rw (not_low, eq-eqb m n same, not_high) (omega (arith, one, rest, kept))
          ]
    ]

-- those behind one with the number have another
pub others_behind : (n : ℕ) (x : Station) (xs : List Station) → IsRising station_number (x ∷ xs) → is_of n x ≡ true → All (λ y. is_of n y ≡ false) xs
others_behind n x xs rising same = none_of n xs (subst (λ m. All (λ y. m < mac_number y.mac) xs) (eqb-true (mac_number x.mac) n same) (behind x xs rising))

-- in a rising list at most one has the number
pub of_found : (n : ℕ) (xs : List Station) → IsRising station_number xs → filter (is_of n) xs ≡ option_to_list (find (is_of n) xs)
of_found n [] rising = refl
of_found n (x ∷ xs) rising =
    elim (cases_Bool (is_of n x)) [
      | inl same ↦ rw same (ap (λ ys. x ∷ ys) (filter-none (is_of n) xs (others_behind n x xs rising same)))
      | inr other ↦ rw other (of_found n xs (rest_rising x xs rising))
    ]

-- how many there are once a station was put into its place
pub count_with : (p : Station → Bool) (s : Station) (xs : List Station) → count_by p (with_station s xs) + count_by p (filter (is_of (mac_number s.mac)) xs) ≡ count_by p xs + cond (p s) 1 0
count_with p s xs =
    let n : ℕ = mac_number s.mac in
    let both : count_by p (with_station s xs) ≡ count_by p (filter (is_below station_number n) xs) + count_by p (s ∷ filter (is_above station_number n) xs) = sum_by-append (λ y. cond (p y) 1 0) (filter (is_below station_number n) xs) (s ∷ filter (is_above station_number n) xs) in
    let one : count_by p (s ∷ filter (is_above station_number n) xs) ≡ cond (p s) 1 0 + count_by p (filter (is_above station_number n) xs) = count_by-cons p s (filter (is_above station_number n) xs) in
    omega (arith, both, one, count_parts n p xs)

-- two filters may be turned
pub filter_turned : {X : Type 0} (p q : X → Bool) (xs : List X) → filter p (filter q xs) ≡ filter q (filter p xs)
filter_turned p q [] = refl
filter_turned p q (x ∷ xs) =
    let same : filter p (filter q xs) ≡ filter q (filter p xs) = filter_turned p q xs in
    elim (cases_Bool (p x)) [
      | inl a ↦
          elim (cases_Bool (q x)) [
            | inl b ↦ simp (a, b) (ap (λ ys. x ∷ ys) same)
            | inr b ↦ simp (a, b) same
          ]
      | inr a ↦
          elim (cases_Bool (q x)) [
            | inl b ↦ simp (a, b) same
            | inr b ↦ simp (a, b) same
          ]
    ]

-- what is live once a live station was put into its place
pub live_with : (t : ℕ) (s : Station) (xs : List Station) → is_live t s ≡ true → live_at t (with_station s xs) ≡ with_station s (live_at t xs)
live_with t s xs live =
    let n : ℕ = mac_number s.mac in
    filter-append (is_live t) (filter (is_below station_number n) xs) (s ∷ filter (is_above station_number n) xs)
    ∙ rw (live, filter_turned (is_live t) (is_below station_number n) xs, filter_turned (is_live t) (is_above station_number n) xs) refl

-- what is live at t of a station that was found
abbrev pub live_in : ℕ → Option Station → Option Station
live_in t None = None
live_in t (Some s) = cond (is_live t s) (Some s) None

pub find_live : (t n : ℕ) (xs : List Station) → IsRising station_number xs → find (is_of n) (live_at t xs) ≡ live_in t (find (is_of n) xs)
find_live t n [] rising = refl
find_live t n (x ∷ xs) rising =
    let rest : find (is_of n) (live_at t xs) ≡ live_in t (find (is_of n) xs) = find_live t n xs (rest_rising x xs rising) in
    elim (cases_Bool (is_of n x)) [
      | inl same ↦
          let none : find (is_of n) (live_at t xs) ≡ None = find-none (is_of n) (live_at t xs) (All-filter (is_live t) (λ y. is_of n y ≡ false) xs (others_behind n x xs rising same)) in
          elim (cases_Bool (is_live t x)) [
            | inl live ↦ simp (same, live) refl
            | inr ended ↦ simp (same, ended) none
          ]
      | inr other ↦
          elim (cases_Bool (is_live t x)) [
            | inl live ↦ simp (other, live) rest
            | inr ended ↦ simp (other, ended) rest
          ]
    ]

any-none : (r q : Station → Bool) (xs : List Station) → All (λ y. q y ≡ false) xs → list_any (λ y. r y && q y) xs ≡ false
any-none r q [] stop = refl
any-none r q (x ∷ xs) stop =
    let here : q x ≡ false = All-head (λ y. q y ≡ false) x xs stop in
    let rest : list_any (λ y. r y && q y) xs ≡ false = any-none r q xs (All-tail (λ y. q y ≡ false) x xs stop) in
    elim (cases_Bool (r x)) [
      | inl a ↦ simp (a, here) rest
      | inr a ↦ simp (a, here) rest
    ]

-- whether a station that was found is live at t and at this port
abbrev pub known_in : ℕ → ℕ → Option Station → Bool
known_in port t None = false
known_in port t (Some s) = is_at port s && is_live t s

pub known_live : (port t n : ℕ) (xs : List Station) → IsRising station_number xs → list_any (λ y. is_at port y && is_of n y) (live_at t xs) ≡ known_in port t (find (is_of n) xs)
known_live port t n [] rising = refl
known_live port t n (x ∷ xs) rising =
    let rest : list_any (λ y. is_at port y && is_of n y) (live_at t xs) ≡ known_in port t (find (is_of n) xs) = known_live port t n xs (rest_rising x xs rising) in
    elim (cases_Bool (is_of n x)) [
      | inl same ↦
          let none : list_any (λ y. is_at port y && is_of n y) (live_at t xs) ≡ false = any-none (is_at port) (is_of n) (live_at t xs) (All-filter (is_live t) (λ y. is_of n y ≡ false) xs (others_behind n x xs rising same)) in
          elim (cases_Bool (is_live t x)) [
            | inl live ↦
                elim (cases_Bool (is_at port x)) [
                  | inl a ↦ simp (same, live, a) refl
                  | inr a ↦ simp (same, live, a) none
                ]
            | inr ended ↦
                elim (cases_Bool (is_at port x)) [
                  | inl a ↦ simp (same, ended, a) none
                  | inr a ↦ simp (same, ended, a) none
                ]
          ]
      | inr other ↦
          elim (cases_Bool (is_live t x)) [
            | inl live ↦
                elim (cases_Bool (is_at port x)) [
                  | inl a ↦ simp (other, live, a) rest
                  | inr a ↦ simp (other, live, a) rest
                ]
            | inr ended ↦ simp (other, ended) rest
          ]
    ]

-- a station is put where one with its number stands
pub set_stands : (s : Station) (xs : List Station) (i : ℕ) → StandsAt (mac_number s.mac) xs i → set xs i s ≡ with_station s xs
set_stands s xs i at = sym (take-append-drop i (set xs i s)) ∙ rw (take-set xs i s, drop-set xs i s at.bound, at.below, at.above) refl

-- or where it belongs
pub insert_belongs : (s : Station) (xs : List Station) (i : ℕ) → BelongsAt (mac_number s.mac) xs i → take i xs ++ s ∷ drop i xs ≡ with_station s xs
insert_belongs s xs i at = rw (at.below, at.above) refl

-- a station that stands in its place is the one that is found
found_at : (n : ℕ) (xs : List Station) (i : ℕ) (x : Station) → StandsAt n xs i → x ≡ get_or xs i x → find (is_of n) xs ≡ Some x
found_at n xs i x at is = at.found ∙ slice_get_read xs (length xs) i x refl at.bound is

pub of_count : (p : Station → Bool) (n : ℕ) (xs : List Station) (i : ℕ) (x : Station) → IsRising station_number xs → StandsAt n xs i → x ≡ get_or xs i x → count_by p (filter (is_of n) xs) ≡ cond (p x) 1 0
of_count p n xs i x rising at is =
    let one : filter (is_of n) xs ≡ x ∷ [] = of_found n xs rising ∙ ap option_to_list (found_at n xs i x at is) in
    let counted : count_by p (filter (is_of n) xs) ≡ cond (p x) 1 0 + 0 = ap (count_by p) one ∙ count_by-cons p x [] in
    omega (arith, counted)

pub place_found : (mac : Mac) (t : ℕ) (xs : List Station) (i : ℕ) (x : Station) → IsRising station_number xs → StandsAt (mac_number mac) xs i → x ≡ get_or xs i x → learned_port mac (live_at t xs) ≡ option_map (λ station. station.port) (cond (is_live t x) (Some x) None)
place_found mac t xs i x rising at is = ap (option_map (λ station. station.port)) (find_live t (mac_number mac) xs rising ∙ ap (live_in t) (found_at (mac_number mac) xs i x at is))

pub place_missing : (mac : Mac) (t : ℕ) (xs : List Station) (i : ℕ) → IsRising station_number xs → BelongsAt (mac_number mac) xs i → learned_port mac (live_at t xs) ≡ None
place_missing mac t xs i rising at = ap (option_map (λ station. station.port)) (find_live t (mac_number mac) xs rising ∙ ap (live_in t) at.none)

pub known_found : (s : Station) (xs : List Station) (i : ℕ) (x : Station) → IsRising station_number xs → StandsAt (mac_number s.mac) xs i → x ≡ get_or xs i x → is_known s (live_at s.last xs) ≡ (is_at (number_of s.port) x && is_live s.last x)
known_found s xs i x rising at is = known_live (number_of s.port) s.last (mac_number s.mac) xs rising ∙ ap (known_in (number_of s.port) s.last) (found_at (mac_number s.mac) xs i x at is)

pub known_missing : (s : Station) (xs : List Station) (i : ℕ) → IsRising station_number xs → BelongsAt (mac_number s.mac) xs i → is_known s (live_at s.last xs) ≡ false
known_missing s xs i rising at = known_live (number_of s.port) s.last (mac_number s.mac) xs rising ∙ ap (known_in (number_of s.port) s.last) at.none

-- the list from a place on begins with the station there
from_here : (xs : List Station) (i : ℕ) (x : Station) → i < length xs → x ≡ get_or xs i x → drop i xs ≡ x ∷ drop (i + 1) xs
from_here xs i x within is =
    let next : suc i ≡ i + 1 = omega arith in
    drop-cons xs i x within ∙ ap₂ (λ (y : Station) (n : ℕ). y ∷ drop n xs) (sym is) next

pub live_here : (t : ℕ) (xs : List Station) (i : ℕ) (x : Station) → i < length xs → x ≡ get_or xs i x → is_live t x ≡ true → live_at t (drop i xs) ≡ x ∷ live_at t (drop (i + 1) xs)
live_here t xs i x within is live = ap (live_at t) (from_here xs i x within is) ∙ rw live refl

pub ended_here : (t : ℕ) (xs : List Station) (i : ℕ) (x : Station) → i < length xs → x ≡ get_or xs i x → is_live t x ≡ false → live_at t (drop i xs) ≡ live_at t (drop (i + 1) xs)
ended_here t xs i x within is ended = ap (live_at t) (from_here xs i x within is) ∙ rw ended refl

-- the item that passes a filter behind i others
pub nth_passing : {X : Type 0} (p : X → Bool) (xs : List X) (k i : ℕ) (x : X) → k < length xs → x ≡ get_or xs k x → p x ≡ true → count_by p (take k xs) ≡ i → slice_get (filter p xs) i ≡ Some x
nth_passing p [] k i x within is passes count = absurd (omega (arith, within))
nth_passing {X} p (y ∷ ys) zero i x within is passes count =
    let first : p y ≡ true = subst (λ (z : X). p z ≡ true) is passes in
    rw (sym count, first) (ap Some (sym is))
nth_passing {X} p (y ∷ ys) (suc k) i x within is passes count =
    let all : count_by p (y ∷ take k ys) ≡ cond (p y) 1 0 + count_by p (take k ys) = count_by-cons p y (take k ys) in
    let rest : slice_get (filter p ys) (count_by p (take k ys)) ≡ Some x = nth_passing p ys k (count_by p (take k ys)) x (omega (arith, within)) is passes refl in
    elim (cases_Bool (p y)) [
      | inl first ↦
          let more : count_by p (y ∷ take k ys) ≡ 1 + count_by p (take k ys) = all ∙ rw first refl in
          let next : i ≡ suc (count_by p (take k ys)) = omega (arith, more, count) in
          rw (next, first) rest
      | inr other ↦
          let none : count_by p (y ∷ take k ys) ≡ 0 + count_by p (take k ys) = all ∙ rw other refl in
          let same : i ≡ count_by p (take k ys) = omega (arith, none, count) in
          rw (same, other) rest
    ]

abbrev known_station : Station → Option Station → Station
known_station d None = d
known_station d (Some x) = x

-- the station that stands in its place has the number
pub stands_number : (n : ℕ) (xs : List Station) (i : ℕ) (d : Station) → StandsAt n xs i → mac_number (get_or xs i d).mac ≡ n
stands_number n xs i d at = eqb-true (mac_number (get_or xs i d).mac) n (found_passes (is_of n) xs (get_or xs i d) (at.found ∙ slice_get_read xs (length xs) i (get_or xs i d) refl at.bound (get_or_self xs i d at.bound)))
  where
    get_or_same : (ys : List Station) (k : ℕ) (e f : Station) → e ≡ f → get_or ys k e ≡ get_or ys k f
    get_or_same ys k e f same = ap (get_or ys k) same

    get_or_self : (ys : List Station) (k : ℕ) (e : Station) → k < length ys → get_or ys k e ≡ get_or ys k (get_or ys k e)
    get_or_self [] k e below = absurd (omega (arith, below))
    get_or_self (y ∷ ys) zero e below = refl
    get_or_self (y ∷ ys) (suc k) e below = get_or_self ys k e (omega (arith, below)) ∙ get_or_same ys k (get_or ys k e) (get_or ys k e) refl

    found_passes : (p : Station → Bool) (ys : List Station) (y : Station) → find p ys ≡ Some y → p y ≡ true
    found_passes p [] y is = let no : None ≡ Some y = is in cc
    found_passes p (z ∷ ys) y is =
        elim (cases_Bool (p z)) [
          | inl here ↦ let one : Some z ≡ Some y = rw here at is in subst (λ (x : Station). p x ≡ true) (ap (known_station z) one) here
          | inr other ↦ let rest : find p ys ≡ Some y = rw other at is in found_passes p ys y rest
        ]
