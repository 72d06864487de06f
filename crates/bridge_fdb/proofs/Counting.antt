-- How many stations a port has, counted by its slots.
use Rattle.std.proofs.Common.{◌≡◌, ℕ, ◌+◌, ◌*◌, ◌-◌, ◌≤◌, ◌<◌, zero, suc, Bool, true, false, not, ◌&&◌, cond, List, [], ◌∷◌, length, get_or, filter, count_by, Option, Some, None, All, refl, sym, ◌∙◌, ap, arith, inl, inr}
use Rattle.std.specs.List.{list_any}
use Rattle.std.proofs.lemmas.Bool.{cases_Bool, cond_both, and_parts, eqb-true, eq-eqb, lt-ltb, false≢true}
use Rattle.std.proofs.lemmas.List.Elements.{All-head, All-tail, All-cons}
use Rattle.savi_kinds.specs.Ports.{number_of}
use Rattle.bridge_fdb.specs.declared.station.Station.{Station}
use Rattle.bridge_fdb.specs.Stations.{mac_number, is_live, live_at, is_of, is_at, station_end, stations_at, station_number}
use Rattle.bridge_fdb.specs.Learning.{is_known, with_station}
use Rattle.savi_kinds.specs.Orders.{IsRising}
use Rattle.bridge_fdb.specs.Places.{StandsAt}
use Rattle.bridge_fdb.specs.Kept.{IsTied, IsOwn, LivesUntil, in_slot, has, without}
use Rattle.savi_kinds.proofs.Filters.{count_by-cons}
use Rattle.bridge_fdb.proofs.Parts.{count_with, of_count}
use Rattle.bridge_fdb.proofs.Without.{live_without_ended}
use Rattle.bridge_fdb.proofs.Slots.{slot_within, get_or_within}

pub count_by-filter : {X : Type 0} (p q : X → Bool) (xs : List X) → count_by p (filter q xs) ≡ count_by (λ x. p x && q x) xs
count_by-filter p q [] = refl
count_by-filter p q (x ∷ xs) =
    let rest : count_by p (filter q xs) ≡ count_by (λ y. p y && q y) xs = count_by-filter p q xs in
    let all : count_by (λ y. p y && q y) (x ∷ xs) ≡ cond (p x && q x) 1 0 + count_by (λ y. p y && q y) xs = count_by-cons (λ y. p y && q y) x xs in
    let kept : count_by p (x ∷ filter q xs) ≡ cond (p x) 1 0 + count_by p (filter q xs) = count_by-cons p x (filter q xs) in
    cond_both (q x) (x ∷ filter q xs) (filter q xs) (λ ys. count_by p ys ≡ count_by (λ y. p y && q y) (x ∷ xs))
    (λ passes.
    elim (cases_Bool (p x)) [
      | inl is ↦ let both : ◌≡◌ {A = ℕ} (cond (p x && q x) 1 0) 1 = simp (is, passes) refl in let one : ◌≡◌ {A = ℕ} (cond (p x) 1 0) 1 = rw is refl in omega (arith, rest, all, kept, both, one)
      | inr isnt ↦ let both : ◌≡◌ {A = ℕ} (cond (p x && q x) 1 0) 0 = simp (isnt) refl in let one : ◌≡◌ {A = ℕ} (cond (p x) 1 0) 0 = rw isnt refl in omega (arith, rest, all, kept, both, one)
    ])
    (λ stops.
    let both : ◌≡◌ {A = ℕ} (cond (p x && q x) 1 0) 0 = elim (cases_Bool (p x)) [
      | inl is ↦ simp (is, stops) refl
      | inr isnt ↦ simp (isnt) refl
    ] in
    omega (arith, rest, all, both))

-- at most so many items are of a kind where no others are
pub count_most : {X : Type 0} (q : X → Bool) (xs : List X) (d : X) (a n : ℕ) → ((k : ℕ) → k < a → k < length xs → q (get_or xs k d) ≡ false) → ((k : ℕ) → a + n ≤ k → k < length xs → q (get_or xs k d) ≡ false) → count_by q xs ≤ n
count_most q [] d a n before after = omega arith
count_most q (x ∷ xs) d (suc a) n before after =
    let one : count_by q (x ∷ xs) ≡ 0 + count_by q xs = count_by-cons q x xs ∙ rw (before 0 (omega arith) (omega arith)) refl in
    let rest : count_by q xs ≤ n = count_most q xs d a n (λ k to in'. before (suc k) (omega (arith, to)) (omega (arith, in'))) (λ k from to. after (suc k) (omega (arith, from)) (omega (arith, to))) in
    omega (arith, one, rest)
count_most q (x ∷ xs) d zero zero before after =
    let one : count_by q (x ∷ xs) ≡ 0 + count_by q xs = count_by-cons q x xs ∙ rw (after 0 (omega arith) (omega arith)) refl in
    let rest : count_by q xs ≤ 0 = count_most q xs d 0 0 (λ k to in'. absurd (omega (arith, to))) (λ k from to. after (suc k) (omega arith) (omega (arith, to))) in
    omega (arith, one, rest)
count_most q (x ∷ xs) d zero (suc n) before after =
    let one : count_by q (x ∷ xs) ≡ cond (q x) 1 0 + count_by q xs = count_by-cons q x xs in
    let rest : count_by q xs ≤ n = count_most q xs d 0 n (λ k to in'. absurd (omega (arith, to))) (λ k from to. after (suc k) (omega (arith, from)) (omega (arith, to))) in
    omega (arith, one, rest, cond_most (q x))
  where
    cond_most : (b : Bool) → cond b 1 0 ≤ 1
    cond_most true = omega arith
    cond_most false = omega arith

-- at least so many are
pub count_least : {X : Type 0} (q : X → Bool) (xs : List X) (d : X) (a n : ℕ) → a + n ≤ length xs → ((k : ℕ) → a ≤ k → k < a + n → q (get_or xs k d) ≡ true) → n ≤ count_by q xs
count_least q xs d a zero within all = omega arith
count_least q [] d a (suc n) within all = absurd (omega (arith, within))
count_least q (x ∷ xs) d (suc a) (suc n) within all =
    let one : count_by q (x ∷ xs) ≡ cond (q x) 1 0 + count_by q xs = count_by-cons q x xs in
    let rest : suc n ≤ count_by q xs = count_least q xs d a (suc n) (omega (arith, within)) (λ k from to. all (suc k) (omega (arith, from)) (omega (arith, to))) in
    omega (arith, one, rest)
count_least q (x ∷ xs) d zero (suc n) within all =
    let one : count_by q (x ∷ xs) ≡ 1 + count_by q xs = count_by-cons q x xs ∙ rw (all 0 (omega arith) (omega arith)) refl in
    let rest : n ≤ count_by q xs = count_least q xs d 0 n (omega (arith, within)) (λ k from to. all (suc k) (omega arith) (omega (arith, to))) in
    omega (arith, one, rest)

pub count_none : {X : Type 0} (q : X → Bool) (xs : List X) → All (λ x. q x ≡ false) xs → count_by q xs ≡ 0
count_none q [] none = refl
count_none q (x ∷ xs) none =
    let one : count_by q (x ∷ xs) ≡ 0 + count_by q xs = count_by-cons q x xs ∙ rw (All-head (λ y. q y ≡ false) x xs none) refl in
    let rest : count_by q xs ≡ 0 = count_none q xs (All-tail (λ y. q y ≡ false) x xs none) in
    omega (arith, one, rest)

pub none_counted : {X : Type 0} (q : X → Bool) (xs : List X) → count_by q xs ≡ 0 → All (λ x. q x ≡ false) xs
none_counted q [] none = λ i d below. absurd (omega (arith, below))
none_counted q (x ∷ xs) none =
    let one : count_by q (x ∷ xs) ≡ cond (q x) 1 0 + count_by q xs = count_by-cons q x xs in
    elim (cases_Bool (q x)) [
      | inl is ↦ let more : count_by q (x ∷ xs) ≡ 1 + count_by q xs = one ∙ rw is refl in absurd (omega (arith, more, none))
      | inr isnt ↦ let same : count_by q (x ∷ xs) ≡ 0 + count_by q xs = one ∙ rw isnt refl in All-cons (λ y. q y ≡ false) x xs isnt (none_counted q xs (omega (arith, same, none)))
    ]

-- one of a kind stands somewhere
pub counted_one : {X : Type 0} (q : X → Bool) (xs : List X) → 1 ≤ count_by q xs → (i : ℕ) × (i < length xs) × ((d : X) → q (get_or xs i d) ≡ true)
counted_one q [] some = absurd (omega (arith, some))
counted_one q (x ∷ xs) some =
    let one : count_by q (x ∷ xs) ≡ cond (q x) 1 0 + count_by q xs = count_by-cons q x xs in
    elim (cases_Bool (q x)) [
      | inl is ↦ (0, omega arith, λ d. is)
      | inr isnt ↦
          let same : count_by q (x ∷ xs) ≡ 0 + count_by q xs = one ∙ rw isnt refl in
          let (i, within, there) = counted_one q xs (omega (arith, same, some)) in
          (suc i, omega (arith, within), there)
    ]

-- no port has more than 256
pub room_of : (stations : List (Option Station)) (slots numbers : List ℕ) (xs : List Station) → IsTied stations slots numbers xs → (port : ℕ) → stations_at port xs ≤ 256
room_of stations slots numbers xs tied port =
    let most : count_by (has (is_at port)) stations ≤ 256 =
    count_most (has (is_at port)) stations None (256 * (port - 1)) 256
    (λ k to inside. elsewhere k (in_slot stations k) refl (λ from below. omega (arith, from, to)))
    (λ k from inside. elsewhere k (in_slot stations k) refl (λ low below. omega (arith, below, from))) in
    omega (arith, most, tied.counted (is_at port))
  where
    elsewhere : (k : ℕ) (o : Option Station) → in_slot stations k ≡ o → (256 * (port - 1) ≤ k → k < 256 * port → ⊥) → has (is_at port) o ≡ false
    elsewhere k None is outside = refl
    elsewhere k (Some y) is outside =
        elim (cases_Bool (is_at port y)) [
          | inl here ↦
              let same : number_of y.port ≡ port = eqb-true (number_of y.port) port here in
              let own : IsOwn k y = tied.own k y is in
              absurd (outside (omega (arith, own.place.0, same)) (omega (arith, own.place.1, same)))
          | inr other ↦ other
        ]

-- a port whose slots all have live stations is full
pub full_of : (stations : List (Option Station)) (slots numbers : List ℕ) (xs : List Station) (port u : ℕ) → IsTied stations slots numbers xs → 1 ≤ port → port ≤ 16 → ((k : ℕ) → 256 * (port - 1) ≤ k → k < 256 * (port - 1) + 256 → has (is_live u) (in_slot stations k) ≡ true) → 256 ≤ stations_at port (live_at u xs)
full_of stations slots numbers xs port u tied low high live =
    let least : 256 ≤ count_by (has (λ x. is_at port x && is_live u x)) stations =
    count_least (has (λ x. is_at port x && is_live u x)) stations None (256 * (port - 1)) 256 (omega (arith, tied.size, low, high))
    (λ k from to. here k (in_slot stations k) refl from to (live k from to)) in
    omega (arith, least, tied.counted (λ x. is_at port x && is_live u x), count_by-filter (is_at port) (is_live u) xs)
  where
    here : (k : ℕ) (o : Option Station) → in_slot stations k ≡ o → 256 * (port - 1) ≤ k → k < 256 * (port - 1) + 256 → has (is_live u) o ≡ true → has (λ x. is_at port x && is_live u x) o ≡ true
    here k None is from to lives = absurd (false≢true lives)
    here k (Some y) is from to lives =
        let own : IsOwn k y = tied.own k y is in
        let same : number_of y.port ≡ port = omega (arith, own.place.0, own.place.1, from, to, low, y.port.low) in
        simp (eq-eqb (number_of y.port) port same, lives) refl

-- no slot has a station of a kind that the list doesn't have
pub no_slot : (stations : List (Option Station)) (slots numbers : List ℕ) (xs : List Station) (p : Station → Bool) → IsTied stations slots numbers xs → All (λ x. p x ≡ false) xs → (slot : ℕ) (y : Station) → in_slot stations slot ≡ Some y → p y ≡ false
no_slot stations slots numbers xs p tied none slot y is =
    let all : count_by (has p) stations ≡ 0 = tied.counted p ∙ count_none p xs none in
    let here : has p (in_slot stations slot) ≡ false = none_counted (has p) stations all slot None (slot_within stations slot y is) in
    sym (ap (has p) is) ∙ here

-- the station of a slot stands in the list
pub slot_counted : (stations : List (Option Station)) (slots numbers : List ℕ) (xs : List Station) (p : Station → Bool) (slot : ℕ) (y : Station) → IsTied stations slots numbers xs → in_slot stations slot ≡ Some y → p y ≡ true → 1 ≤ count_by p xs
slot_counted stations slots numbers xs p slot y tied is kind =
    let here : has p (in_slot stations slot) ≡ true = ap (has p) is ∙ kind in
    let least : 1 ≤ count_by (has p) stations = count_least (has p) stations None slot 1 (omega (arith, slot_within stations slot y is)) (λ k from to. let same : k ≡ slot = omega (arith, from, to) in rw same here) in
    omega (arith, least, tied.counted p)

pub LivesUntil-earlier : (a b : ℕ) (o : Option Station) → b ≤ a → LivesUntil a o → LivesUntil b o
LivesUntil-earlier a b None earlier lives = lives
LivesUntil-earlier a b (Some y) earlier lives = omega (arith, earlier, lives)

pub live_before : (end u : ℕ) (o : Option Station) → u < end → LivesUntil end o → has (is_live u) o ≡ true
live_before end u None before lives = absurd lives
live_before end u (Some y) before lives = lt-ltb u (station_end y) (omega (arith, before, lives))

-- where one with the MAC address has ended, the same are live without it
pub ended_one : (t n : ℕ) (xs : List Station) → IsRising station_number xs → 1 ≤ count_by (λ x. is_of n x && not (is_live t x)) xs → live_at t (without n xs) ≡ live_at t xs
ended_one t n xs rising some =
    let (i, within, there) = counted_one (λ x. is_of n x && not (is_live t x)) xs some in
    live_without_ended t n xs i rising within
    (λ d. (and_parts (is_of n (get_or xs i d)) (not (is_live t (get_or xs i d))) (there d)).0)
    (λ d. ends (is_live t (get_or xs i d)) (and_parts (is_of n (get_or xs i d)) (not (is_live t (get_or xs i d))) (there d)).1)
  where
    ends : (b : Bool) → not b ≡ true → b ≡ false
    ends b isnt_one =
        elim (cases_Bool b) [
          | inl is ↦ absurd (false≢true (sym (ap not is) ∙ isnt_one))
          | inr isnt ↦ isnt
        ]

-- none of a kind is counted where none is
pub any_counted : {X : Type 0} (q : X → Bool) (xs : List X) → list_any q xs ≡ false → count_by q xs ≡ 0
any_counted q [] none = refl
any_counted q (x ∷ xs) none =
    let one : count_by q (x ∷ xs) ≡ cond (q x) 1 0 + count_by q xs = count_by-cons q x xs in
    elim (cases_Bool (q x)) [
      | inl is ↦ let both : true ≡ false = rw is at none in cc
      | inr isnt ↦
          let rest : list_any q xs ≡ false = rw isnt at none in
          let same : count_by q (x ∷ xs) ≡ 0 + count_by q xs = one ∙ rw isnt refl in
          omega (arith, same, any_counted q xs rest)
    ]

-- where there was room for a station that was unknown there were fewer
pub fewer_before : (s : Station) (xs : List Station) → is_known s xs ≡ false → stations_at (number_of s.port) (with_station s xs) ≤ 256 → stations_at (number_of s.port) xs < 256
fewer_before s xs unknown room =
    let p : Station → Bool = is_at (number_of s.port) in
    let q : Station → Bool = is_of (mac_number s.mac) in
    let none : count_by p (filter q xs) ≡ 0 = count_by-filter p q xs ∙ any_counted (λ x. p x && q x) xs unknown in
    let here : ◌≡◌ {A = ℕ} (cond (p s) 1 0) 1 = rw (eq-eqb (number_of s.port) (number_of s.port) refl) refl in
    omega (arith, room, none, here, count_with p s xs)

-- what holds of the station of a slot holds of the one that stands in the list
pub slot_stands : (stations : List (Option Station)) (slots numbers : List ℕ) (xs : List Station) (r : Station → Bool) (slot i : ℕ) (y d : Station) → IsTied stations slots numbers xs → IsRising station_number xs → StandsAt (mac_number y.mac) xs i → in_slot stations slot ≡ Some y → r y ≡ true → r (get_or xs i d) ≡ true
slot_stands stations slots numbers xs r slot i y d tied rising at is kind =
    let number : ℕ = mac_number y.mac in
    let x : Station = get_or xs i d in
    let both : (r y && is_of number y) ≡ true = simp (kind, eq-eqb number number refl) refl in
    let some : 1 ≤ count_by (λ z. r z && is_of number z) xs = slot_counted stations slots numbers xs (λ z. r z && is_of number z) slot y tied is both in
    let one : count_by r (filter (is_of number) xs) ≡ cond (r x) 1 0 = of_count r number xs i x rising at (get_or_within xs i d x at.bound) in
    elim (cases_Bool (r x)) [
      | inl holds ↦ holds
      | inr fails ↦ let none : count_by r (filter (is_of number) xs) ≡ 0 = one ∙ rw fails refl in absurd (omega (arith, some, none, count_by-filter r (is_of number) xs))
    ]
