-- Stations in slots, and the list of them in order of MAC address.
use Rattle.std.proofs.Common.{◌≡◌, ◌≢◌, ℕ, ◌+◌, ◌-◌, ◌^◌, ◌≤◌, ◌<◌, nat_lt, zero, suc, Bool, cond, List, [], ◌∷◌, ◌++◌, map, length, get_or, take, drop, count_by, Option, Some, None, All, refl, sym, ◌∙◌, ap, subst, arith, inl, inr, append_assoc, length-set, length-take, length-drop, get_or-take, get_or-drop}
use Rattle.std.specs.List.{filter_map}
use Rattle.std.proofs.Math.ListN.{set}
use Rattle.std.proofs.lemmas.Bool.{cases_Bool, cases_eq, ltb-true, ltb-false}
use Rattle.std.proofs.lemmas.List.{map-append, take-map, drop-map, take-append-drop, length-map, get_or-map, get_or-set_same, get_or-set_other, get_or_past, set-get_or, map-set}
use Rattle.std.proofs.lemmas.Grind.{get_or_default_zero}
use Rattle.std.proofs.lemmas.List.Elements.{All-head, All-tail, All-take, All-drop, All-from_get_or}
use Rattle.std.proofs.lemmas.List.Sums.{sum_by-set, sum_by-append}
use Rattle.savi_kinds.specs.Ports.{number_of}
use Rattle.bridge_fdb.specs.declared.station.Station.{Station}
use Rattle.bridge_fdb.specs.Stations.{mac_number, station_number}
use Rattle.savi_kinds.specs.Orders.{IsRising}
use Rattle.bridge_fdb.specs.Places.{StandsAt}
use Rattle.bridge_fdb.specs.Kept.{IsTied, IsOwn, in_slot, has, mac_numbers}
use Rattle.savi_kinds.proofs.Lists.{split_at}
use Rattle.savi_kinds.proofs.Filters.{count_by-cons}

-- the list is what the slots tell
pub listed_is : (f : ℕ → Option Station) (slots : List ℕ) (xs : List Station) → map f slots ≡ map Some xs → filter_map f slots ≡ xs
listed_is f [] [] told = refl
listed_is f [] (x ∷ xs) told = absurd (let none : 0 ≡ suc (length (map Some xs)) = ap length told in omega (arith, none))
listed_is f (slot ∷ slots) [] told = absurd (let none : suc (length (map f slots)) ≡ 0 = ap length told in omega (arith, none))
listed_is f (slot ∷ slots) (x ∷ xs) told =
    let first : f slot ≡ Some x = ap (λ os. get_or os 0 None) told in
    let rest : map f slots ≡ map Some xs = ap (drop 1) told in
    rw first (ap (λ ys. x ∷ ys) (listed_is f slots xs rest))

-- a change of a slot is not seen in others
pub map_other : (stations : List (Option Station)) (slot : ℕ) (o : Option Station) (slots : List ℕ) → All (λ j. j ≢ slot) slots → map (in_slot (set stations slot o)) slots ≡ map (in_slot stations) slots
map_other stations slot o [] others = refl
map_other stations slot o (j ∷ slots) others =
    let ne : j ≢ slot = All-head (λ k. k ≢ slot) j slots others in
    rw (get_or-set_other stations slot j o None ne, map_other stations slot o slots (All-tail (λ k. k ≢ slot) j slots others)) refl

-- the slot of a station of the list
pub slot_tells : (stations : List (Option Station)) (slots numbers : List ℕ) (xs : List Station) → IsTied stations slots numbers xs → (i : ℕ) (d : Station) → i < length xs → in_slot stations (get_or slots i 0) ≡ Some (get_or xs i d)
slot_tells stations slots numbers xs tied i d within =
    let same_length : length slots ≡ length xs = sym (length-map slots (in_slot stations)) ∙ ap length tied.told ∙ length-map xs Some in
    sym (get_or-map (in_slot stations) slots i 0 None (omega (arith, within, same_length))) ∙ ap (λ os. get_or os i None) tied.told ∙ get_or-map Some xs i d None within

pub slots_length : (stations : List (Option Station)) (slots numbers : List ℕ) (xs : List Station) → IsTied stations slots numbers xs → length slots ≡ length xs
slots_length stations slots numbers xs tied = sym (length-map slots (in_slot stations)) ∙ ap length tied.told ∙ length-map xs Some

-- a slot that has a station is one of the 4096
pub slot_within : (stations : List (Option Station)) (slot : ℕ) (x : Station) → in_slot stations slot ≡ Some x → slot < length stations
slot_within stations slot x is =
    elim (cases_Bool (nat_lt slot (length stations))) [
      | inl below ↦ ltb-true slot (length stations) below
      | inr past ↦
          let none : None ≡ Some x = sym (get_or_past stations slot None (ltb-false slot (length stations) past)) ∙ is in
          cc
    ]

abbrev number_in : Option Station → ℕ
number_in None = 0
number_in (Some x) = mac_number x.mac

-- no two stations of the list are in one slot
pub distinct : (stations : List (Option Station)) (slots numbers : List ℕ) (xs : List Station) (d : Station) → IsTied stations slots numbers xs → IsRising station_number xs → (i j : ℕ) → i < length xs → j < length xs → i ≢ j → get_or slots j 0 ≢ get_or slots i 0
distinct stations slots numbers xs d tied rising i j at other ne = λ same.
    let one : mac_number (get_or xs j d).mac ≡ mac_number (get_or xs i d).mac =
    ap number_in (sym (slot_tells stations slots numbers xs tied j d other) ∙ ap (in_slot stations) same ∙ slot_tells stations slots numbers xs tied i d at) in
    elim (cases_Bool (nat_lt i j)) [
      | inl before ↦ let less : mac_number (get_or xs i d).mac < mac_number (get_or xs j d).mac = rising i j d (ltb-true i j before) other in omega (arith, less, one)
      | inr after ↦
          let least : j ≤ i = ltb-false i j after in
          let less : mac_number (get_or xs j d).mac < mac_number (get_or xs i d).mac = rising j i d (omega (arith, least, ne)) at in
          omega (arith, less, one)
    ]

pub front_distinct : (stations : List (Option Station)) (slots numbers : List ℕ) (xs : List Station) (d : Station) → IsTied stations slots numbers xs → IsRising station_number xs → (i : ℕ) → i < length xs → All (λ j. j ≢ get_or slots i 0) (take i slots)
front_distinct stations slots numbers xs d tied rising i within =
    All-from_get_or (λ j. j ≢ get_or slots i 0) (take i slots) 0
    (λ k below.
    let before : k < i = omega (arith, below, length-take i slots) in
    subst (λ j. j ≢ get_or slots i 0) (sym (get_or-take i slots k 0 before)) (distinct stations slots numbers xs d tied rising i k within (omega (arith, before, within)) (omega (arith, before))))

pub back_distinct : (stations : List (Option Station)) (slots numbers : List ℕ) (xs : List Station) (d : Station) → IsTied stations slots numbers xs → IsRising station_number xs → (i : ℕ) → i < length xs → All (λ j. j ≢ get_or slots i 0) (drop (suc i) slots)
back_distinct stations slots numbers xs d tied rising i within =
    let long : length slots ≡ length xs = slots_length stations slots numbers xs tied in
    All-from_get_or (λ j. j ≢ get_or slots i 0) (drop (suc i) slots) 0
    (λ k below.
    let inside : suc i + k < length xs = omega (arith, below, long, length-drop (suc i) slots) in
    subst (λ j. j ≢ get_or slots i 0) (sym (get_or-drop (suc i) slots k 0)) (distinct stations slots numbers xs d tied rising i (suc i + k) within inside (omega (arith))))

-- a list in parts around a place
pub set_split : {X : Type 0} (xs : List X) (i : ℕ) (y : X) → i < length xs → set xs i y ≡ take i xs ++ y ∷ drop (suc i) xs
set_split [] i y within = absurd (omega (arith, within))
set_split (x ∷ xs) zero y within = refl
set_split (x ∷ xs) (suc i) y within = ap (λ ys. x ∷ ys) (set_split xs i y (omega (arith, within)))

abbrev pub station_in : Station → Option Station → Station
station_in d None = d
station_in d (Some x) = x

-- a slot's station is changed
pub own_set : (stations : List (Option Station)) (slot : ℕ) (x : Station) → slot < length stations → IsOwn slot x → ((k : ℕ) (y : Station) → in_slot stations k ≡ Some y → IsOwn k y) → (k : ℕ) (y : Station) → in_slot (set stations slot (Some x)) k ≡ Some y → IsOwn k y
own_set stations slot x within here own k y is =
    elim (cases_eq k slot) [
      | inl same ↦
          let told : Some x ≡ Some y = sym (get_or-set_same stations slot (Some x) None within) ∙ ap (in_slot (set stations slot (Some x))) (sym same) ∙ is in
          let one : x ≡ y = ap (station_in x) told in
          subst (λ j. IsOwn j y) (sym same) (subst (IsOwn slot) one here)
      | inr other ↦ own k y (sym (get_or-set_other stations slot k (Some x) None other) ∙ is)
    ]

-- what an emptied slot leaves
pub emptied : (stations : List (Option Station)) (slot k : ℕ) (y : Station) → in_slot (set stations slot None) k ≡ Some y → in_slot stations k ≡ Some y
emptied stations slot k y is =
    elim (cases_eq k slot) [
      | inl same ↦
          elim (cases_Bool (nat_lt slot (length stations))) [
            | inl below ↦
                let none : None ≡ Some y = sym (get_or-set_same stations slot None None (ltb-true slot (length stations) below)) ∙ ap (in_slot (set stations slot None)) (sym same) ∙ is in
                cc
            | inr past ↦
                let none : None ≡ Some y = sym (get_or_past (set stations slot None) slot None (omega (arith, length-set stations slot None, ltb-false slot (length stations) past))) ∙ ap (in_slot (set stations slot None)) (sym same) ∙ is in
                cc
          ]
      | inr other ↦ sym (get_or-set_other stations slot k None None other) ∙ is
    ]

pub IsTied-renew : (stations : List (Option Station)) (slots numbers : List ℕ) (xs : List Station) (i : ℕ) (s : Station) → IsTied stations slots numbers xs → IsRising station_number xs → StandsAt (mac_number s.mac) xs i → number_of (get_or xs i s).port ≡ number_of s.port → mac_number (get_or xs i s).mac ≡ mac_number s.mac → s.last ≤ 2 ^ 62 → IsTied (set stations (get_or slots i 0) (Some s)) slots numbers (set xs i s)
IsTied-renew stations slots numbers xs i s tied rising at port number moment =
    let slot : ℕ = get_or slots i 0 in
    let there : in_slot stations slot ≡ Some (get_or xs i s) = slot_tells stations slots numbers xs tied i s at.bound in
    let within : slot < length stations = slot_within stations slot (get_or xs i s) there in
    let long : length slots ≡ length xs = slots_length stations slots numbers xs tied in
    let new : List (Option Station) = set stations slot (Some s) in
    let parts : slots ≡ take i slots ++ slot ∷ drop (suc i) slots = split_at slots i 0 (omega (arith, at.bound, long)) in
    let old : IsOwn slot (get_or xs i s) = tied.own slot (get_or xs i s) there in
    record {
      told =
          ap (map (in_slot new)) parts ∙ map-append (in_slot new) (take i slots) (slot ∷ drop (suc i) slots)
          ∙ rw (map_other stations slot (Some s) (take i slots) (front_distinct stations slots numbers xs s tied rising i at.bound), map_other stations slot (Some s) (drop (suc i) slots) (back_distinct stations slots numbers xs s tied rising i at.bound), get_or-set_same stations slot (Some s) None within, sym (take-map (in_slot stations) i slots), sym (drop-map (in_slot stations) (suc i) slots), tied.told)
          (sym (set_split (map Some xs) i (Some s) (omega (arith, at.bound, length-map xs Some))) ∙ sym (map-set Some xs i s));
      matching =
          tied.matching ∙ sym (set-get_or (mac_numbers xs) i 0)
          ∙ rw (get_or-map (λ (x : Station). mac_number x.mac) xs i s 0 at.bound, number) (sym (map-set (λ (x : Station). mac_number x.mac) xs i s));
      own = own_set stations slot s within (record { place = rw (sym port) old.place; in_time = moment }) tied.own;
      counted = λ p. counted p slot there within;
      size = length-set stations slot (Some s) ∙ tied.size;
    }
  where
    counted : (p : Station → Bool) (slot : ℕ) → in_slot stations slot ≡ Some (get_or xs i s) → slot < length stations → count_by (has p) (set stations slot (Some s)) ≡ count_by p (set xs i s)
    counted p slot there within =
        let slots_sum : count_by (has p) (set stations slot (Some s)) + cond (has p (in_slot stations slot)) 1 0 ≡ count_by (has p) stations + cond (p s) 1 0 = sum_by-set (λ o. cond (has p o) 1 0) stations slot (Some s) None within in
        let list_sum : count_by p (set xs i s) + cond (p (get_or xs i s)) 1 0 ≡ count_by p xs + cond (p s) 1 0 = sum_by-set (λ x. cond (p x) 1 0) xs i s s at.bound in
        let sum : count_by (has p) (set stations slot (Some s)) + cond (p (get_or xs i s)) 1 0 ≡ count_by (has p) stations + cond (p s) 1 0 = rw there at slots_sum in
        omega (arith, sum, list_sum, tied.counted p)

pub IsTied-remove : (stations : List (Option Station)) (slots numbers : List ℕ) (xs : List Station) (i : ℕ) (d : Station) → IsTied stations slots numbers xs → IsRising station_number xs → i < length xs → IsTied (set stations (get_or slots i 0) None) (take i slots ++ drop (suc i) slots) (take i numbers ++ drop (suc i) numbers) (take i xs ++ drop (suc i) xs)
IsTied-remove stations slots numbers xs i d tied rising within =
    let slot : ℕ = get_or slots i 0 in
    let there : in_slot stations slot ≡ Some (get_or xs i d) = slot_tells stations slots numbers xs tied i d within in
    let inside : slot < length stations = slot_within stations slot (get_or xs i d) there in
    let new : List (Option Station) = set stations slot None in
    record {
      told =
          map-append (in_slot new) (take i slots) (drop (suc i) slots)
          ∙ rw (map_other stations slot None (take i slots) (front_distinct stations slots numbers xs d tied rising i within), map_other stations slot None (drop (suc i) slots) (back_distinct stations slots numbers xs d tied rising i within), sym (take-map (in_slot stations) i slots), sym (drop-map (in_slot stations) (suc i) slots), tied.told, take-map Some i xs, drop-map Some (suc i) xs)
          (sym (map-append Some (take i xs) (drop (suc i) xs)));
      matching = rw (tied.matching, take-map (λ (x : Station). mac_number x.mac) i xs, drop-map (λ (x : Station). mac_number x.mac) (suc i) xs) (sym (map-append (λ (x : Station). mac_number x.mac) (take i xs) (drop (suc i) xs)));
      own = λ k y is. tied.own k y (emptied stations slot k y is);
      counted = λ p. counted p slot there inside;
      size = length-set stations slot None ∙ tied.size;
    }
  where
    counted : (p : Station → Bool) (slot : ℕ) → in_slot stations slot ≡ Some (get_or xs i d) → slot < length stations → count_by (has p) (set stations slot None) ≡ count_by p (take i xs ++ drop (suc i) xs)
    counted p slot there inside =
        let slots_sum : count_by (has p) (set stations slot None) + cond (has p (in_slot stations slot)) 1 0 ≡ count_by (has p) stations + 0 = sum_by-set (λ o. cond (has p o) 1 0) stations slot None None inside in
        let sum : count_by (has p) (set stations slot None) + cond (p (get_or xs i d)) 1 0 ≡ count_by (has p) stations + 0 = rw there at slots_sum in
        let whole : count_by p xs ≡ count_by p (take i xs) + count_by p (get_or xs i d ∷ drop (suc i) xs) = ap (count_by p) (split_at xs i d within) ∙ sum_by-append (λ x. cond (p x) 1 0) (take i xs) (get_or xs i d ∷ drop (suc i) xs) in
        let one : count_by p (get_or xs i d ∷ drop (suc i) xs) ≡ cond (p (get_or xs i d)) 1 0 + count_by p (drop (suc i) xs) = count_by-cons p (get_or xs i d) (drop (suc i) xs) in
        let left : count_by p (take i xs ++ drop (suc i) xs) ≡ count_by p (take i xs) + count_by p (drop (suc i) xs) = sum_by-append (λ x. cond (p x) 1 0) (take i xs) (drop (suc i) xs) in
        omega (arith, sum, whole, one, left, tied.counted p)

-- an empty slot is none of those of the list
pub all_others : (stations : List (Option Station)) (slots numbers : List ℕ) (xs : List Station) (slot : ℕ) (d : Station) → IsTied stations slots numbers xs → in_slot stations slot ≡ None → All (λ j. j ≢ slot) slots
all_others stations slots numbers xs slot d tied empty =
    All-from_get_or (λ j. j ≢ slot) slots 0
    (λ k below same.
    let none : None ≡ Some (get_or xs k d) = sym empty ∙ ap (in_slot stations) (sym same) ∙ slot_tells stations slots numbers xs tied k d (omega (arith, below, slots_length stations slots numbers xs tied)) in
    cc)

pub IsTied-insert : (stations : List (Option Station)) (slots numbers : List ℕ) (xs : List Station) (i slot v : ℕ) (s : Station) → IsTied stations slots numbers xs → in_slot stations slot ≡ None → slot < 4096 → IsOwn slot s → v ≡ mac_number s.mac → IsTied (set stations slot (Some s)) (take i slots ++ slot ∷ drop i slots) (take i numbers ++ v ∷ drop i numbers) (take i xs ++ s ∷ drop i xs)
IsTied-insert stations slots numbers xs i slot v s tied empty below own same =
    let within : slot < length stations = omega (arith, below, tied.size) in
    let others : All (λ j. j ≢ slot) slots = all_others stations slots numbers xs slot s tied empty in
    let new : List (Option Station) = set stations slot (Some s) in
    record {
      told =
          map-append (in_slot new) (take i slots) (slot ∷ drop i slots)
          ∙ rw (map_other stations slot (Some s) (take i slots) (All-take (λ j. j ≢ slot) i slots others), map_other stations slot (Some s) (drop i slots) (All-drop (λ j. j ≢ slot) i slots others), get_or-set_same stations slot (Some s) None within, sym (take-map (in_slot stations) i slots), sym (drop-map (in_slot stations) i slots), tied.told, take-map Some i xs, drop-map Some i xs)
          (sym (map-append Some (take i xs) (s ∷ drop i xs)));
      matching = rw (same, tied.matching, take-map (λ (x : Station). mac_number x.mac) i xs, drop-map (λ (x : Station). mac_number x.mac) i xs) (sym (map-append (λ (x : Station). mac_number x.mac) (take i xs) (s ∷ drop i xs)));
      own = own_set stations slot s within own tied.own;
      counted = λ p. counted p within;
      size = length-set stations slot (Some s) ∙ tied.size;
    }
  where
    counted : (p : Station → Bool) → slot < length stations → count_by (has p) (set stations slot (Some s)) ≡ count_by p (take i xs ++ s ∷ drop i xs)
    counted p within =
        let slots_sum : count_by (has p) (set stations slot (Some s)) + cond (has p (in_slot stations slot)) 1 0 ≡ count_by (has p) stations + cond (p s) 1 0 = sum_by-set (λ o. cond (has p o) 1 0) stations slot (Some s) None within in
        let sum : count_by (has p) (set stations slot (Some s)) + 0 ≡ count_by (has p) stations + cond (p s) 1 0 = rw empty at slots_sum in
        let whole : count_by p xs ≡ count_by p (take i xs) + count_by p (drop i xs) = ap (count_by p) (sym (take-append-drop i xs)) ∙ sum_by-append (λ x. cond (p x) 1 0) (take i xs) (drop i xs) in
        let one : count_by p (s ∷ drop i xs) ≡ cond (p s) 1 0 + count_by p (drop i xs) = count_by-cons p s (drop i xs) in
        let all : count_by p (take i xs ++ s ∷ drop i xs) ≡ count_by p (take i xs) + count_by p (s ∷ drop i xs) = sum_by-append (λ x. cond (p x) 1 0) (take i xs) (s ∷ drop i xs) in
        omega (arith, sum, whole, one, all, tied.counted p)

pub get_or_within : {X : Type 0} (xs : List X) (i : ℕ) (d e : X) → i < length xs → get_or xs i d ≡ get_or xs i e
get_or_within [] i d e within = absurd (omega (arith, within))
get_or_within (x ∷ xs) zero d e within = refl
get_or_within (x ∷ xs) (suc i) d e within = get_or_within xs i d e (omega (arith, within))

-- what was read at a slot is what it has
pub slot_read : (stations : List (Option Station)) (slot : ℕ) (o : Option Station) → slot < length stations → o ≡ get_or stations slot o → in_slot stations slot ≡ o
slot_read stations slot o within is = get_or_within stations slot None o within ∙ sym is

pub slot_at : (stations : List (Option Station)) (slots numbers : List ℕ) (xs : List Station) (i v : ℕ) → IsTied stations slots numbers xs → i < length xs → v ≡ get_or slots i v → v ≡ get_or slots i 0
slot_at stations slots numbers xs i v tied within is = is ∙ get_or_default_zero slots i v (omega (arith, within, slots_length stations slots numbers xs tied))

pub slot_bound : (stations : List (Option Station)) (slots numbers : List ℕ) (xs : List Station) (i v : ℕ) → IsTied stations slots numbers xs → i < length xs → v ≡ get_or slots i v → v < length stations
slot_bound stations slots numbers xs i v tied within is = bound xs tied within
  where
    bound : (ys : List Station) → IsTied stations slots numbers ys → i < length ys → v < length stations
    bound [] tied' within' = absurd (omega (arith, within'))
    bound (y ∷ ys) tied' within' = rw (slot_at stations slots numbers (y ∷ ys) i v tied' within' is) (slot_within stations (get_or slots i 0) (get_or (y ∷ ys) i y) (slot_tells stations slots numbers (y ∷ ys) tied' i y within'))

-- no station is kept
pub IsTied-empty : (stations : List (Option Station)) → All (λ o. o ≡ None) stations → length stations ≡ 4096 → IsTied stations [] [] []
IsTied-empty stations none size = record {
  told = refl;
  matching = refl;
  own = λ slot y is. let no : None ≡ Some y = sym (none slot None (slot_within stations slot y is)) ∙ is in cc;
  counted = λ p. no_count p stations none;
  size = size;
}
  where
    no_count : (p : Station → Bool) (os : List (Option Station)) → All (λ o. o ≡ None) os → count_by (has p) os ≡ 0
    no_count p [] all = refl
    no_count p (o ∷ os) all =
        let one : count_by (has p) (o ∷ os) ≡ 0 + count_by (has p) os = count_by-cons (has p) o os ∙ rw (All-head (λ x. x ≡ None) o os all) refl in
        let rest : count_by (has p) os ≡ 0 = no_count p os (All-tail (λ x. x ≡ None) o os all) in
        omega (arith, one, rest)

-- a list in which one item was taken out and another one put in, as two moves of a part and a write make it
moved_down_first : {X : Type 0} (x : X) (xs : List X) (at : ℕ) (v : X) → at ≤ length xs → set (take at xs ++ drop at (x ∷ xs)) at v ≡ take at xs ++ v ∷ drop at xs
moved_down_first x xs zero v within = refl
moved_down_first x [] (suc at) v within = absurd (omega (arith, within))
moved_down_first x (y ∷ ys) (suc at) v within = ap (λ zs. y ∷ zs) (moved_down_first y ys at v (omega (arith, within)))

pub moved_down : {X : Type 0} (xs : List X) (gone at n m : ℕ) (v : X) → gone < at → at < length xs → n ≡ at - gone → m ≡ at → set (take gone xs ++ (take n (drop (suc gone) xs) ++ drop m xs)) at v ≡ take at (take gone xs ++ drop (suc gone) xs) ++ v ∷ drop at (take gone xs ++ drop (suc gone) xs)
moved_down [] gone at n m v before within long far = absurd (omega (arith, within))
moved_down (x ∷ xs) gone zero n m v before within long far = absurd (omega (arith, before))
moved_down (x ∷ xs) zero (suc at) n m v before within long far =
    let same : n ≡ suc at = omega (arith, long) in
    rw (same, far) (moved_down_first x xs (suc at) v (omega (arith, within)))
moved_down (x ∷ xs) (suc gone) (suc at) n zero v before within long far = absurd (omega (arith, far))
moved_down (x ∷ xs) (suc gone) (suc at) n (suc m) v before within long far = ap (λ zs. x ∷ zs) (moved_down xs gone at n m v (omega (arith, before)) (omega (arith, within)) (omega (arith, long)) (omega (arith, far)))

pub moved_up : {X : Type 0} (xs : List X) (gone at n m : ℕ) (v : X) → at ≤ gone → gone < length xs → n ≡ gone - at → m ≡ suc gone → set (take (suc at) xs ++ (take n (drop at xs) ++ drop m xs)) at v ≡ take at (take gone xs ++ drop (suc gone) xs) ++ v ∷ drop at (take gone xs ++ drop (suc gone) xs)
moved_up [] gone at n m v after within long far = absurd (omega (arith, within))
moved_up (x ∷ xs) gone zero n m v after within long far =
    let same : n ≡ gone = omega (arith, long) in
    rw (same, far) refl
moved_up (x ∷ xs) zero (suc at) n m v after within long far = absurd (omega (arith, after))
moved_up (x ∷ xs) (suc gone) (suc at) n zero v after within long far = absurd (omega (arith, far))
moved_up (x ∷ xs) (suc gone) (suc at) n (suc m) v after within long far = ap (λ zs. x ∷ zs) (moved_up xs gone at n m v (omega (arith, after)) (omega (arith, within)) (omega (arith, long)) (omega (arith, far)))

pub down : {X : Type 0} (xs ys : List X) (gone at from n m : ℕ) (v : X) → gone < at → at < length xs → from ≡ suc gone → n ≡ at - gone → m ≡ at → ys ≡ (take gone xs ++ take n (drop from xs)) ++ drop m xs → set ys at v ≡ take at (take gone xs ++ drop (suc gone) xs) ++ v ∷ drop at (take gone xs ++ drop (suc gone) xs)
down xs ys gone at from n m v before within from_is long far is =
    ap (λ zs. set zs at v) (is ∙ append_assoc (take gone xs) (take n (drop from xs)) (drop m xs) ∙ ap (λ k. take gone xs ++ (take n (drop k xs) ++ drop m xs)) from_is) ∙ moved_down xs gone at n m v before within long far

pub up : {X : Type 0} (xs ys : List X) (gone at to n m : ℕ) (v : X) → at ≤ gone → gone < length xs → to ≡ suc at → n ≡ gone - at → m ≡ suc gone → ys ≡ (take to xs ++ take n (drop at xs)) ++ drop m xs → set ys at v ≡ take at (take gone xs ++ drop (suc gone) xs) ++ v ∷ drop at (take gone xs ++ drop (suc gone) xs)
up xs ys gone at to n m v after within to_is long far is =
    ap (λ zs. set zs at v) (is ∙ append_assoc (take to xs) (take n (drop at xs)) (drop m xs) ∙ ap (λ k. take k xs ++ (take n (drop at xs) ++ drop m xs)) to_is) ∙ moved_up xs gone at n m v after within long far

set_twice : {X : Type 0} (xs : List X) (i : ℕ) (a b : X) → set (set xs i a) i b ≡ set xs i b
set_twice [] i a b = refl
set_twice (x ∷ xs) zero a b = refl
set_twice (x ∷ xs) (suc i) a b = ap (λ ys. x ∷ ys) (set_twice xs i a b)

-- one is taken out, and another one put into its slot
pub IsTied-exchange : (stations : List (Option Station)) (slots numbers : List ℕ) (xs : List Station) (gone at v : ℕ) (s : Station) → IsTied stations slots numbers xs → IsRising station_number xs → gone < length xs → number_of (get_or xs gone s).port ≡ number_of s.port → s.last ≤ 2 ^ 62 → v ≡ mac_number s.mac → IsTied (set stations (get_or slots gone 0) (Some s)) (take at (take gone slots ++ drop (suc gone) slots) ++ get_or slots gone 0 ∷ drop at (take gone slots ++ drop (suc gone) slots)) (take at (take gone numbers ++ drop (suc gone) numbers) ++ v ∷ drop at (take gone numbers ++ drop (suc gone) numbers)) (take at (take gone xs ++ drop (suc gone) xs) ++ s ∷ drop at (take gone xs ++ drop (suc gone) xs))
IsTied-exchange stations slots numbers xs gone at v s tied rising within port moment same =
    let slot : ℕ = get_or slots gone 0 in
    let there : in_slot stations slot ≡ Some (get_or xs gone s) = slot_tells stations slots numbers xs tied gone s within in
    let inside : slot < length stations = slot_within stations slot (get_or xs gone s) there in
    let old : IsOwn slot (get_or xs gone s) = tied.own slot (get_or xs gone s) there in
    let left : IsTied (set stations slot None) (take gone slots ++ drop (suc gone) slots) (take gone numbers ++ drop (suc gone) numbers) (take gone xs ++ drop (suc gone) xs) = IsTied-remove stations slots numbers xs gone s tied rising within in
    rw (← set_twice stations slot None (Some s))
    (IsTied-insert (set stations slot None) (take gone slots ++ drop (suc gone) slots) (take gone numbers ++ drop (suc gone) numbers) (take gone xs ++ drop (suc gone) xs) at slot v s left (get_or-set_same stations slot None None inside) (omega (arith, inside, tied.size)) (record { place = rw (sym port) old.place; in_time = moment }) same)
