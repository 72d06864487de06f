-- How many stations there are.
use Rattle.std.proofs.Common.{◌≡◌, ℕ, ◌+◌, ◌^◌, ◌≤◌, ◌<◌, Bool, true, false, ◌&&◌, cond, List, [], ◌∷◌, ◌++◌, length, filter, count_by, All, refl, ◌∙◌, subst, arith, inl, inr, length-append}
use Rattle.std.specs.List.{list_any}
use Rattle.std.proofs.lemmas.Bool.{cases_Bool, cond_both, and_parts, or_cases, false≢true, ltb-true, eqb-true, leb-true, le-leb, lt-leb, leb-false}
use Rattle.std.proofs.lemmas.List.Elements.{All-append, All-cons, All-filter, All-weaker, filter_passes}
use Rattle.std.proofs.lemmas.List.Kept.{AllPairs-cons, AllPairs-filter}
use Rattle.savi_kinds.specs.Ports.{number_of}
use Rattle.bridge_fdb.specs.declared.station.Station.{Station}
use Rattle.savi_kinds.specs.Orders.{is_below, is_above, IsRising}
use Rattle.bridge_fdb.specs.Stations.{station_number, mac_number, is_of, is_at, stations_at}
use Rattle.bridge_fdb.specs.Learning.{is_known, is_full, with_station, learned}
use Rattle.bridge_fdb.specs.Limits.{IsWithinLimits}
use Rattle.savi_kinds.proofs.Filters.{count_by-cons, count_by-push, count_by-filter-le}
use Rattle.savi_kinds.proofs.Pairs.{AllPairs-append}
use Rattle.savi_kinds.proofs.PortCounts.{length-by_port}
use Rattle.bridge_fdb.proofs.Parts.{count_with}

pub IsWithinLimits-filter : (p : Station → Bool) (xs : List Station) → IsWithinLimits xs → IsWithinLimits (filter p xs)
IsWithinLimits-filter p xs within = record {
  rising = AllPairs-filter (λ earlier later. mac_number earlier.mac < mac_number later.mac) p xs within.rising;
  room = λ port. omega (arith, within.room port, count_by-filter-le (is_at port) p xs);
  in_time = All-filter p (λ station. station.last ≤ 2 ^ 62) xs within.in_time;
}

pub IsRising-with : (s : Station) (xs : List Station) → IsRising station_number xs → IsRising station_number (with_station s xs)
IsRising-with s xs rising =
    let n : ℕ = mac_number s.mac in
    let R : Station → Station → Type 0 = λ earlier later. mac_number earlier.mac < mac_number later.mac in
    let front : List Station = filter (is_below station_number n) xs in
    let back : List Station = filter (is_above station_number n) xs in
    let lower : All (λ y. mac_number y.mac < n) front = All-weaker (λ y. is_below station_number n y ≡ true) (λ y. mac_number y.mac < n) (λ y h. ltb-true (mac_number y.mac) n h) front (filter_passes (is_below station_number n) xs) in
    let higher : All (R s) back = All-weaker (λ y. is_above station_number n y ≡ true) (R s) (λ y h. ltb-true n (mac_number y.mac) h) back (filter_passes (is_above station_number n) xs) in
    AllPairs-append R front (s ∷ back) (AllPairs-filter R (is_below station_number n) xs rising)
    (AllPairs-cons R s back higher (AllPairs-filter R (is_above station_number n) xs rising))
    (All-weaker (λ y. mac_number y.mac < n) (λ y. All (R y) (s ∷ back)) (λ y low. All-cons (R y) s back low (All-weaker (R s) (R y) (λ z high. omega (arith, low, high)) back higher)) front lower)

pub IsWithinLimits-with : (s : Station) (xs : List Station) → IsWithinLimits xs → s.last ≤ 2 ^ 62 → ((port : ℕ) → stations_at port (with_station s xs) ≤ 256) → IsWithinLimits (with_station s xs)
IsWithinLimits-with s xs within moment room =
    let n : ℕ = mac_number s.mac in
    record {
      rising = IsRising-with s xs within.rising;
      room = room;
      in_time =
          All-append (λ station. station.last ≤ 2 ^ 62) (filter (is_below station_number n) xs) (s ∷ filter (is_above station_number n) xs) (All-filter (is_below station_number n) (λ station. station.last ≤ 2 ^ 62) xs within.in_time)
          (All-cons (λ station. station.last ≤ 2 ^ 62) s (filter (is_above station_number n) xs) moment (All-filter (is_above station_number n) (λ station. station.last ≤ 2 ^ 62) xs within.in_time));
    }

-- one that is known is counted
pub known-counted : (p q : Station → Bool) (xs : List Station) → list_any (λ x. p x && q x) xs ≡ true → 1 ≤ count_by p (filter q xs)
known-counted p q [] some = absurd (false≢true some)
known-counted p q (x ∷ xs) some =
    elim (or_cases (p x && q x) (list_any (λ y. p y && q y) xs) some) [
      | inl here ↦
          let is : (p x ≡ true) × (q x ≡ true) = and_parts (p x) (q x) here in
          let one : count_by p (x ∷ filter q xs) ≡ 1 + count_by p (filter q xs) = count_by-cons p x (filter q xs) ∙ rw is.0 refl in
          rw is.1 (omega (arith, one))
      | inr later ↦
          let less : 1 ≤ count_by p (filter q xs) = known-counted p q xs later in
          let one : count_by p (x ∷ filter q xs) ≡ cond (p x) 1 0 + count_by p (filter q xs) = count_by-cons p x (filter q xs) in
          cond_both (q x) (x ∷ filter q xs) (filter q xs) (λ ys. 1 ≤ count_by p ys) (λ _. omega (arith, less, one)) (λ _. less)
    ]

-- there is room for a station where its port has fewer than 256, or has the station
pub room-with : (s : Station) (xs : List Station) → IsWithinLimits xs → stations_at (number_of s.port) xs < 256 + stations_at (number_of s.port) (filter (is_of (mac_number s.mac)) xs) → (port : ℕ) → stations_at port (with_station s xs) ≤ 256
room-with s xs within room port =
    let all : stations_at port (with_station s xs) + stations_at port (filter (is_of (mac_number s.mac)) xs) ≡ stations_at port xs + cond (is_at port s) 1 0 = count_with (is_at port) s xs in
    elim (cases_Bool (is_at port s)) [
      | inl here ↦
          let same : number_of s.port ≡ port = eqb-true (number_of s.port) port here in
          let fits : stations_at port xs < 256 + stations_at port (filter (is_of (mac_number s.mac)) xs) = subst (λ k. stations_at k xs < 256 + stations_at k (filter (is_of (mac_number s.mac)) xs)) same room in
          let sum : stations_at port (with_station s xs) + stations_at port (filter (is_of (mac_number s.mac)) xs) ≡ stations_at port xs + 1 = all ∙ rw here refl in
          omega (arith, sum, fits)
      | inr other ↦
          let sum : stations_at port (with_station s xs) + stations_at port (filter (is_of (mac_number s.mac)) xs) ≡ stations_at port xs + 0 = all ∙ rw other refl in
          omega (arith, sum, within.room port)
    ]

pub learned-known : (s : Station) (xs : List Station) → is_known s xs ≡ true → learned s xs ≡ with_station s xs
learned-known s xs known =
    elim (cases_Bool (is_full s xs)) [
      | inl full ↦ simp (full, known) refl
      | inr room ↦ simp (room) refl
    ]

pub learned-room : (s : Station) (xs : List Station) → stations_at (number_of s.port) xs < 256 → learned s xs ≡ with_station s xs
learned-room s xs room = rw (lt-leb 256 (stations_at (number_of s.port) xs) room) refl

pub learned-full : (s : Station) (xs : List Station) → 256 ≤ stations_at (number_of s.port) xs → is_known s xs ≡ false → learned s xs ≡ xs
learned-full s xs full new = rw (le-leb 256 (stations_at (number_of s.port) xs) full, new) refl

pub IsWithinLimits-learned : (s : Station) (xs : List Station) → s.last ≤ 2 ^ 62 → IsWithinLimits xs → IsWithinLimits (learned s xs)
IsWithinLimits-learned s xs moment within =
    elim (cases_Bool (is_known s xs)) [
      | inl known ↦
          let one : 1 ≤ stations_at (number_of s.port) (filter (is_of (mac_number s.mac)) xs) = known-counted (is_at (number_of s.port)) (is_of (mac_number s.mac)) xs known in
          rw (learned-known s xs known) (IsWithinLimits-with s xs within moment (room-with s xs within (omega (arith, one, within.room (number_of s.port)))))
      | inr new ↦
          elim (cases_Bool (is_full s xs)) [
            | inl full ↦ rw (learned-full s xs (leb-true 256 (stations_at (number_of s.port) xs) full) new) within
            | inr not_full ↦
                let room : stations_at (number_of s.port) xs < 256 = leb-false 256 (stations_at (number_of s.port) xs) not_full in
                rw (learned-room s xs room) (IsWithinLimits-with s xs within moment (room-with s xs within (omega (arith, room))))
          ]
    ]

-- 256 stations for each of 16 ports are 4096
pub length-le : (stations : List Station) → ((port : ℕ) → stations_at port stations ≤ 256) → length stations ≤ 4096
length-le stations room = length-by_port (λ station. station.port) 256 stations room

-- there are fewer where a port has fewer
pub length-lt : (s : Station) (xs : List Station) → IsWithinLimits xs → stations_at (number_of s.port) xs < 256 → length xs < 4096
length-lt s xs within room = omega (arith, length-le (xs ++ s ∷ []) more, length-append xs (s ∷ []))
  where
    more : (port : ℕ) → stations_at port (xs ++ s ∷ []) ≤ 256
    more port =
        let all : stations_at port (xs ++ s ∷ []) ≡ stations_at port xs + cond (is_at port s) 1 0 = count_by-push (is_at port) xs s in
        elim (cases_Bool (is_at port s)) [
          | inl here ↦
              let fits : stations_at port xs < 256 = subst (λ k. stations_at k xs < 256) (eqb-true (number_of s.port) port here) room in
              let sum : stations_at port (xs ++ s ∷ []) ≡ stations_at port xs + 1 = all ∙ rw here refl in
              omega (arith, sum, fits)
          | inr other ↦
              let sum : stations_at port (xs ++ s ∷ []) ≡ stations_at port xs + 0 = all ∙ rw other refl in
              omega (arith, sum, within.room port)
        ]
