-- What is told of full ports, when the list of stations changes.
use Rattle.std.proofs.Common.{◌≡◌, ◌≢◌, ◌⊎◌, ℕ, ◌+◌, ◌-◌, ◌≤◌, ◌<◌, ◌==◌, Bool, true, false, ◌&&◌, cond, List, filter, count_by, All, refl, sym, ◌∙◌, ap, subst, arith, inl, inr, slice_index, get_or}
use Rattle.std.proofs.lemmas.Bool.{cases_Bool, cases_eq, lt-ltb, eqb-true, eq-eqb, ne_eqb}
use Rattle.savi_kinds.specs.Ports.{number_of}
use Rattle.savi_kinds.specs.declared.port.Port.{Port}
use Rattle.bridge_fdb.specs.declared.station.Station.{Station}
use Rattle.bridge_fdb.specs.declared.full.Full.{Full}
use Rattle.bridge_fdb.specs.Stations.{mac_number, is_live, live_at, is_of, is_at, stations_at, station_number}
use Rattle.bridge_fdb.specs.Learning.{with_station}
use Rattle.savi_kinds.specs.Orders.{IsRising}
use Rattle.bridge_fdb.specs.Places.{StandsAt}
use Rattle.bridge_fdb.specs.Kept.{without}
use Rattle.bridge_fdb.specs.Full.{TellsFull}
use Rattle.savi_kinds.proofs.Filters.{filter-none}
use Rattle.bridge_fdb.proofs.Parts.{count_with, of_count}
use Rattle.bridge_fdb.proofs.Without.{count_without}
use Rattle.bridge_fdb.proofs.Counting.{count_by-filter}

-- whether a station is live at a port
abbrev lives_at : ℕ → ℕ → Station → Bool
lives_at port t station = is_at port station && is_live t station

-- one is put in whose MAC address none has
pub Tells-with : (full : Full) (s : Station) (xs : List Station) → TellsFull full xs → All (λ x. is_of (mac_number s.mac) x ≡ false) xs → TellsFull full (with_station s xs)
Tells-with full s xs tells new k t below before =
    let p : Station → Bool = lives_at (k + 1) t in
    let none : count_by p (filter (is_of (mac_number s.mac)) xs) ≡ 0 = ap (count_by p) (filter-none (is_of (mac_number s.mac)) xs new) in
    omega (arith, tells k t below before, count_by-filter (is_at (k + 1)) (is_live t) xs, count_by-filter (is_at (k + 1)) (is_live t) (with_station s xs), count_with p s xs, none)

-- one is given up, whose port is told of no longer
pub Tells-without : (old new : Full) (n : ℕ) (xs : List Station) (i : ℕ) (x : Station) → TellsFull old xs → IsRising station_number xs → StandsAt n xs i → x ≡ get_or xs i x → ((k : ℕ) → k < 16 → slice_index new.until k ≡ cond (number_of x.port == k + 1) 0 (slice_index old.until k)) → TellsFull new (without n xs)
Tells-without old new n xs i x tells rising at is set k t below before =
    elim (cases_Bool (number_of x.port == k + 1)) [
      | inl here ↦ let none : slice_index new.until k ≡ 0 = set k below ∙ rw here refl in absurd (omega (arith, before, none))
      | inr other ↦
          let p : Station → Bool = lives_at (k + 1) t in
          let same : slice_index new.until k ≡ slice_index old.until k = set k below ∙ rw other refl in
          let one : count_by p (filter (is_of n) xs) ≡ 0 = of_count p n xs i x rising at is ∙ rw other refl in
          omega (arith, tells k t below (omega (arith, before, same)), count_by-filter (is_at (k + 1)) (is_live t) xs, count_by-filter (is_at (k + 1)) (is_live t) (without n xs), count_without p n xs, one)
    ]

-- a port's 256 were found live until some moment
pub Tells-set : (old new : Full) (p : Port) (end : ℕ) (xs : List Station) → TellsFull old xs → ((u : ℕ) → u < end → 256 ≤ stations_at (number_of p) (live_at u xs)) → ((k : ℕ) → k < 16 → slice_index new.until k ≡ cond (number_of p == k + 1) end (slice_index old.until k)) → TellsFull new xs
Tells-set old new p end xs tells live set k t below before =
    elim (cases_Bool (number_of p == k + 1)) [
      | inl here ↦
          let same : number_of p ≡ k + 1 = eqb-true (number_of p) (k + 1) here in
          let moment : slice_index new.until k ≡ end = set k below ∙ rw here refl in
          subst (λ m. 256 ≤ stations_at m (live_at t xs)) same (live t (omega (arith, before, moment)))
      | inr other ↦
          let same : slice_index new.until k ≡ slice_index old.until k = set k below ∙ rw other refl in
          tells k t below (omega (arith, before, same))
    ]

-- one is seen again at its port
pub Tells-renewed : (old new : Full) (s : Station) (xs : List Station) (i : ℕ) (x : Station) → TellsFull old xs → IsRising station_number xs → StandsAt (mac_number s.mac) xs i → x ≡ get_or xs i x → number_of x.port ≡ number_of s.port → ((k : ℕ) → k < 16 → slice_index new.until k ≤ slice_index old.until k) → slice_index new.until (number_of s.port - 1) ≤ s.last + 300000 → TellsFull new (with_station s xs)
Tells-renewed old new s xs i x tells rising at is port lower own k t below before =
    let p : Station → Bool = lives_at (k + 1) t in
    let moment : t < slice_index old.until k = omega (arith, before, lower k below) in
    let one : count_by p (filter (is_of (mac_number s.mac)) xs) ≡ cond (p x) 1 0 = of_count p (mac_number s.mac) xs i x rising at is in
    let no_fewer : cond (p x) 1 0 ≤ cond (p s) 1 0 = lives (cases_eq (number_of s.port) (k + 1)) in
    omega (arith, tells k t below moment, count_by-filter (is_at (k + 1)) (is_live t) xs, count_by-filter (is_at (k + 1)) (is_live t) (with_station s xs), count_with p s xs, one, no_fewer)
  where
    least : (b : Bool) → cond b 1 0 ≤ 1
    least true = omega arith
    least false = omega arith

    lives : (number_of s.port ≡ k + 1) ⊎ (number_of s.port ≢ k + 1) → cond (lives_at (k + 1) t x) 1 0 ≤ cond (lives_at (k + 1) t s) 1 0
    lives (inl here) =
        let place : number_of s.port - 1 ≡ k = omega (arith, here) in
        let limit : slice_index new.until k ≤ s.last + 300000 = subst (λ j. slice_index new.until j ≤ s.last + 300000) place own in
        let live : lives_at (k + 1) t s ≡ true = simp (eq-eqb (number_of s.port) (k + 1) here, lt-ltb t (s.last + 300000) (omega (arith, before, limit))) refl in
        rw live (least (lives_at (k + 1) t x))
    lives (inr other) =
        let elsewhere : is_at (k + 1) x ≡ false = ne_eqb (number_of x.port) (k + 1) (λ same. other (sym port ∙ same)) in
        rw elsewhere (omega arith)
