-- The search among numbers in order, and what it says of stations whose MAC addresses they are.
use Rattle.std.proofs.Common.{◌≡◌, ◌≢◌, ℕ, ◌+◌, ◌≤◌, ◌<◌, List, [], ◌∷◌, length, get_or, sym, ◌∙◌, ap, arith}
use Rattle.std.specs.List.{AllWithin}
use Rattle.std.specs.List.Sorted.{IsNonDecreasing}
use Rattle.std.proofs.lemmas.Bool.{lt-ltb, le-ltb}
use Rattle.std.proofs.lemmas.List.{get_or-map, length-map}
use Rattle.bridge_fdb.specs.declared.station.Station.{Station}
use Rattle.bridge_fdb.specs.Stations.{mac_number, station_number}
use Rattle.savi_kinds.specs.Orders.{IsRising}
use Rattle.bridge_fdb.specs.Places.{StandsAt, BelongsAt}
use Rattle.bridge_fdb.specs.Kept.{mac_numbers}
use Rattle.bridge_fdb.proofs.Rising.{stands, belongs_at_end, IsNonDecreasingBy-from_rising}

-- the first number that isn't lower than the wanted one is among so many from low on, or it stands right behind them
pub record IsWindow (wanted : ℕ) (numbers : List ℕ) (low size : ℕ) : Type 0 where
  pub within : low ≤ length numbers
  pub some : 1 ≤ size
  pub lower : AllWithin (λ n. n < wanted) numbers 0 low
  pub others : AllWithin (λ n. wanted ≤ n) numbers (low + size) (length numbers)

-- the number at a place is that of the station there
pub number_at : (xs : List Station) (i : ℕ) (d : Station) (e : ℕ) → i < length xs → get_or (mac_numbers xs) i e ≡ mac_number (get_or xs i d).mac
number_at xs i d e within = get_or-map (λ (station : Station). mac_number station.mac) xs i d e within

pub numbers_length : (xs : List Station) → length (mac_numbers xs) ≡ length xs
numbers_length xs = length-map xs (λ (station : Station). mac_number station.mac)

pub IsNonDecreasing-numbers : (xs : List Station) → IsRising station_number xs → IsNonDecreasing (mac_numbers xs)
IsNonDecreasing-numbers [] rising i j e from to = absurd (omega (arith, to))
IsNonDecreasing-numbers (x ∷ xs) rising i j e from to =
    let inside : j < length (x ∷ xs) = omega (arith, to, numbers_length (x ∷ xs)) in
    rw (number_at (x ∷ xs) i x e (omega (arith, from, inside)), number_at (x ∷ xs) j x e inside) (IsNonDecreasingBy-from_rising (x ∷ xs) rising i j x from inside)

pub sorted_length : (xs : List Station) (ns : List ℕ) → ns ≡ mac_numbers xs → length ns ≡ length xs
sorted_length xs ns matching = ap length matching ∙ numbers_length xs

-- the number at a place that is kept
told : (xs : List Station) (ns : List ℕ) (k : ℕ) (d : Station) → ns ≡ mac_numbers xs → k < length xs → get_or ns k 0 ≡ mac_number (get_or xs k d).mac
told xs ns k d matching inside = ap (λ ms. get_or ms k 0) matching ∙ number_at xs k d 0 inside

-- a station whose number was found
pub stands_by_number : (n : ℕ) (xs : List Station) (ns : List ℕ) (i : ℕ) → IsRising station_number xs → ns ≡ mac_numbers xs → i < length ns → get_or ns i 0 ≡ n → StandsAt n xs i
stands_by_number n xs ns i rising matching within same =
    let inside : i < length xs = omega (arith, within, sorted_length xs ns matching) in
    stands n xs i rising inside (λ d. sym (told xs ns i d matching inside) ∙ same)

-- or its place, where it wasn't
pub belongs_by_number : (n : ℕ) (xs : List Station) (ns : List ℕ) (i : ℕ) → IsRising station_number xs → ns ≡ mac_numbers xs → i ≤ length ns → AllWithin (λ m. m < n) ns 0 i → AllWithin (λ m. n ≤ m) ns i (length ns) → (i < length ns → get_or ns i 0 ≢ n) → BelongsAt n xs i
belongs_by_number n xs ns i rising matching within lower others other =
    let same_length : length ns ≡ length xs = sorted_length xs ns matching in
    belongs_at_end n xs i rising (omega (arith, within, same_length))
    (λ k d from to. lt-ltb (mac_number (get_or xs k d).mac) n (omega (arith, told xs ns k d matching (omega (arith, to, within, same_length)), lower k 0 from to)))
    (λ k d from to. le-ltb (mac_number (get_or xs k d).mac) n (omega (arith, told xs ns k d matching to, others k 0 from (omega (arith, to, same_length)))))
    (λ inside d same. other (omega (arith, inside, same_length)) (told xs ns i d matching inside ∙ same))
