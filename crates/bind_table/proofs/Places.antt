-- Where the row of an address stands in a list of rows, or would stand.
use Rattle.std.proofs.Common.{◌≡◌, ℕ, ◌+◌, ◌≤◌, ◌<◌, zero, suc, Bool, true, false, List, [], ◌∷◌, filter, length, get_or, sym, ap, subst, inl, inr, arith}
use Rattle.std.specs.List.{AllByRecursion, AllWithin}
use Rattle.std.proofs.lemmas.Bool.{cases_eq, lt-ltb, le-ltb}
use Rattle.mix_rules.specs.States.{nobody, has_state}
use Rattle.savi_access.specs.declared.row.Row.{Row}
use Rattle.savi_kinds.specs.Orders.{is_below, IsRising}
use Rattle.savi_kinds.proofs.Orders.{rising-head, rising-tail}
use Rattle.savi_access.specs.Rows.{address_of, state_in}
use Rattle.bind_table.specs.Places.{count_below}

-- the address has a row, which stands at i
pub record StandsAt (a : ℕ) (rows : List Row) (i : ℕ) : Type 0 where
  pub place : i ≡ count_below a rows
  pub state : has_state (state_in rows a) ≡ true

-- it has none, and its row would stand at i
pub record BelongsAt (a : ℕ) (rows : List Row) (i : ℕ) : Type 0 where
  pub place : i ≡ count_below a rows
  pub state : state_in rows a ≡ nobody

pub all_at : {X : Type 0} (P : X → Type 0) (xs : List X) (i : ℕ) (d : X) → AllByRecursion P xs → i < length xs → P (get_or xs i d)
all_at P [] i d all within = absurd (omega (arith, within))
all_at P (x ∷ xs) zero d all within = all.0
all_at P (x ∷ xs) (suc i) d all within = all_at P xs i d all.1 (omega (arith, within))

-- of two rows the later one has the higher address
pub rising_at : (rows : List Row) (i j : ℕ) (d : Row) → IsRising address_of rows → i < j → j < length rows → address_of (get_or rows i d) < address_of (get_or rows j d)
rising_at [] i j d rising before within = absurd (omega (arith, within))
rising_at (row ∷ rows) i zero d rising before within = absurd (omega (arith, before))
rising_at (row ∷ rows) zero (suc j) d rising before within = all_at (λ later. address_of row < address_of later) rows j d (rising-head address_of row rows rising) (omega (arith, within))
rising_at (row ∷ rows) (suc i) (suc j) d rising before within = rising_at rows i j d (rising-tail address_of row rows rising) (omega (arith, before)) (omega (arith, within))

-- where all before a place pass, and none from there on, a filter leaves as many as stand before it
pub length-filter_at : {X : Type 0} (p : X → Bool) (xs : List X) (i : ℕ) → i ≤ length xs → AllWithin (λ x. p x ≡ true) xs 0 i → AllWithin (λ x. p x ≡ false) xs i (length xs) → i ≡ length (filter p xs)
length-filter_at p [] i within front back = omega (arith, within)
length-filter_at p (x ∷ xs) zero within front back =
    rw (back 0 x (omega arith) (omega arith))
    (length-filter_at p xs zero (omega arith) (λ k d from to. absurd (omega (arith, to))) (λ k d from to. back (suc k) d (omega arith) (omega (arith, to))))
length-filter_at p (x ∷ xs) (suc i) within front back =
    rw (front 0 x (omega arith) (omega arith))
    (ap suc (length-filter_at p xs i (omega (arith, within)) (λ k d from to. front (suc k) d (omega arith) (omega (arith, to))) (λ k d from to. back (suc k) d (omega (arith, from)) (omega (arith, to)))))

-- the search goes on above the middle
pub lower_half : (a : ℕ) (rows : List Row) (middle : ℕ) → IsRising address_of rows → middle < length rows → ((d : Row) → address_of (get_or rows middle d) < a) → AllWithin (λ row. is_below address_of a row ≡ true) rows 0 (middle + 1)
lower_half a rows middle rising within lower k d from to =
    elim (cases_eq k middle) [
      | inl same ↦ subst (λ j. is_below address_of a (get_or rows j d) ≡ true) (sym same) (lt-ltb (address_of (get_or rows middle d)) a (lower d))
      | inr before ↦
          let less : address_of (get_or rows k d) < address_of (get_or rows middle d) = rising_at rows k middle d rising (omega (arith, to, before)) within in
          lt-ltb (address_of (get_or rows k d)) a (omega (arith, less, lower d))
    ]

-- or below it
pub upper_half : (a : ℕ) (rows : List Row) (middle : ℕ) → IsRising address_of rows → ((d : Row) → a ≤ address_of (get_or rows middle d)) → AllWithin (λ row. is_below address_of a row ≡ false) rows middle (length rows)
upper_half a rows middle rising higher k d from to =
    elim (cases_eq middle k) [
      | inl same ↦ subst (λ j. is_below address_of a (get_or rows j d) ≡ false) same (le-ltb (address_of (get_or rows middle d)) a (higher d))
      | inr later ↦
          let less : address_of (get_or rows middle d) < address_of (get_or rows k d) = rising_at rows middle k d rising (omega (arith, from, later)) to in
          le-ltb (address_of (get_or rows k d)) a (omega (arith, less, higher d))
    ]
