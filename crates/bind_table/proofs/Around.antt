-- The rows around the place of an address.
use Rattle.std.proofs.Common.{◌≡◌, ◌⊎◌, ℕ, ◌+◌, ◌≤◌, ◌<◌, suc, true, List, [], ◌∷◌, ◌++◌, filter, length, take, drop, refl, sym, ◌∙◌, ap, arith, inl, inr}
use Rattle.std.proofs.lemmas.List.{length-append, take_at, drop_at}
use Rattle.std.proofs.lemmas.Bool.{false≢true}
use Rattle.mix_rules.specs.States.{nobody, has_state}
use Rattle.savi_access.specs.declared.row.Row.{Row}
use Rattle.savi_kinds.specs.Orders.{is_below, is_above, IsRising}
use Rattle.savi_access.specs.Rows.{address_of, state_in, address_row, rows_of, with_state, AllStand}
use Rattle.bind_table.specs.Places.{count_below}
use Rattle.bind_table.proofs.Places.{StandsAt, BelongsAt}
use Rattle.savi_access.proofs.Parts.{parts, rows_of-standing}

-- the rows around one that stands at a place
pub around : (a : ℕ) (rows : List Row) (i : ℕ) → IsRising address_of rows → AllStand rows → StandsAt a rows i → rows ≡ filter (is_below address_of a) rows ++ address_row a (state_in rows a) ∷ filter (is_above address_of a) rows
around a rows i rising stand at = parts a rows rising stand ∙ ap (λ own. filter (is_below address_of a) rows ++ (own ++ filter (is_above address_of a) rows)) (rows_of-standing a (state_in rows a) at.state)

-- the rows around the place where one would stand
pub between : (a : ℕ) (rows : List Row) (i : ℕ) → IsRising address_of rows → AllStand rows → BelongsAt a rows i → rows ≡ filter (is_below address_of a) rows ++ filter (is_above address_of a) rows
between a rows i rising stand at = parts a rows rising stand ∙ ap (λ state. filter (is_below address_of a) rows ++ (rows_of a state ++ filter (is_above address_of a) rows)) at.state

pub stands_within : (a : ℕ) (rows : List Row) (i : ℕ) → IsRising address_of rows → AllStand rows → StandsAt a rows i → i < length rows
stands_within a rows i rising stand at =
    let size : length rows ≡ count_below a rows + suc (length (filter (is_above address_of a) rows)) = ap length (around a rows i rising stand at) ∙ length-append (filter (is_below address_of a) rows) (address_row a (state_in rows a) ∷ filter (is_above address_of a) rows) in
    omega (arith, size, at.place)

pub belongs_within : (a : ℕ) (rows : List Row) (i : ℕ) → IsRising address_of rows → AllStand rows → BelongsAt a rows i → i ≤ length rows
belongs_within a rows i rising stand at =
    let size : length rows ≡ count_below a rows + length (filter (is_above address_of a) rows) = ap length (between a rows i rising stand at) ∙ length-append (filter (is_below address_of a) rows) (filter (is_above address_of a) rows) in
    omega (arith, size, at.place)

-- the rows before and behind one that stands at a place
pub front_is : (a : ℕ) (rows : List Row) (i : ℕ) → IsRising address_of rows → AllStand rows → StandsAt a rows i → take i rows ≡ filter (is_below address_of a) rows
front_is a rows i rising stand at =
    ap (take i) (around a rows i rising stand at) ∙ take_at (filter (is_below address_of a) rows) (address_row a (state_in rows a) ∷ filter (is_above address_of a) rows) i (sym at.place)

pub behind_is : (a : ℕ) (rows : List Row) (i : ℕ) → IsRising address_of rows → AllStand rows → StandsAt a rows i → drop (suc i) rows ≡ filter (is_above address_of a) rows
behind_is a rows i rising stand at = ap (drop (suc i)) (around a rows i rising stand at) ∙ drop_behind (filter (is_below address_of a) rows) (filter (is_above address_of a) rows) i at.place
  where
    drop_behind : (front back : List Row) (j : ℕ) → j ≡ length front → drop (suc j) (front ++ address_row a (state_in rows a) ∷ back) ≡ back
    drop_behind front back j is =
        ap (λ xs. drop (suc j) xs) (regroup front back) ∙ drop_at (front ++ address_row a (state_in rows a) ∷ []) back (suc j) (omega (arith, is, length-append front (address_row a (state_in rows a) ∷ [])))
      where
        regroup : (xs ys : List Row) → xs ++ address_row a (state_in rows a) ∷ ys ≡ (xs ++ address_row a (state_in rows a) ∷ []) ++ ys
        regroup [] ys = refl
        regroup (x ∷ xs) ys = ap (λ zs. x ∷ zs) (regroup xs ys)

-- the rows before and from a place on where one would stand
pub front_of : (a : ℕ) (rows : List Row) (i : ℕ) → IsRising address_of rows → AllStand rows → BelongsAt a rows i → take i rows ≡ filter (is_below address_of a) rows
front_of a rows i rising stand at = ap (take i) (between a rows i rising stand at) ∙ take_at (filter (is_below address_of a) rows) (filter (is_above address_of a) rows) i (sym at.place)

pub rest_of : (a : ℕ) (rows : List Row) (i : ℕ) → IsRising address_of rows → AllStand rows → BelongsAt a rows i → drop i rows ≡ filter (is_above address_of a) rows
rest_of a rows i rising stand at = ap (drop i) (between a rows i rising stand at) ∙ drop_at (filter (is_below address_of a) rows) (filter (is_above address_of a) rows) i (sym at.place)

-- nothing changes where an address has no state
pub nothing_there : (a : ℕ) (rows : List Row) (i : ℕ) → IsRising address_of rows → AllStand rows → BelongsAt a rows i → rows ≡ with_state a nobody rows
nothing_there a rows i rising stand at = between a rows i rising stand at

-- there is room for the row of an address that has none
pub room_for : (a : ℕ) (rows : List Row) (i most : ℕ) → BelongsAt a rows i → (has_state (state_in rows a) ≡ true) ⊎ (length rows < most) → length rows < most
room_for a rows i most at (inl stands) = absurd (false≢true (sym (ap has_state at.state) ∙ stands))
room_for a rows i most at (inr room) = room
