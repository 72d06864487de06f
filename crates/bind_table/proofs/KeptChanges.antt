-- The parts belong together after each change.
use Rattle.std.proofs.Common.{◌≡◌, ◌≢◌, ℕ, ◌+◌, ◌<◌, ◌==◌, suc, true, cond, Some, None, List, ◌∷◌, ◌++◌, filter, length, get_or, take, drop, refl, sym, ◌∙◌, ap, subst, inl, inr, arith}
use Rattle.std.specs.List.{AllByRecursion}
use Rattle.std.proofs.lemmas.Bool.{cases_Bool, eqb-true, eq-eqb}
use Rattle.std.proofs.lemmas.List.{length-append, take-append-drop}
use Rattle.slab.specs.Slab.{Slab, get, slab_len, Updates}
use Rattle.addr_index.specs.Indexes.{Index, key_in}
use Rattle.mix_rules.specs.declared.state.AddrState.{AddrState}
use Rattle.mix_rules.specs.States.{nobody, has_state}
use Rattle.savi_access.specs.declared.row.Row.{Row}
use Rattle.savi_kinds.specs.Orders.{is_below, is_above}
use Rattle.savi_access.specs.Rows.{address_of, state_in, address_row, with_state}
use Rattle.bind_table.specs.Places.{count_below}
use Rattle.bind_table.proofs.Places.{StandsAt, BelongsAt}
use Rattle.bind_table.proofs.Recounts.{IsRecounted, counts_kept}
use Rattle.bind_table.specs.Kept.{HaveRows, key_of, IsKept}
use Rattle.savi_access.proofs.Parts.{all_weaker, all_joined, below_all, above_all, rising_with, stand_with, rows_of-standing}
use Rattle.bind_table.proofs.Around.{around, between, front_is, behind_is, front_of, rest_of, stands_within}
use Rattle.bind_table.proofs.Keys.{keys_length, told_take, told_drop, told_joined, told_other, row_under, state_found, state_absent, key_absent, key_of-middle, split_at}

-- rows that are lower or higher have other addresses
lower_differ : (a : ℕ) (rows : List Row) → AllByRecursion (λ row. address_of row ≢ a) (filter (is_below address_of a) rows)
lower_differ a rows = all_weaker (λ row. address_of row < a) (λ row. address_of row ≢ a) (λ row h. λ same. omega (arith, h, same)) (filter (is_below address_of a) rows) (below_all a rows)

higher_differ : (a : ℕ) (rows : List Row) → AllByRecursion (λ row. address_of row ≢ a) (filter (is_above address_of a) rows)
higher_differ a rows = all_weaker (λ row. a < address_of row) (λ row. address_of row ≢ a) (λ row h. λ same. omega (arith, h, same)) (filter (is_above address_of a) rows) (above_all a rows)

-- the row of an address that the index has
pub stands_by_key : (slab : Slab Row) (index : Index) (keys counts : List ℕ) (rows : List Row) (a key : ℕ) → IsKept slab index keys counts rows → key_in index a ≡ Some key → StandsAt a rows (count_below a rows)
stands_by_key slab index keys counts rows a key kept is =
    record { place = refl; state = state_found keys rows a key kept.stand (sym (kept.indexed a) ∙ is) }

pub row_by_key : (slab : Slab Row) (index : Index) (keys counts : List ℕ) (rows : List Row) (a key : ℕ) → IsKept slab index keys counts rows → key_in index a ≡ Some key → get slab key ≡ Some (address_row a (state_in rows a))
row_by_key slab index keys counts rows a key kept is = row_under (get slab) keys rows a key kept.told (sym (kept.indexed a) ∙ is)

-- an address that the index doesn't have has no row
pub belongs_without_key : (slab : Slab Row) (index : Index) (keys counts : List ℕ) (rows : List Row) (a : ℕ) → IsKept slab index keys counts rows → key_in index a ≡ None → BelongsAt a rows (count_below a rows)
belongs_without_key slab index keys counts rows a kept is =
    record { place = refl; state = state_absent keys rows a (keys_length (get slab) keys rows kept.told) (sym (kept.indexed a) ∙ is) }

-- the keys around the one of an address
pub record IsAround (slab : Slab Row) (keys : List ℕ) (rows : List Row) (a key : ℕ) (front back : List ℕ) : Type 0 where
  pub keys_are : keys ≡ front ++ key ∷ back
  pub rows_are : rows ≡ filter (is_below address_of a) rows ++ address_row a (state_in rows a) ∷ filter (is_above address_of a) rows
  pub lower : HaveRows (get slab) front (filter (is_below address_of a) rows)
  pub higher : HaveRows (get slab) back (filter (is_above address_of a) rows)

pub around_key : (slab : Slab Row) (index : Index) (keys counts : List ℕ) (rows : List Row) (a key : ℕ) → IsKept slab index keys counts rows → key_in index a ≡ Some key → IsAround slab keys rows a key (take (count_below a rows) keys) (drop (suc (count_below a rows)) keys)
around_key slab index keys counts rows a key kept is =
    let i : ℕ = count_below a rows in
    let at : StandsAt a rows i = stands_by_key slab index keys counts rows a key kept is in
    let within : i < length rows = stands_within a rows i kept.rising kept.stand at in
    let front : List ℕ = take i keys in
    let back : List ℕ = drop (suc i) keys in
    let first : ℕ = get_or keys i key in
    let split : keys ≡ front ++ first ∷ back = split_at keys i key (omega (arith, within, keys_length (get slab) keys rows kept.told)) in
    let whole : rows ≡ filter (is_below address_of a) rows ++ address_row a (state_in rows a) ∷ filter (is_above address_of a) rows = around a rows i kept.rising kept.stand at in
    let lower : HaveRows (get slab) front (filter (is_below address_of a) rows) = subst (HaveRows (get slab) front) (front_is a rows i kept.rising kept.stand at) (told_take (get slab) keys rows i kept.told) in
    let found : key_of (front ++ first ∷ back) (filter (is_below address_of a) rows ++ address_row a (state_in rows a) ∷ filter (is_above address_of a) rows) a ≡ Some key = ap (λ ks. key_of ks (filter (is_below address_of a) rows ++ address_row a (state_in rows a) ∷ filter (is_above address_of a) rows) a) (sym split) ∙ ap (λ rs. key_of keys rs a) (sym whole) ∙ sym (kept.indexed a) ∙ is in
    let middle : key_of (front ++ first ∷ back) (filter (is_below address_of a) rows ++ address_row a (state_in rows a) ∷ filter (is_above address_of a) rows) a ≡ cond (a == a) (Some first) (key_of (front ++ back) (filter (is_below address_of a) rows ++ filter (is_above address_of a) rows) a) = key_of-middle front back (filter (is_below address_of a) rows) (filter (is_above address_of a) rows) first a a (state_in rows a) (keys_length (get slab) front (filter (is_below address_of a) rows) lower) (lower_differ a rows) in
    let own : cond (a == a) (Some first) (key_of (front ++ back) (filter (is_below address_of a) rows ++ filter (is_above address_of a) rows) a) ≡ Some first = rw (eq-eqb a a refl) refl in
    let told : Some first ≡ Some key = sym own ∙ sym middle ∙ found in
    let same : first ≡ key = cc in
    record {
      keys_are = split ∙ ap (λ k. front ++ k ∷ back) same;
      rows_are = whole;
      lower = lower;
      higher = subst (HaveRows (get slab) back) (behind_is a rows i kept.rising kept.stand at) (told_drop (get slab) keys rows (suc i) kept.told);
    }

-- what the index says of each address, where one stands between others
pub index_around : (slab : Slab Row) (keys : List ℕ) (rows : List Row) (a key : ℕ) (front back : List ℕ) (state : AddrState) (b : ℕ) → HaveRows (get slab) front (filter (is_below address_of a) rows) → key_of (front ++ key ∷ back) (filter (is_below address_of a) rows ++ address_row a state ∷ filter (is_above address_of a) rows) b ≡ cond (a == b) (Some key) (key_of (front ++ back) (filter (is_below address_of a) rows ++ filter (is_above address_of a) rows) b)
index_around slab keys rows a key front back state b lower =
    key_of-middle front back (filter (is_below address_of a) rows) (filter (is_above address_of a) rows) key a b state (keys_length (get slab) front (filter (is_below address_of a) rows) lower) (lower_differ a rows)

-- the row under the key of an address is its own
only_row : (slab : Slab Row) (index : Index) (keys counts : List ℕ) (rows : List Row) (a key : ℕ) → IsKept slab index keys counts rows → key_in index a ≡ Some key → (row : Row) → get slab key ≡ Some row → address_of row ≡ a
only_row slab index keys counts rows a key kept is row there =
    let told : Some row ≡ Some (address_row a (state_in rows a)) = sym there ∙ row_by_key slab index keys counts rows a key kept is in
    let same : row ≡ address_row a (state_in rows a) = cc in
    ap address_of same

-- the row of an address that has one is replaced
pub renewed : (slab later : Slab Row) (index : Index) (keys counts new : List ℕ) (rows : List Row) (a key : ℕ) (state : AddrState) → IsKept slab index keys counts rows → key_in index a ≡ Some key → has_state state ≡ true → Updates slab later key (Some (address_row a state)) → slab_len later ≡ slab_len slab → IsRecounted (state_in rows a) state counts new → IsKept later index keys new (with_state a state rows)
renewed slab later index keys counts new rows a key state kept is stands changed size recounts =
    let i : ℕ = count_below a rows in
    let front : List ℕ = take i keys in
    let back : List ℕ = drop (suc i) keys in
    let lower : List Row = filter (is_below address_of a) rows in
    let higher : List Row = filter (is_above address_of a) rows in
    let around_it : IsAround slab keys rows a key front back = around_key slab index keys counts rows a key kept is in
    let with_it : with_state a state rows ≡ lower ++ address_row a state ∷ higher = ap (λ own. lower ++ (own ++ higher)) (rows_of-standing a state stands) in
    let only : (row : Row) → get slab key ≡ Some row → address_of row ≡ a = only_row slab index keys counts rows a key kept is in
    let told_front : HaveRows (get later) front lower = told_other (get slab) (get later) key a changed.others only front lower (lower_differ a rows) around_it.lower in
    let told_back : HaveRows (get later) back higher = told_other (get slab) (get later) key a changed.others only back higher (higher_differ a rows) around_it.higher in
    let told : HaveRows (get later) (front ++ key ∷ back) (lower ++ address_row a state ∷ higher) = told_joined (get later) front (key ∷ back) lower (address_row a state ∷ higher) told_front (changed.changed, told_back) in
    let whole : HaveRows (get later) keys (lower ++ address_row a state ∷ higher) = subst (λ ks. HaveRows (get later) ks (lower ++ address_row a state ∷ higher)) (sym around_it.keys_are) told in
    let same_size : length (with_state a state rows) ≡ length rows = ap length with_it ∙ sym (keys_length (get later) keys (lower ++ address_row a state ∷ higher) whole) ∙ keys_length (get slab) keys rows kept.told in
    record {
      told = subst (HaveRows (get later) keys) (sym with_it) whole;
      rising = rising_with a state rows kept.rising;
      stand = stand_with a state rows kept.stand;
      indexed = λ b.
          kept.indexed b
          ∙ ap (λ ks. key_of ks rows b) around_it.keys_are
          ∙ ap (λ rs. key_of (front ++ key ∷ back) rs b) around_it.rows_are
          ∙ index_around slab keys rows a key front back (state_in rows a) b around_it.lower
          ∙ sym (index_around slab keys rows a key front back state b around_it.lower)
          ∙ ap (λ ks. key_of ks (lower ++ address_row a state ∷ higher) b) (sym around_it.keys_are)
          ∙ ap (λ rs. key_of keys rs b) (sym with_it);
      counted = counts_kept a state rows counts new kept.rising kept.stand (inl stands) recounts kept.counted;
      slab_size = size ∙ kept.slab_size ∙ sym same_size;
      index_size = kept.index_size ∙ sym same_size;
    }

-- an address that had none gets a row
pub inserted : (slab later : Slab Row) (index next : Index) (keys counts new : List ℕ) (rows : List Row) (a key i : ℕ) (state : AddrState) → IsKept slab index keys counts rows → key_in index a ≡ None → i ≡ count_below a rows → has_state state ≡ true → get slab key ≡ None → Updates slab later key (Some (address_row a state)) → slab_len later ≡ slab_len slab + 1 → ((b : ℕ) → key_in next b ≡ cond (a == b) (Some key) (key_in index b)) → length next.entries ≡ length index.entries + 1 → IsRecounted nobody state counts new → IsKept later next (take i keys ++ key ∷ drop i keys) new (with_state a state rows)
inserted slab later index next keys counts new rows a key i state kept is place stands vacant changed size indexes more recounts =
    let at : BelongsAt a rows i = record { place = place; state = (belongs_without_key slab index keys counts rows a kept is).state } in
    let front : List ℕ = take i keys in
    let back : List ℕ = drop i keys in
    let lower : List Row = filter (is_below address_of a) rows in
    let higher : List Row = filter (is_above address_of a) rows in
    let before : HaveRows (get slab) front lower = subst (HaveRows (get slab) front) (front_of a rows i kept.rising kept.stand at) (told_take (get slab) keys rows i kept.told) in
    let behind : HaveRows (get slab) back higher = subst (HaveRows (get slab) back) (rest_of a rows i kept.rising kept.stand at) (told_drop (get slab) keys rows i kept.told) in
    let with_it : with_state a state rows ≡ lower ++ address_row a state ∷ higher = ap (λ own. lower ++ (own ++ higher)) (rows_of-standing a state stands) in
    let only : (row : Row) → get slab key ≡ Some row → address_of row ≡ a = λ row there. let none : None ≡ Some row = sym vacant ∙ there in absurd (cc) in
    let told_front : HaveRows (get later) front lower = told_other (get slab) (get later) key a changed.others only front lower (lower_differ a rows) before in
    let told_back : HaveRows (get later) back higher = told_other (get slab) (get later) key a changed.others only back higher (higher_differ a rows) behind in
    let whole : HaveRows (get later) (front ++ key ∷ back) (lower ++ address_row a state ∷ higher) = told_joined (get later) front (key ∷ back) lower (address_row a state ∷ higher) told_front (changed.changed, told_back) in
    let new_size : length (with_state a state rows) ≡ length lower + suc (length higher) = ap length with_it ∙ length-append lower (address_row a state ∷ higher) in
    let old_size : length rows ≡ length lower + length higher = ap length (between a rows i kept.rising kept.stand at) ∙ length-append lower higher in
    let recounts_here : IsRecounted (state_in rows a) state counts new = subst (λ was. IsRecounted was state counts new) (sym at.state) recounts in
    record {
      told = subst (HaveRows (get later) (front ++ key ∷ back)) (sym with_it) whole;
      rising = rising_with a state rows kept.rising;
      stand = stand_with a state rows kept.stand;
      indexed = λ b.
          indexes b
          ∙ ap (cond (a == b) (Some key)) (kept.indexed b ∙ ap (λ ks. key_of ks rows b) (sym (take-append-drop i keys)) ∙ ap (λ rs. key_of (front ++ back) rs b) (between a rows i kept.rising kept.stand at))
          ∙ sym (index_around slab keys rows a key front back state b before)
          ∙ ap (λ rs. key_of (front ++ key ∷ back) rs b) (sym with_it);
      counted = counts_kept a state rows counts new kept.rising kept.stand (inl stands) recounts_here kept.counted;
      slab_size = omega (arith, size, kept.slab_size, new_size, old_size);
      index_size = omega (arith, more, kept.index_size, new_size, old_size);
    }

-- the row of an address is taken out
pub removed : (slab later : Slab Row) (index next : Index) (keys counts new : List ℕ) (rows : List Row) (a key i : ℕ) → IsKept slab index keys counts rows → key_in index a ≡ Some key → i ≡ count_below a rows → Updates slab later key None → slab_len later + 1 ≡ slab_len slab → ((b : ℕ) → key_in next b ≡ cond (a == b) None (key_in index b)) → length next.entries + 1 ≡ length index.entries → IsRecounted (state_in rows a) nobody counts new → IsKept later next (take i keys ++ drop (suc i) keys) new (with_state a nobody rows)
removed slab later index next keys counts new rows a key i kept is place changed size indexes less recounts =
    let front : List ℕ = take i keys in
    let back : List ℕ = drop (suc i) keys in
    let lower : List Row = filter (is_below address_of a) rows in
    let higher : List Row = filter (is_above address_of a) rows in
    let around_it : IsAround slab keys rows a key front back = subst (λ j. IsAround slab keys rows a key (take j keys) (drop (suc j) keys)) (sym place) (around_key slab index keys counts rows a key kept is) in
    let only : (row : Row) → get slab key ≡ Some row → address_of row ≡ a = only_row slab index keys counts rows a key kept is in
    let told_front : HaveRows (get later) front lower = told_other (get slab) (get later) key a changed.others only front lower (lower_differ a rows) around_it.lower in
    let told_back : HaveRows (get later) back higher = told_other (get slab) (get later) key a changed.others only back higher (higher_differ a rows) around_it.higher in
    let new_size : length (lower ++ higher) ≡ length lower + length higher = length-append lower higher in
    let old_size : length rows ≡ length lower + suc (length higher) = ap length around_it.rows_are ∙ length-append lower (address_row a (state_in rows a) ∷ higher) in
    record {
      told = told_joined (get later) front back lower higher told_front told_back;
      rising = rising_with a nobody rows kept.rising;
      stand = stand_with a nobody rows kept.stand;
      indexed = λ b. indexes b ∙ without b (kept.indexed b ∙ ap (λ ks. key_of ks rows b) around_it.keys_are ∙ ap (λ rs. key_of (front ++ key ∷ back) rs b) around_it.rows_are ∙ index_around slab keys rows a key front back (state_in rows a) b around_it.lower);
      counted = counts_kept a nobody rows counts new kept.rising kept.stand (inr refl) recounts kept.counted;
      slab_size = omega (arith, size, kept.slab_size, new_size, old_size);
      index_size = omega (arith, less, kept.index_size, new_size, old_size);
    }
  where
    without : (b : ℕ) → key_in index b ≡ cond (a == b) (Some key) (key_of (take i keys ++ drop (suc i) keys) (filter (is_below address_of a) rows ++ filter (is_above address_of a) rows) b) → cond (a == b) None (key_in index b) ≡ key_of (take i keys ++ drop (suc i) keys) (filter (is_below address_of a) rows ++ filter (is_above address_of a) rows) b
    without b was =
        elim (cases_Bool (a == b)) [
          | inl here ↦ rw here (sym (subst (λ n. key_of (take i keys ++ drop (suc i) keys) (filter (is_below address_of a) rows ++ filter (is_above address_of a) rows) n ≡ None) (eqb-true a b here) (key_absent a (take i keys ++ drop (suc i) keys) (filter (is_below address_of a) rows ++ filter (is_above address_of a) rows) (all_joined (λ row. address_of row ≢ a) (filter (is_below address_of a) rows) (filter (is_above address_of a) rows) (lower_differ a rows) (higher_differ a rows)))))
          | inr other ↦ rw other (was ∙ rw other refl)
        ]
