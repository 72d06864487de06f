-- Keys and their rows, side by side.
use Rattle.std.proofs.Common.{◌≡◌, ◌≢◌, ℕ, ◌<◌, ◌==◌, zero, suc, true, false, cond, Option, Some, None, IsSome, List, [], ◌∷◌, ◌++◌, filter_map, length, get_or, take, drop, refl, sym, ◌∙◌, ap, inl, inr, arith}
use Rattle.std.specs.List.{AllByRecursion}
use Rattle.std.proofs.lemmas.Bool.{cases_Bool, eqb-true}
use Rattle.mix_rules.specs.declared.state.AddrState.{AddrState}
use Rattle.mix_rules.specs.States.{nobody, has_state}
use Rattle.savi_access.specs.declared.row.Row.{Row}
use Rattle.savi_access.specs.Rows.{address_of, state_in, address_row, AllStand}
use Rattle.bind_table.specs.Kept.{HaveRows, key_of}
use Rattle.savi_access.proofs.Parts.{other_address}

-- the rows are those that the keys have
pub rows_told : (f : ℕ → Option Row) (keys : List ℕ) (rows : List Row) → HaveRows f keys rows → filter_map f keys ≡ rows
rows_told f [] [] told = refl
rows_told f [] (row ∷ rows) told = absurd told
rows_told f (key ∷ keys) [] told = absurd told
rows_told f (key ∷ keys) (row ∷ rows) told = rw told.0 (ap (λ rest. row ∷ rest) (rows_told f keys rows told.1))

pub keys_length : (f : ℕ → Option Row) (keys : List ℕ) (rows : List Row) → HaveRows f keys rows → length keys ≡ length rows
keys_length f [] [] told = refl
keys_length f [] (row ∷ rows) told = absurd told
keys_length f (key ∷ keys) [] told = absurd told
keys_length f (key ∷ keys) (row ∷ rows) told = ap suc (keys_length f keys rows told.1)

pub told_at : (f : ℕ → Option Row) (keys : List ℕ) (rows : List Row) (i e : ℕ) (d : Row) → HaveRows f keys rows → i < length rows → f (get_or keys i e) ≡ Some (get_or rows i d)
told_at f keys [] i e d told within = absurd (omega (arith, within))
told_at f [] (row ∷ rows) i e d told within = absurd told
told_at f (key ∷ keys) (row ∷ rows) zero e d told within = told.0
told_at f (key ∷ keys) (row ∷ rows) (suc i) e d told within = told_at f keys rows i e d told.1 (omega (arith, within))

pub told_take : (f : ℕ → Option Row) (keys : List ℕ) (rows : List Row) (i : ℕ) → HaveRows f keys rows → HaveRows f (take i keys) (take i rows)
told_take f keys rows zero told = tt
told_take f [] [] (suc i) told = tt
told_take f [] (row ∷ rows) (suc i) told = absurd told
told_take f (key ∷ keys) [] (suc i) told = absurd told
told_take f (key ∷ keys) (row ∷ rows) (suc i) told = (told.0, told_take f keys rows i told.1)

pub told_drop : (f : ℕ → Option Row) (keys : List ℕ) (rows : List Row) (i : ℕ) → HaveRows f keys rows → HaveRows f (drop i keys) (drop i rows)
told_drop f keys rows zero told = told
told_drop f [] [] (suc i) told = tt
told_drop f [] (row ∷ rows) (suc i) told = absurd told
told_drop f (key ∷ keys) [] (suc i) told = absurd told
told_drop f (key ∷ keys) (row ∷ rows) (suc i) told = told_drop f keys rows i told.1

pub told_joined : (f : ℕ → Option Row) (keys more : List ℕ) (rows others : List Row) → HaveRows f keys rows → HaveRows f more others → HaveRows f (keys ++ more) (rows ++ others)
told_joined f [] more [] others told rest = rest
told_joined f [] more (row ∷ rows) others told rest = absurd told
told_joined f (key ∷ keys) more [] others told rest = absurd told
told_joined f (key ∷ keys) more (row ∷ rows) others told rest = (told.0, told_joined f keys more rows others told.1 rest)

-- a change under one key isn't seen under those whose rows have other addresses
pub told_other : (f g : ℕ → Option Row) (key a : ℕ) → ((other : ℕ) → other ≢ key → g other ≡ f other) → ((row : Row) → f key ≡ Some row → address_of row ≡ a) → (keys : List ℕ) (rows : List Row) → AllByRecursion (λ row. address_of row ≢ a) rows → HaveRows f keys rows → HaveRows g keys rows
told_other f g key a same only [] [] differ told = tt
told_other f g key a same only [] (row ∷ rows) differ told = absurd told
told_other f g key a same only (k ∷ keys) [] differ told = absurd told
told_other f g key a same only (k ∷ keys) (row ∷ rows) differ told =
    let other : k ≢ key = λ is. differ.0 (only row (sym (ap f is) ∙ told.0)) in
    (same k other ∙ told.0, told_other f g key a same only keys rows differ.1 told.1)

-- the row under the key of an address
pub row_under : (f : ℕ → Option Row) (keys : List ℕ) (rows : List Row) (a key : ℕ) → HaveRows f keys rows → key_of keys rows a ≡ Some key → f key ≡ Some (address_row a (state_in rows a))
row_under f [] rows a key told is = absurd (cc)
row_under f (k ∷ keys) [] a key told is = absurd told
row_under f (k ∷ keys) (row ∷ rows) a key told is =
    elim (cases_Bool (address_of row == a)) [
      | inl here ↦
          let same : k ≡ key = let found : Some k ≡ Some key = rw here at is in cc in
          let mine : row ≡ address_row a row.state = ap (λ n. address_row n row.state) (eqb-true (address_of row) a here) in
          rw here (sym (ap f same) ∙ told.0 ∙ ap Some mine)
      | inr later ↦ let found : key_of keys rows a ≡ Some key = rw later at is in rw later (row_under f keys rows a key told.1 found)
    ]

pub state_found : (keys : List ℕ) (rows : List Row) (a key : ℕ) → AllStand rows → key_of keys rows a ≡ Some key → has_state (state_in rows a) ≡ true
state_found [] rows a key stand is = absurd (cc)
state_found (k ∷ keys) [] a key stand is = absurd (cc)
state_found (k ∷ keys) (row ∷ rows) a key stand is =
    elim (cases_Bool (address_of row == a)) [
      | inl here ↦ rw here stand.0
      | inr later ↦ let found : key_of keys rows a ≡ Some key = rw later at is in rw later (state_found keys rows a key stand.1 found)
    ]

pub state_absent : (keys : List ℕ) (rows : List Row) (a : ℕ) → length keys ≡ length rows → key_of keys rows a ≡ None → state_in rows a ≡ nobody
state_absent keys [] a size is = refl
state_absent [] (row ∷ rows) a size is = absurd (omega (arith, size))
state_absent (k ∷ keys) (row ∷ rows) a size is =
    elim (cases_Bool (address_of row == a)) [
      | inl here ↦ let found : Some k ≡ None = rw here at is in absurd (cc)
      | inr later ↦ let found : key_of keys rows a ≡ None = rw later at is in rw later (state_absent keys rows a (omega (arith, size)) found)
    ]

-- no row of other addresses has the key
pub key_absent : (a : ℕ) (keys : List ℕ) (rows : List Row) → AllByRecursion (λ row. address_of row ≢ a) rows → key_of keys rows a ≡ None
key_absent a [] rows differ = refl
key_absent a (key ∷ keys) [] differ = refl
key_absent a (key ∷ keys) (row ∷ rows) differ = rw (other_address (address_of row) a differ.0) (key_absent a keys rows differ.1)

-- a key and its row between others, of which those before it have other addresses
pub key_of-middle : (keys more : List ℕ) (rows others : List Row) (key a b : ℕ) (state : AddrState) → length keys ≡ length rows → AllByRecursion (λ row. address_of row ≢ a) rows → key_of (keys ++ key ∷ more) (rows ++ address_row a state ∷ others) b ≡ cond (a == b) (Some key) (key_of (keys ++ more) (rows ++ others) b)
key_of-middle [] more [] others key a b state size differ = refl
key_of-middle [] more (row ∷ rows) others key a b state size differ = absurd (omega (arith, size))
key_of-middle (k ∷ keys) more [] others key a b state size differ = absurd (omega (arith, size))
key_of-middle (k ∷ keys) more (row ∷ rows) others key a b state size differ =
    let rest : key_of (keys ++ key ∷ more) (rows ++ address_row a state ∷ others) b ≡ cond (a == b) (Some key) (key_of (keys ++ more) (rows ++ others) b) = key_of-middle keys more rows others key a b state (omega (arith, size)) differ.1 in
    elim (cases_Bool (address_of row == b)) [
      | inl here ↦
          let apart : (a == b) ≡ false = other_address a b (λ same. differ.0 (eqb-true (address_of row) b here ∙ sym same)) in
          rw (here, apart) refl
      | inr later ↦ rw later rest
    ]

-- a list in parts around a place
pub split_at : {X : Type 0} (xs : List X) (i : ℕ) (d : X) → i < length xs → xs ≡ take i xs ++ get_or xs i d ∷ drop (suc i) xs
split_at [] i d within = absurd (omega (arith, within))
split_at (x ∷ xs) zero d within = refl
split_at (x ∷ xs) (suc i) d within = ap (λ ys. x ∷ ys) (split_at xs i d (omega (arith, within)))

pub told_some : (f : ℕ → Option Row) (keys : List ℕ) (rows : List Row) (i e : ℕ) → HaveRows f keys rows → i < length keys → IsSome (f (get_or keys i e))
told_some f [] rows i e told within = absurd (omega (arith, within))
told_some f (key ∷ keys) [] i e told within = absurd told
told_some f (key ∷ keys) (row ∷ rows) zero e told within = rw told.0 refl
told_some f (key ∷ keys) (row ∷ rows) (suc i) e told within = told_some f keys rows i e told.1 (omega (arith, within))

-- the row that a look-up under a key gives
pub told_get : (f : ℕ → Option Row) (keys : List ℕ) (rows : List Row) (i e : ℕ) (row d : Row) → HaveRows f keys rows → i < length rows → f (get_or keys i e) ≡ Some row → row ≡ get_or rows i d
told_get f keys rows i e row d told within is =
    let same : Some row ≡ Some (get_or rows i d) = sym is ∙ told_at f keys rows i e d told within in
    cc
