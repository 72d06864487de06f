-- Entries in the order of their keys, of which at most so many are kept, and what setting one makes of them. `before` says
-- which of two entries comes first: entries of one key don't come before each other. `stands` says which of them stand.
use Rattle.std.specs.Prelude.{◌≡◌, ℕ, ◌&&◌, ◌||◌, nat_lt, nat_le, Bool, true, if◌then◌else◌, List, ◌∷◌, ◌++◌, length, filter, AllPairs}

-- each entry comes before all later ones
abbrev pub IsOrdered : {A : Type 0} → (A → A → Bool) → List A → Type 0
IsOrdered before entries = AllPairs (λ x y. before x y ≡ true) entries

-- an entry has another key than this one
abbrev pub is_other : {A : Type 0} → (A → A → Bool) → A → A → Bool
is_other before new entry = before entry new || before new entry

-- those of the entries that stand, but for the one with this entry's key
abbrev pub left_beside : {A : Type 0} → (A → A → Bool) → (A → Bool) → A → List A → List A
left_beside before stands new entries = filter (λ entry. stands entry && is_other before new entry) entries

-- an entry among others: behind those that come before it, and before the rest
abbrev pub placed : {A : Type 0} → (A → A → Bool) → A → List A → List A
placed before new others = filter (λ entry. before entry new) others ++ new ∷ filter (λ entry. before new entry) others

-- the entries once this one is set: in its own place where it stands and there are few enough others
abbrev pub with_set_entry : {A : Type 0} → ℕ → (A → A → Bool) → (A → Bool) → A → List A → List A
with_set_entry most before stands new entries =
    if stands new && nat_lt (length (left_beside before stands new entries)) most
    then placed before new (left_beside before stands new entries)
    else left_beside before stands new entries

-- it would stand, and finds no place
abbrev pub is_one_too_many : {A : Type 0} → ℕ → (A → A → Bool) → (A → Bool) → A → List A → Bool
is_one_too_many most before stands new entries = stands new && nat_le most (length (left_beside before stands new entries))
