-- What each kind of step tells the pass that makes it. `m` is the pass before with what it has out of the slot, `r` the word
-- that was found, `m'` the pass after. The two exchanges of the slot, which take the value and put it back, change nothing
-- that a pass knows.
use Rattle.std.specs.Prelude.{◌≡◌, ◌≢◌, ℕ, ◌+◌, ◌==◌, ◌^◌, ◌<◌, ◌≤◌, List, [], ◌∷◌, ◌++◌, map, length, nat_lt, Option, Some, None, if◌then◌else◌}
use Rattle.atomic_table.specs.Table.{Me, Step}
use Rattle.table_lock.specs.Entries.{Entry, EntryList, mine, StartsWith}
use Rattle.table_lock.specs.Rule.{Map, Has}
use Rattle.table_lock.specs.declared.board.Stage.{Stage}
use Rattle.table_lock.specs.declared.board.Stage.TheVariants.{Spent, Idle, Waiting, Out}
use Rattle.table_lock.specs.declared.board.View.{View}

abbrev pub Sat : Type 0 → Type 0
Sat V = Me (Option V) View

-- the ticket of a stage, or 0
abbrev pub ticket_of : Stage → ℕ
ticket_of Spent = 0
ticket_of Idle = 0
ticket_of (Waiting t) = t
ticket_of (Out t) = t

abbrev pub at_stage : View → Stage → View
at_stage v stage = record v { stage = stage }

-- the map after one more entry, which joins the list at its number
abbrev pub entry_added : Entry → Map → Map
entry_added e m = map (λ (x : ℕ × EntryList). (x.0, (if x.0 == e.0 then x.1 ++ e ∷ [] else x.1))) m

-- the view after one more entry of its pass
abbrev pub noted : View → Entry → View
noted v e = record v { seen = v.seen ++ e ∷ []; mine = entry_added e v.mine }

module _ {V : Type 0} (history : V → EntryList) (fixed : V → List ℕ) where
  -- where the turn has come, the value is the pass's and the pass sees its whole history
  pub record Called (v : View) (m' : Sat V) : Type 0 where
    pub value : V
    pub view_is : m'.0 ≡ record v { stage = Out (ticket_of v.stage); seen = history value }
    pub slot : m'.1 ≡ (0, Some value) ∷ []
    pub fixed_is : fixed value ≡ v.fixed
    pub longer : StartsWith (history value) v.seen
    pub own : (i : ℕ) (es : EntryList) → Has v.mine i es → es ≡ mine i (history value)

  -- look: the turn has come where the word is the pass's ticket and below 2^63
  abbrev pub looked : Step (Option V) → Sat V → ℕ → Sat V → Type 0
  looked st m r m' = (r ≡ ticket_of m.0.stage → r < 2 ^ 63 → Called m.0 m') × (r ≢ ticket_of m.0.stage → m' ≡ m) × (2 ^ 63 ≤ r → m' ≡ m)

module _ {V : Type 0} (history : V → EntryList) where
  -- made: the last entry of the value in the slot joins what the pass has seen and made
  abbrev pub made : Step (Option V) → Sat V → ℕ → Sat V → Type 0
  made st m r m' = (x : V) × (e : Entry) × (m.1 ≡ (0, Some x) ∷ []) × (history x ≡ m.0.seen ++ e ∷ []) × (m.0.number ≡ Some e.0) × (m' ≡ (noted m.0 e, m.1))

module _ {V : Type 0} where
  -- draw: the word found is the pass's ticket
  abbrev pub drawn : Step (Option V) → Sat V → ℕ → Sat V → Type 0
  drawn st m r m' = m' ≡ (at_stage m.0 (Waiting r), m.1)

  -- pass on: the slot is back, and the pass has no ticket
  abbrev pub passed : Step (Option V) → Sat V → ℕ → Sat V → Type 0
  passed st m r m' = m' ≡ (at_stage m.0 Idle, [])

-- split: the pass that knows how many numbers were given out counts one more, and the new pass has the old count as its
-- number
abbrev pub one_more : View → View
one_more v = record v { seats = v.seats + 1 }

abbrev pub newcomer : View → View
newcomer v = record { number = Some v.seats; stage = Idle; seats = 0; seen = []; mine = (v.seats, []) ∷ []; fixed = v.fixed; told = [] }

-- join: the taker has the longer history, the keys of both and the count of either, and remembers what both had seen
abbrev pub longer : EntryList → EntryList → EntryList
longer a b = if nat_lt (length a) (length b) then b else a

abbrev pub both : View → View → View
both v w = record { number = v.number; stage = Idle; seats = v.seats + w.seats; seen = longer v.seen w.seen; mine = v.mine ++ w.mine; fixed = v.fixed; told = v.seen ∷ w.seen ∷ (v.told ++ w.told) }

abbrev pub spent : View
spent = record { number = None; stage = Spent; seats = 0; seen = []; mine = []; fixed = []; told = [] }
