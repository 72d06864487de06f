-- What clauses see of a turn: the lock, the pass's number, the value, and the history as it was entered.
use Rattle.std.specs.Prelude.{◌≡◌, ℕ, ◌^◌, ◌<◌, List, [], ◌∷◌, ◌++◌, ◌⊎◌, length, Option, None, Bool, true, false}
use Rattle.table_lock.specs.Entries.{Entry, EntryList}
use Rattle.table_lock.specs.Passes.{lock_table, lock_first}
use Rattle.table_lock.specs.Views.{at_turn}
use Rattle.table_lock.specs.declared.board.Stage.TheVariants.{Out}
use Rattle.table_lock.specs.declared.lock.TableLock.{TableLock}
use Rattle.table_lock.specs.declared.turn.Held.{Held}

module _ {V : Type 0} where
  abbrev pub held_lock : Held V → TableLock V
  held_lock h = h.lock.now

  abbrev pub held_number : Held V → ℕ
  held_number h = h.number

  -- where the pass sleeps between its turns
  abbrev pub held_sleeps_at : Held V → Option ℕ
  held_sleeps_at h = h.sleeps_at

  abbrev pub held_value : Held V → V
  held_value h = h.value

  -- the history as the turn began
  abbrev pub held_seen : Held V → EntryList
  held_seen h = h.place.me.0.seen

  -- the turn is as `enter` gave it, but for the value
  pub record IsTurn (fixed : V → List ℕ) (h : Held V) : Type 0 where
    pub table : h.place.table_id ≡ lock_table h.lock.now
    pub ticket : ℕ
    pub view : h.place.me.0 ≡ at_turn h.number (Out ticket) h.place.me.0
    pub slot : h.place.me.1 ≡ (0, None) ∷ []
    pub entered : h.entered ≡ length h.place.me.0.seen
    pub fixed_is : h.place.me.0.fixed ≡ fixed (lock_first h.lock.now)

-- the history is as entered, or longer by one entry with this number
abbrev pub IsOrGrowsBy : ℕ → EntryList → EntryList → Type 0
IsOrGrowsBy number before now = (now ≡ before) ⊎ ((e : Entry) × (e.0 ≡ number) × (now ≡ before ++ e ∷ []))

-- the same, where it is known which of the two
abbrev pub IsGrown : ℕ → EntryList → EntryList → Bool → Type 0
IsGrown number before now false = now ≡ before
IsGrown number before now true = (e : Entry) × (e.0 ≡ number) × (now ≡ before ++ e ∷ []) × (length now < 2 ^ 63)
