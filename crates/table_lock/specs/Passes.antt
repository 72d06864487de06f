-- What clauses see of a lock and of its passes.
use Rattle.std.specs.Prelude.{◌≡◌, ℕ, ◌<◌, List, [], length, slice_get, slice_index_or, Option, Some, None}
use Rattle.std.specs.List.{All}
use Rattle.atomic_table.specs.Seated.{TableId}
use Rattle.table_lock.specs.Entries.{EntryList, mine}
use Rattle.table_lock.specs.Views.{view_of}
use Rattle.table_lock.specs.declared.pass.Pass.{Pass}
use Rattle.table_lock.specs.declared.lock.TableLock.{TableLock}

abbrev pub pass_number : Pass → ℕ
pass_number p = p.number

abbrev pub pass_table : Pass → TableId
pass_table p = p.badge.table_id

-- the history as the pass last saw it, in its last turn
abbrev pub pass_seen : Pass → EntryList
pass_seen p = (view_of p.badge.views).seen

-- the entries that the pass made
abbrev pub pass_own : Pass → EntryList
pass_own p = mine p.number (pass_seen p)

-- the place at which the pass sleeps, if it was given one
abbrev pub pass_sleeps_at : Pass → Option ℕ
pass_sleeps_at p = p.sleeps_at

-- the fixed part of the value that its lock was made with
abbrev pub pass_fixed : Pass → List ℕ
pass_fixed p = (view_of p.badge.views).fixed

module _ {V : Type 0} where
  abbrev pub lock_table : TableLock V → TableId
  lock_table l = l.table.shared.table_id

  -- how many passes the lock was made for
  abbrev pub lock_seats : TableLock V → ℕ
  lock_seats l = l.table.shared.key.1

  -- the value that the lock was made with
  abbrev pub lock_first : TableLock V → V
  lock_first l = l.table.shared.key.0.value

  module _ (fixed : V → List ℕ) where
    -- the pass is one of this lock's
    abbrev pub IsPassOf : TableLock V → Pass → Type 0
    IsPassOf l p = (pass_table p ≡ lock_table l) × (pass_fixed p ≡ fixed (lock_first l))

    -- these are all passes of the lock, in whatever order
    abbrev pub AreAll : TableLock V → List Pass → Type 0
    AreAll l passes = (length passes ≡ lock_seats l) × All (IsPassOf l) passes

-- the passes as they are dealt: numbered in their order from 0, and each has seen nothing and has no place to sleep at
abbrev pub AreDealt : List Pass → Type 0
AreDealt passes = (k : ℕ) (d : Pass) → k < length passes →
    (pass_number (slice_index_or passes k d) ≡ k) × (pass_seen (slice_index_or passes k d) ≡ []) × (pass_sleeps_at (slice_index_or passes k d) ≡ None)

-- each number below n is the number of one of the passes
abbrev pub AreNumbered : ℕ → List Pass → Type 0
AreNumbered n passes = (i : ℕ) → i < n → (k : ℕ) × (p : Pass) × (slice_get passes k ≡ Some p) × (pass_number p ≡ i)
