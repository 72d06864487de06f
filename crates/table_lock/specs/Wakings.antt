-- The wakes at a lock. Only the call that wakes makes such a value.
use Rattle.std.specs.Prelude.{ℕ}
use Rattle.table_lock.specs.Entries.{EntryList}
use Rattle.table_lock.specs.Passes.{pass_seen}
use Rattle.table_lock.specs.declared.lock.sleeping.Woken.{Woken}

-- the place whose sleeper was woken
abbrev pub woken_place : Woken → ℕ
woken_place woken = woken.place

-- the history as the pass had seen it that woke
abbrev pub woken_seen : Woken → EntryList
woken_seen woken = pass_seen woken.by.value
