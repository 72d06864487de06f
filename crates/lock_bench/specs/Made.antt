-- What the passes of a lock round a tally have made of their turns.
use Rattle.std.specs.Prelude.{◌≡◌, ◌⊎◌, ℕ, ◌*◌, ◌≤◌, List, length}
use Rattle.std.specs.List.{All}
use Rattle.table_lock.specs.Passes.{IsPassOf, lock_first, lock_seats, pass_own, pass_seen}
use Rattle.table_lock.specs.Tallies.{Tallied, tally_fixed}
use Rattle.table_lock.specs.declared.lock.TableLock.{TableLock}
use Rattle.table_lock.specs.declared.pass.Pass.{Pass}

-- how many numbers the lock's tally has room for
abbrev pub room_of : TableLock Tallied → ℕ
room_of lock = (lock_first lock).room

-- the pass is one of the lock's, and made an entry in each of so many turns or has seen the tally full
abbrev pub HasMade : TableLock Tallied → ℕ → Pass → Type 0
HasMade lock turns pass = IsPassOf tally_fixed lock pass × ((length (pass_own pass) ≡ turns) ⊎ (room_of lock ≤ length (pass_seen pass)))

-- the passes have taken as many turns each as fill the tally together
abbrev pub HaveFilled : TableLock Tallied → List Pass → Type 0
HaveFilled lock passes = (turns : ℕ) × (room_of lock ≡ lock_seats lock * turns) × All (HasMade lock turns) passes
