-- What the sink of a journal took while it is written.
use Rattle.std.specs.Prelude.{◌≡◌, ℕ, Bool, true, false, List, [], Option}
use Rattle.savi_ends.specs.declared.sink.Put.TheVariants as put
use Rattle.savi_ends.specs.Faults.{Rose}
use Rattle.savi_ends.specs.Writes.{Extends}
use Rattle.journal_write.specs.declared.journal.Journal.{Journal}
use Rattle.journal_write.specs.Buffers.{Holds}

-- A sink that was `first` was given this text: it took a front of it without a fault, and the rest waits; or a write failed, and
-- it took a front of it.
abbrev pub WasGiven : {K : Type 0} → (K → Option (List ℕ)) → (K → ℕ) → K → K → List ℕ → Bool → List ℕ → Type 0
WasGiven written faults first now waits false text = Holds (written first) (written now) waits text × (faults now ≡ faults first)
WasGiven written faults first now waits true text = Extends put.Failed (written first) (written now) text × Rose (faults first) (faults now)

-- the same of the sink of a journal
abbrev pub HasText : {K : Type 0} → (K → Option (List ℕ)) → (K → ℕ) → K → Journal K → List ℕ → Type 0
HasText written faults first journal text = WasGiven written faults first journal.sink journal.buffer.octets journal.failed text

-- nothing waits, unless a write failed
abbrev pub IsSettled : {K : Type 0} → Journal K → Type 0
IsSettled journal = journal.failed ≡ false → journal.buffer.octets ≡ []
