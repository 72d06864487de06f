-- What a replay gave to its journal, where it has one.
use Rattle.std.specs.Prelude.{◌≡◌, ◌≤◌, ℕ, Bool, false, List, [], Option, Some, None}
use Rattle.savi_kinds.specs.declared.plan.Plan.{Plan}
use Rattle.hist_store.specs.Rows.{Row}
use Rattle.journal_write.specs.declared.journal.Journal.{Journal}
use Rattle.journal_write.specs.Written.{HasText, IsSettled, WasGiven}
use Rattle.savi_segments.specs.Journals.{journal_of}

-- nothing was written yet, and there is room for the longest line
pub record IsBlank {K : Type 0} (journal : Journal K) : Type 0 where
  pub whole : journal.failed ≡ false
  pub nothing : journal.buffer.octets ≡ []
  pub room : 3401 ≤ journal.buffer.room

abbrev pub IsBlankIfAny : {K : Type 0} → Option (Journal K) → Type 0
IsBlankIfAny None = Unit {0}
IsBlankIfAny (Some journal) = IsBlank journal

-- there is room for the longest line in what waits for a journal
abbrev pub HasRoomIfAny : {K : Type 0} → Option (Journal K) → Type 0
HasRoomIfAny None = Unit {0}
HasRoomIfAny (Some journal) = 3401 ≤ journal.buffer.room

-- The journal of these segments was given to it.
pub record HasSegments {K : Type 0} (written : K → Option (List ℕ)) (faults : K → ℕ) (plan : Plan) (segments : List (List Row)) (first now : Journal K) : Type 0 where
  pub text : HasText written faults first.sink now (journal_of plan segments)
  pub room : now.buffer.room ≡ first.buffer.room

-- the same of a journal that is there before and after; or there is none
abbrev pub IsJournalled : {K : Type 0} → (K → Option (List ℕ)) → (K → ℕ) → Plan → List (List Row) → Option (Journal K) → Option (Journal K) → Type 0
IsJournalled written faults plan segments None None = Unit {0}
IsJournalled written faults plan segments (Some first) (Some now) = HasSegments written faults plan segments first now
IsJournalled written faults plan segments None (Some now) = ⊥
IsJournalled written faults plan segments (Some first) None = ⊥

-- nothing waits for its sink, unless a write failed
abbrev pub IsSettledIfAny : {K : Type 0} → Option (Journal K) → Type 0
IsSettledIfAny None = Unit {0}
IsSettledIfAny (Some journal) = IsSettled journal

-- The sink of a journal took all of it without a fault, or, where a write failed, a front of it. Without one nothing failed.
abbrev pub TookJournal : {K : Type 0} → (K → Option (List ℕ)) → (K → ℕ) → Plan → List (List Row) → Bool → Option K → Option K → Type 0
TookJournal written faults plan segments failed (Some old) (Some new) = WasGiven written faults old new [] failed (journal_of plan segments)
TookJournal written faults plan segments failed None None = failed ≡ false
TookJournal written faults plan segments failed (Some old) None = ⊥
TookJournal written faults plan segments failed None (Some new) = ⊥

-- the sink of a journal, and whether a write of it failed; or there is none
abbrev pub GivesSink : {K : Type 0} → Option (Journal K) → Option K → Bool → Type 0
GivesSink (Some journal) (Some sink) failed = (sink ≡ journal.sink) × (failed ≡ journal.failed)
GivesSink None None failed = failed ≡ false
GivesSink (Some journal) None failed = ⊥
GivesSink None (Some sink) failed = ⊥
