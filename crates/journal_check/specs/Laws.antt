-- What the answers of a check come to.
use Rattle.std.specs.Prelude.{◌≡◌, ◌≤◌, ◌^◌, ℕ, List, [], ◌∷◌, length}
use Rattle.savi_kinds.specs.declared.plan.Plan.{Plan}
use Rattle.savi_kinds.specs.MacText.{HasSixOctets}
use Rattle.savi_kinds.specs.ValidPlan.{IsValidPlan}
use Rattle.hist_store.specs.Rows.{Row}
use Rattle.hist_store.specs.LineTexts.{line_text}
use Rattle.hist_store.specs.EntryLines.{SaysEntry, row_said}
use Rattle.hist_store.specs.JournalTexts.{address_text}
use Rattle.checkpoint.specs.Bases.{Base}
use Rattle.savi_history.specs.Limits.{IsWithinLimits}
use Rattle.savi_history.specs.Legal.{IsLegal}
use Rattle.savi_history.specs.Journals.{without_names}
use Rattle.savi_segments.specs.Segments.{AreOctets, IsWholeSession, joined}
use Rattle.savi_segments.specs.Journals.{IsJournalOf}
use Rattle.journal_check.specs.declared.answer.Checked.{Checked}
use Rattle.journal_check.specs.declared.answer.Checked.TheVariants.{Good}
use Rattle.journal_check.specs.Headers.{IsPlan}
use Rattle.journal_check.specs.Answers.{IsAnswer, IsAnswerBehind, IsBadHeader}

-- no octets have two answers
abbrev pub HasOneAnswer : Type 0
HasOneAnswer = (octets : List ℕ) (a b : Checked) → IsAnswer octets a → IsAnswer octets b → a ≡ b

-- Octets with an answer behind a header have no bad header, and their header and the history in front of the rest are the
-- same, whichever way they are read.
abbrev pub HasOneHistory : Type 0
HasOneHistory =
    (octets : List ℕ) (a b : Checked) (is : IsAnswerBehind octets a)
    → (IsBadHeader octets b → ⊥)
    × ((other : IsAnswerBehind octets b) → (is.version ≡ other.version) × (is.plan ≡ other.plan) × (is.closed ≡ other.closed) × (is.past ≡ other.past))

-- the octets stand for the segments of a whole session, from its start to its end, with so many entries in all
pub record IsFinishedJournal (octets : List ℕ) (entries : ℕ) : Type 0 where
  pub plan : Plan
  pub segments : List (List Row)
  pub plan_is : IsPlan plan
  pub journal : IsJournalOf address_text plan segments octets
  pub session : IsWholeSession plan segments
  pub count : entries ≡ length (joined segments)
  pub within : length octets ≤ 2 ^ 62

-- each row is all in its line, but for the place where its octets are kept: its numbers fit their fields
abbrev pub AreSaid : List Row → Type 0
AreSaid [] = Unit {0}
AreSaid (row ∷ past) = SaysEntry (line_text (length past) row) (length past) (row_said row) × AreSaid past

-- each number of a legal history fits its field: no journal says less than its history
abbrev pub LegalIsSaid : Type 0
LegalIsSaid = (plan : Plan) (base : Base) (past : List Row) → IsValidPlan plan → IsWithinLimits plan base → IsLegal plan base past → AreOctets past → AreSaid past

-- what is good is a journal of a whole session, and each such journal is good
abbrev pub GoodIsJournal : Type 0
GoodIsJournal = (octets : List ℕ) (entries : ℕ) → IsAnswer octets (Good entries) → IsFinishedJournal octets entries

abbrev pub JournalIsGood : Type 0
JournalIsGood = (octets : List ℕ) (entries : ℕ) → IsFinishedJournal octets entries → IsAnswer octets (Good entries)

-- The names of a plan stand in no journal, and no history depends on them: what is the journal of a plan is that of the plan
-- without its names.
abbrev pub JournalsLackNames : Type 0
JournalsLackNames =
    (plan : Plan) (segments : List (List Row)) (octets : List ℕ) → IsJournalOf address_text plan segments octets → IsJournalOf address_text (without_names plan) segments octets

-- the journal that is written of a whole session is good, whatever the names of its plan
abbrev pub WrittenIsGood : Type 0
WrittenIsGood =
    (plan : Plan) (segments : List (List Row)) (octets : List ℕ) → HasSixOctets plan.mac → IsJournalOf address_text plan segments octets → IsWholeSession plan segments
    → length octets ≤ 2 ^ 62 → IsAnswer octets (Good (length (joined segments)))
