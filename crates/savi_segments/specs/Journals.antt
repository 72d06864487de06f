-- What a journal tells: whose it is, and that it is no other's.
use Rattle.std.specs.Prelude.{◌≡◌, ℕ, ◌≤◌, List, [], ◌∷◌, ◌++◌, length, reverse, All}
use Rattle.savi_kinds.specs.declared.plan.Plan.{Plan}
use Rattle.savi_kinds.specs.Prefixes.{first_of}
use Rattle.savi_kinds.specs.ValidPlan.{IsValidPlan, nets_of}
use Rattle.hist_store.specs.Rows.{Row}
use Rattle.hist_store.specs.JournalTexts.{Segment, StandsFor, address_text, journal_text}
use Rattle.checkpoint.specs.Bases.{Base}
use Rattle.checkpoint.specs.BaseLines.{base_lines}
use Rattle.savi_history.specs.Journals.{without_names, IsAddress}
use Rattle.savi_segments.specs.Segments.{base_after, AreLegal}

-- a segment as a journal has it: the lines of what it goes on from, and its rows, the oldest first
abbrev pub journal_segment : Plan → Base → List Row → Segment
journal_segment plan base segment = record { base_lines = base_lines plan base; rows = reverse segment }

-- the segments as a journal has them, the oldest first
abbrev pub journal_segments : Plan → List (List Row) → List Segment
journal_segments plan [] = []
journal_segments plan (segment ∷ before) = journal_segments plan before ++ journal_segment plan (base_after plan before) segment ∷ []

-- the journal of segments as it is written
abbrev pub journal_of : Plan → List (List Row) → List ℕ
journal_of plan segments = journal_text address_text plan (journal_segments plan segments)

-- The text stands for these segments, one or more, the newest first, each with its newest row first, which a switch with
-- this plan may have from its start on.
pub record IsJournalOf (address_text : ℕ → List ℕ) (plan : Plan) (segments : List (List Row)) (text : List ℕ) : Type 0 where
  pub valid : IsValidPlan plan
  pub addresses : All (λ net. IsAddress (first_of net)) (nets_of plan.prefixes)
  pub some : 1 ≤ length segments
  pub legal : AreLegal plan segments
  pub journal : StandsFor address_text plan (journal_segments plan segments) text

-- the two plans differ at most in names, and the segments are the same
pub record IsSame (plan : Plan) (segments : List (List Row)) (plan' : Plan) (segments' : List (List Row)) : Type 0 where
  pub plans : without_names plan ≡ without_names plan'
  pub rows : segments ≡ segments'

-- No text stands for two legal lists of segments, or for two plans that differ in more than names.
abbrev pub IsJournalOfOne : (ℕ → List ℕ) → Type 0
IsJournalOfOne address_text =
    (plan plan' : Plan) (segments segments' : List (List Row)) (text : List ℕ) → IsJournalOf address_text plan segments text → IsJournalOf address_text plan' segments' text
    → IsSame plan segments plan' segments'
