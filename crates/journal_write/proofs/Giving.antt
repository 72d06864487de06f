-- What a journal's sink took, behind one piece more or once all that waits is written.
use Rattle.std.proofs.Common.{◌≡◌, ℕ, true, false, List, [], ◌∷◌, ◌++◌, length, reverse, refl, sym, ap, subst, ◌∙◌, Option}
use Rattle.std.proofs.lemmas.List.{append_assoc, append-nil}
use Rattle.savi_kinds.specs.declared.plan.Plan.{Plan}
use Rattle.savi_ends.specs.declared.sink.Put.TheVariants as put
use Rattle.savi_ends.specs.Faults.{Rose}
use Rattle.savi_ends.specs.Writes.{Extends}
use Rattle.hist_store.specs.declared.version.Version.TheVariants.{Two}
use Rattle.hist_store.specs.Rows.{Row}
use Rattle.hist_store.specs.TextOfLines.{lines_text}
use Rattle.hist_store.specs.JournalTexts.{address_text, header_lines, segment_lines, entry_lines, journal_begin_text, journal_end_text, journal_header_text, journal_text}
use Rattle.hist_store.proofs.JournalLemmas.{journal_in_parts, segment_in_parts, segments_text, segments_text-push}
use Rattle.checkpoint.specs.Bases.{Base}
use Rattle.checkpoint.specs.BaseLines.{base_lines}
use Rattle.savi_segments.specs.Segments.{base_after}
use Rattle.savi_segments.specs.Journals.{journal_segment, journal_segments, journal_of}
use Rattle.journal_write.specs.Buffers.{Holds}
use Rattle.journal_write.specs.Written.{WasGiven}
use Rattle.journal_write.proofs.Fronts.{part-more, extends-held}
use Rattle.journal_write.proofs.Pieces.{holds-more, holds-written}

module _ {K : Type 0} (written : K → Option (List ℕ)) (faults : K → ℕ) (first : K) where
  -- behind a failed write nothing more is taken
  pub given_up : (now : K) (waits text piece : List ℕ) → WasGiven written faults first now waits true text → WasGiven written faults first now waits true (text ++ piece)
  given_up now waits text piece was = (part-more (written first) (written now) text piece was.0, was.1)

  pub given_more : (old new : K) (waits waits' text piece : List ℕ) → WasGiven written faults first old waits false text
      → Holds (written old) (written new) waits' (waits ++ piece) → faults new ≡ faults old → WasGiven written faults first new waits' false (text ++ piece)
  given_more old new waits waits' text piece was held still = (holds-more (written first) (written old) (written new) waits waits' text piece was.0 held, still ∙ was.1)

  -- a write of what waits failed
  pub given_part : (old new : K) (waits waits' text : List ℕ) → WasGiven written faults first old waits false text
      → Extends put.Failed (written old) (written new) waits → Rose (faults old) (faults new) → WasGiven written faults first new waits' true text
  given_part old new waits waits' text was part rose =
      (extends-held put.Failed (written first) (written old) (written new) waits text was.0 part, subst (λ (n : ℕ). Rose n (faults new)) was.1 rose)

  -- all that waited is written
  pub given_whole : (old new : K) (waits text : List ℕ) → WasGiven written faults first old waits false text
      → Extends put.Done (written old) (written new) waits → faults new ≡ faults old → WasGiven written faults first new [] false text
  given_whole old new waits text was wrote still =
      (holds-written (written first) (written new) text (extends-held put.Done (written first) (written old) (written new) waits text was.0 wrote), still ∙ was.1)

-- the journal without a segment is its header
pub header_alone : (plan : Plan) → [] ++ journal_header_text address_text plan ≡ journal_of plan []
header_alone plan = ap lines_text (sym (append-nil (header_lines Two address_text plan)))

-- the journal of these segments and one more, that goes on from a base
abbrev with_segment : Plan → List (List Row) → List Row → Base → List ℕ
with_segment plan before past base = journal_text address_text plan (journal_segments plan before ++ journal_segment plan base past ∷ [])

joined_four : (a b c d e : List ℕ) → ((a ++ b) ++ c) ++ d ++ e ≡ a ++ (b ++ c ++ d ++ e)
joined_four a b c d e = simp append_assoc refl

-- one more segment, in the parts in which it is put
pub one_more : (plan : Plan) (base : Base) (before : List (List Row)) (past rows : List Row) (begin end : List ℕ) → base ≡ base_after plan before → rows ≡ reverse past → begin ≡ journal_begin_text → end ≡ journal_end_text (length rows)
    → ((journal_of plan before ++ lines_text (base_lines plan base)) ++ begin) ++ lines_text (entry_lines 0 rows) ++ end ≡ journal_of plan (past ∷ before)
one_more plan base before past rows begin end base_is rows_is begin_is end_is =
    let segments = journal_segments plan before in
    let segment = journal_segment plan base past in
    let bases : List ℕ = lines_text (base_lines plan base) in
    let entries : List ℕ = lines_text (entry_lines 0 rows) in
    let parts : lines_text (segment_lines segment) ≡ bases ++ begin ++ entries ++ end =
    segment_in_parts segment
    ∙ ap (λ (l : List Row). bases ++ journal_begin_text ++ lines_text (entry_lines 0 l) ++ journal_end_text (length l)) (sym rows_is)
    ∙ ap (λ (t : List ℕ). bases ++ t ++ entries ++ journal_end_text (length rows)) (sym begin_is)
    ∙ ap (λ (t : List ℕ). bases ++ begin ++ entries ++ t) (sym end_is) in
    let texts : journal_of plan (past ∷ before) ≡ journal_of plan before ++ lines_text (segment_lines segment) =
    ap (λ (b : Base). with_segment plan before past b) (sym base_is)
    ∙ journal_in_parts Two address_text plan (segments ++ segment ∷ [])
    ∙ ap (λ (t : List ℕ). lines_text (header_lines Two address_text plan) ++ t) (segments_text-push segments segment)
    ∙ sym (append_assoc (lines_text (header_lines Two address_text plan)) (segments_text segments) (lines_text (segment_lines segment)))
    ∙ ap (λ (t : List ℕ). t ++ lines_text (segment_lines segment)) (sym (journal_in_parts Two address_text plan segments)) in
    joined_four (journal_of plan before) bases begin entries end ∙ ap (λ (t : List ℕ). journal_of plan before ++ t) (sym parts) ∙ sym texts
