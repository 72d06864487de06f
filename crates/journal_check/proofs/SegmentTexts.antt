-- The text of segments, in the order in which it is read.
use Rattle.std.proofs.Common.{◌≡◌, ◌+◌, ℕ, List, [], ◌∷◌, ◌++◌, length, reverse, refl, ap, sym, ◌∙◌, arith, length-append, append_assoc, append-nil}
use Rattle.std.proofs.lemmas.List.{reverse-append, length-reverse}
use Rattle.savi_kinds.specs.declared.plan.Plan.{Plan}
use Rattle.hist_store.specs.Rows.{Row}
use Rattle.hist_store.specs.TextOfLines.{lines_text}
use Rattle.hist_store.specs.declared.version.Version.{Version}
use Rattle.hist_store.specs.LineTexts.{line_text}
use Rattle.hist_store.specs.JournalTexts.{Segment, address_text, begin_line, entry_lines, header_lines, journal_end_line, journal_end_text, journal_text_of, segment_lines, segments_lines}
use Rattle.hist_store.proofs.LineLemmas.{lines_text-append}
use Rattle.hist_store.proofs.JournalLemmas.{entries_text, entries_text-push, journal_in_parts, segment_in_parts, segments_text, segments_text-push}
use Rattle.checkpoint.specs.Bases.{Base}
use Rattle.checkpoint.specs.BaseLines.{base_lines}
use Rattle.savi_segments.specs.Segments.{base_after}
use Rattle.savi_segments.specs.Journals.{journal_segment, journal_segments}
use Rattle.journal_check.specs.Fronts.{front_lines, opening_lines}
use Rattle.journal_check.specs.Answers.{past_text}

abbrev Segments : Type 0
Segments = List (List Row)

pub behind_row : (text line rest : List ℕ) → text ++ line ++ 10 ∷ [] ++ rest ≡ text ++ (line ++ 10 ∷ rest)
behind_row text line rest = append_assoc (text ++ line) (10 ∷ []) rest ∙ append_assoc text line (10 ∷ rest)

-- texts, one behind the other
regroup : (header before opening entries rest : List ℕ) → header ++ (before ++ ((opening ++ entries) ++ rest)) ≡ ((header ++ (before ++ opening)) ++ entries) ++ rest
regroup header before opening entries rest =
    ap (λ (t : List ℕ). header ++ (before ++ t)) (append_assoc opening entries rest)
    ∙ ap (λ (t : List ℕ). header ++ t) (sym (append_assoc before opening (entries ++ rest)))
    ∙ sym (append_assoc header (before ++ opening) (entries ++ rest))
    ∙ sym (append_assoc (header ++ (before ++ opening)) entries rest)

last_moved : (header before segment last opening rest : List ℕ) → (header ++ ((before ++ (segment ++ last)) ++ opening)) ++ rest ≡ header ++ (before ++ (segment ++ (last ++ (opening ++ rest))))
last_moved header before segment last opening rest =
    append_assoc header ((before ++ (segment ++ last)) ++ opening) rest
    ∙ ap (λ (t : List ℕ). header ++ t) (append_assoc (before ++ (segment ++ last)) opening rest)
    ∙ ap (λ (t : List ℕ). header ++ t) (append_assoc before (segment ++ last) (opening ++ rest))
    ∙ ap (λ (t : List ℕ). header ++ (before ++ t)) (append_assoc segment last (opening ++ rest))

module _ (version : Version) (plan : Plan) where
  abbrev header : List ℕ
  header = lines_text (header_lines version address_text plan)

  abbrev opening : Base → List ℕ
  opening base = lines_text (opening_lines plan base)

  abbrev before_text : Segments → List ℕ
  before_text closed = segments_text (journal_segments plan closed)

  -- the front of a text
  front_parts : (closed : Segments) → lines_text (front_lines version plan closed) ≡ header ++ (before_text closed ++ opening (base_after plan closed))
  front_parts closed =
      let lines = segments_lines (journal_segments plan closed) in
      lines_text-append (header_lines version address_text plan) (lines ++ opening_lines plan (base_after plan closed))
      ∙ ap (λ (t : List ℕ). header ++ t) (lines_text-append lines (opening_lines plan (base_after plan closed)))

  reversed : (row : Row) (past : List Row) → entries_text (reverse (row ∷ past)) ≡ entries_text (reverse past) ++ (line_text (length past) row ++ 10 ∷ [])
  reversed row past =
      ap entries_text (reverse-append (row ∷ []) past) ∙ entries_text-push (reverse past) row
      ∙ ap (λ (n : ℕ). entries_text (reverse past) ++ (line_text n row ++ 10 ∷ [])) (length-reverse past)

  past_parts : (closed : Segments) (past : List Row) → past_text version plan closed past ≡ lines_text (front_lines version plan closed) ++ entries_text (reverse past)
  past_parts closed [] = sym (append-nil (lines_text (front_lines version plan closed)))
  past_parts closed (row ∷ past) =
      let front = lines_text (front_lines version plan closed) in
      let line = line_text (length past) row in
      append_assoc (past_text version plan closed past) line (10 ∷ [])
      ∙ ap (λ (t : List ℕ). t ++ (line ++ 10 ∷ [])) (past_parts closed past)
      ∙ append_assoc front (entries_text (reverse past)) (line ++ 10 ∷ [])
      ∙ ap (λ (t : List ℕ). front ++ t) (sym (reversed row past))

  -- a segment of the text
  segment_parts : (base : Base) (past : List Row) → lines_text (segment_lines (journal_segment plan base past)) ≡ (opening base ++ entries_text (reverse past)) ++ journal_end_text (length past)
  segment_parts base past =
      segment_in_parts (journal_segment plan base past)
      ∙ ap (λ (t : List ℕ). (t ++ entries_text (reverse past)) ++ journal_end_text (length (reverse past))) (sym (lines_text-append (base_lines plan base) (begin_line ∷ [])))
      ∙ ap (λ (n : ℕ). (opening base ++ entries_text (reverse past)) ++ journal_end_text n) (length-reverse past)

  -- with what comes behind it
  segment_behind : (closed : Segments) (past : List Row) (rest : List ℕ)
      → header ++ (before_text closed ++ ((opening (base_after plan closed) ++ entries_text (reverse past)) ++ rest)) ≡ past_text version plan closed past ++ rest
  segment_behind closed past rest =
      regroup header (before_text closed) (opening (base_after plan closed)) (entries_text (reverse past)) rest
      ∙ ap (λ (t : List ℕ). (t ++ entries_text (reverse past)) ++ rest) (sym (front_parts closed))
      ∙ ap (λ (t : List ℕ). t ++ rest) (sym (past_parts closed past))

  before_push : (closed : Segments) (past : List Row) → before_text (past ∷ closed) ≡ before_text closed ++ ((opening (base_after plan closed) ++ entries_text (reverse past)) ++ journal_end_text (length past))
  before_push closed past =
      segments_text-push (journal_segments plan closed) (journal_segment plan (base_after plan closed) past)
      ∙ ap (λ (t : List ℕ). before_text closed ++ t) (segment_parts (base_after plan closed) past)

  -- the front of the next segment comes behind the last line of the one before
  pub behind_opening : (closed : Segments) (past : List Row) (rest : List ℕ)
      → past_text version plan (past ∷ closed) [] ++ rest ≡ past_text version plan closed past ++ (journal_end_text (length past) ++ (opening (base_after plan (past ∷ closed)) ++ rest))
  behind_opening closed past rest =
      let next = opening (base_after plan (past ∷ closed)) in
      let own = opening (base_after plan closed) ++ entries_text (reverse past) in
      let last = journal_end_text (length past) in
      ap (λ (t : List ℕ). t ++ rest) (front_parts (past ∷ closed))
      ∙ ap (λ (t : List ℕ). (header ++ (t ++ next)) ++ rest) (before_push closed past)
      ∙ last_moved header (before_text closed) own last next rest
      ∙ segment_behind closed past (last ++ (next ++ rest))

  -- the same with nothing behind it
  pub opening_text : (closed : Segments) (past : List Row)
      → past_text version plan (past ∷ closed) [] ≡ past_text version plan closed past ++ (journal_end_text (length past) ++ opening (base_after plan (past ∷ closed)))
  opening_text closed past =
      sym (append-nil (past_text version plan (past ∷ closed) [])) ∙ behind_opening closed past []
      ∙ ap (λ (t : List ℕ). past_text version plan closed past ++ (journal_end_text (length past) ++ t)) (append-nil (opening (base_after plan (past ∷ closed))))

  -- the journal is the text of the past and the last line
  pub journal_lines : (closed : Segments) (past : List Row) → journal_text_of version address_text plan (journal_segments plan (past ∷ closed)) ≡ past_text version plan closed past ++ journal_end_text (length past)
  journal_lines closed past =
      journal_in_parts version address_text plan (journal_segments plan (past ∷ closed))
      ∙ ap (λ (t : List ℕ). header ++ t) (before_push closed past)
      ∙ segment_behind closed past (journal_end_text (length past))

-- how many lines there are

lines_push : (segments : List Segment) (segment : Segment) → length (segments_lines (segments ++ segment ∷ [])) ≡ length (segments_lines segments) + length (segment_lines segment)
lines_push [] segment = length-append (segment_lines segment) [] ∙ omega arith
lines_push (first ∷ segments) segment =
    let whole = length-append (segment_lines first) (segments_lines (segments ++ segment ∷ [])) in
    let part = length-append (segment_lines first) (segments_lines segments) in
    let rest = lines_push segments segment in
    omega (arith, whole, part, rest)

entries_count : (n : ℕ) (rows : List Row) → length (entry_lines n rows) ≡ length rows
entries_count n [] = refl
entries_count n (row ∷ rows) = let rest = entries_count (n + 1) rows in omega (arith, rest)

segment_count : (plan : Plan) (base : Base) (past : List Row) → length (segment_lines (journal_segment plan base past)) ≡ length (opening_lines plan base) + length past + 1
segment_count plan base past =
    let entries = entry_lines 0 (reverse past) in
    let last = journal_end_line (length (reverse past)) ∷ [] in
    let whole = length-append (base_lines plan base) (begin_line ∷ (entries ++ last)) in
    let front = length-append (base_lines plan base) (begin_line ∷ []) in
    let behind = length-append entries last in
    let count = entries_count 0 (reverse past) in
    let size = length-reverse past in
    omega (arith, whole, front, behind, count, size)

-- one more segment
pub front_count : (version : Version) (plan : Plan) (closed : Segments) (past : List Row)
    → length (front_lines version plan (past ∷ closed)) ≡ length (front_lines version plan closed) + length past + 1 + length (opening_lines plan (base_after plan (past ∷ closed)))
front_count version plan closed past =
    let header = header_lines version address_text plan in
    let segments = journal_segments plan closed in
    let segment = journal_segment plan (base_after plan closed) past in
    let new_lines = segments_lines (segments ++ segment ∷ []) in
    let lines = segments_lines segments in
    let new_opening = opening_lines plan (base_after plan (past ∷ closed)) in
    let opening_now = opening_lines plan (base_after plan closed) in
    let one = length-append header (new_lines ++ new_opening) in
    let two = length-append new_lines new_opening in
    let three = lines_push segments segment in
    let four = segment_count plan (base_after plan closed) past in
    let five = length-append header (lines ++ opening_now) in
    let six = length-append lines opening_now in
    omega (arith, one, two, three, four, five, six)
