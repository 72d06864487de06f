-- The journal in the order in which it is written: the header, and the segments; of a segment what it goes on from, `begin`,
-- line by line the entries, and the last line. And in the order in which it is read: where a segment ends.
use Rattle.std.proofs.Common.{ℕ, ◌≡◌, ◌⊎◌, inl, inr, ◌+◌, ◌<◌, List, [], ◌∷◌, ◌++◌, length, take, codes, refl, sym, ap, ◌∙◌, arith, zero-add, append_assoc, All, slice_get, Some}
use Rattle.std.proofs.lemmas.List.{append-nil, take_more, length-take-le}
use Rattle.std.proofs.lemmas.Option.{get_or_from_slice_get, slice_get_within}
use Rattle.hex.specs.Hex.{IsBytes}
use Rattle.savi_kinds.specs.declared.plan.Plan.{Plan}
use Rattle.savi_kinds.specs.Characters.{line_feed}
use Rattle.hist_store.specs.declared.version.Version.{Version}
use Rattle.hist_store.specs.Rows.{Row}
use Rattle.hist_store.specs.TextOfLines.{joined, lines_text}
use Rattle.hist_store.specs.LineTexts.{line_fields, line_text}
use Rattle.hist_store.specs.JournalTexts.{Segment, begin_line, header_lines, entry_lines, journal_end_line, segment_lines, segments_lines, journal_begin_text, journal_end_text, journal_text_of}
use Rattle.hist_store.proofs.LineLemmas.{lines_text-append}
use Rattle.hist_store.proofs.Words.{IsLines, joined_avoids, joined_same, lines_append, parted, word_of, word_decimal}
use Rattle.hist_store.proofs.FieldWords.{lines_rows}

-- the first segment goes on from nothing
abbrev pub first_segment : List Row → Segment
first_segment rows = record { base_lines = []; rows = rows }

abbrev Lines : Type 0
Lines = List (List (List ℕ))

-- the text of the entries' lines
abbrev pub entries_text : List Row → List ℕ
entries_text rows = lines_text (entry_lines 0 rows)

-- the text of the lines of segments
abbrev pub segments_text : List Segment → List ℕ
segments_text segments = lines_text (segments_lines segments)

-- how it is written

pub journal_in_parts : (version : Version) (text_of : ℕ → List ℕ) (plan : Plan) (segments : List Segment) → journal_text_of version text_of plan segments ≡ lines_text (header_lines version text_of plan) ++ segments_text segments
journal_in_parts version text_of plan segments = lines_text-append (header_lines version text_of plan) (segments_lines segments)

pub segment_in_parts : (segment : Segment) → lines_text (segment_lines segment) ≡ lines_text segment.base_lines ++ journal_begin_text ++ entries_text segment.rows ++ journal_end_text (length segment.rows)
segment_in_parts segment =
    let base = segment.base_lines in
    let entries = entry_lines 0 segment.rows in
    let last = journal_end_line (length segment.rows) ∷ [] in
    lines_text-append base (begin_line ∷ (entries ++ last))
    ∙ ap (λ (t : List ℕ). lines_text base ++ (journal_begin_text ++ t)) (lines_text-append entries last)
    ∙ sym (append_assoc (lines_text base) journal_begin_text (lines_text entries ++ lines_text last))
    ∙ sym (append_assoc (lines_text base ++ journal_begin_text) (lines_text entries) (lines_text last))

segments_lines-push : (segments : List Segment) (segment : Segment) → segments_lines (segments ++ segment ∷ []) ≡ segments_lines segments ++ segment_lines segment
segments_lines-push [] segment = append-nil (segment_lines segment)
segments_lines-push (first ∷ segments) segment =
    ap (λ (lines : Lines). segment_lines first ++ lines) (segments_lines-push segments segment)
    ∙ sym (append_assoc (segment_lines first) (segments_lines segments) (segment_lines segment))

-- one more segment is written behind the others
pub segments_text-push : (segments : List Segment) (segment : Segment) → segments_text (segments ++ segment ∷ []) ≡ segments_text segments ++ lines_text (segment_lines segment)
segments_text-push segments segment = ap lines_text (segments_lines-push segments segment) ∙ lines_text-append (segments_lines segments) (segment_lines segment)

entry_lines-push : (n : ℕ) (rows : List Row) (row : Row) → entry_lines n (rows ++ row ∷ []) ≡ entry_lines n rows ++ line_fields (n + length rows) row ∷ []
entry_lines-push n [] row = ap (λ k. line_fields k row ∷ []) (omega arith)
entry_lines-push n (first ∷ rows) row =
    let number : n + 1 + length rows ≡ n + length (first ∷ rows) = omega arith in
    ap (λ lines. line_fields n first ∷ lines) (entry_lines-push (n + 1) rows row ∙ ap (λ k. entry_lines (n + 1) rows ++ line_fields k row ∷ []) number)

-- one more row is one more line, with the number of the rows before it
pub entries_text-push : (rows : List Row) (row : Row) → entries_text (rows ++ row ∷ []) ≡ entries_text rows ++ (line_text (length rows) row ++ line_feed ∷ [])
entries_text-push rows row =
    ap lines_text (entry_lines-push 0 rows row) ∙ lines_text-append (entry_lines 0 rows) (line_fields (0 + length rows) row ∷ [])
    ∙ ap (λ n. entries_text rows ++ lines_text (line_fields n row ∷ [])) (zero-add (length rows))

-- the same of the front of a history, where its next row is written
pub entries_text-take_more : (rows : List Row) (n : ℕ) (row : Row) → slice_get rows n ≡ Some row → entries_text (take (n + 1) rows) ≡ entries_text (take n rows) ++ (line_text n row ++ line_feed ∷ [])
entries_text-take_more rows n row at =
    let within : n < length rows = slice_get_within rows n row at in
    let front : length (take n rows) ≡ n = length-take-le n rows (omega (arith, within)) in
    let more : take (n + 1) rows ≡ take n rows ++ row ∷ [] = take_more rows n row within ∙ ap (λ r. take n rows ++ r ∷ []) (get_or_from_slice_get rows n row row at) in
    ap entries_text more ∙ entries_text-push (take n rows) row ∙ ap (λ k. entries_text (take n rows) ++ (line_text k row ++ line_feed ∷ [])) front

-- how it is read

-- the lines of a segment are lines, if those of what it goes on from are
pub lines_segment : (segment : Segment) → IsLines segment.base_lines → All (λ r. IsBytes r.octets) segment.rows → IsLines (segment_lines segment)
lines_segment segment base rows =
    let entries = entry_lines 0 segment.rows in
    let count = length segment.rows in
    let last : IsLines (journal_end_line count ∷ []) = ((word_of (codes "end") refl, (word_decimal count, tt)), tt) in
    lines_append segment.base_lines (begin_line ∷ (entries ++ journal_end_line count ∷ [])) base
    ((word_of (codes "begin") refl, tt), lines_append entries (journal_end_line count ∷ []) (lines_rows 0 segment.rows rows) last)

-- the first line of two fields ends the entries, whatever stands behind it
entries_cut : (n : ℕ) (rows others : List Row) (count counted : ℕ) (rest more : Lines) → entry_lines n rows ++ journal_end_line count ∷ rest ≡ entry_lines n others ++ journal_end_line counted ∷ more
    → (entry_lines n rows ≡ entry_lines n others) × (rest ≡ more)
entries_cut n [] [] count counted rest more e = let tails : rest ≡ more = cc in (refl, tails)
entries_cut n [] (other ∷ others) count counted rest more e = let bad : journal_end_line count ≡ line_fields n other = cc in absurd (cc bad)
entries_cut n (row ∷ rows) [] count counted rest more e = let bad : line_fields n row ≡ journal_end_line counted = cc in absurd (cc bad)
entries_cut n (row ∷ rows) (other ∷ others) count counted rest more e =
    let first : line_fields n row ≡ line_fields n other = cc in
    let tails : entry_lines (n + 1) rows ++ journal_end_line count ∷ rest ≡ entry_lines (n + 1) others ++ journal_end_line counted ∷ more = cc in
    let parts = entries_cut (n + 1) rows others count counted rest more tails in
    let lines : entry_lines n (row ∷ rows) ≡ entry_lines n (other ∷ others) = cc (first, parts.0) in
    (lines, parts.1)

base_cut : (base lines more : Lines) → base ++ lines ≡ base ++ more → lines ≡ more
base_cut [] lines more e = e
base_cut (line ∷ base) lines more e = let tails : base ++ lines ≡ base ++ more = cc in base_cut base lines more tails

-- two segments that go on from the same have the same lines where the same lines begin with each, and so has what stands
-- behind them
pub segment_cut : (base : Lines) (rows others : List Row) (rest more : Lines) → segment_lines (record { base_lines = base; rows = rows }) ++ rest ≡ segment_lines (record { base_lines = base; rows = others }) ++ more
    → (entry_lines 0 rows ≡ entry_lines 0 others) × (rest ≡ more)
segment_cut base rows others rest more e =
    let left : Lines = entry_lines 0 rows ++ journal_end_line (length rows) ∷ [] in
    let right : Lines = entry_lines 0 others ++ journal_end_line (length others) ∷ [] in
    let behind : begin_line ∷ (left ++ rest) ≡ begin_line ∷ (right ++ more) =
    base_cut base (begin_line ∷ (left ++ rest)) (begin_line ∷ (right ++ more)) (sym (append_assoc base (begin_line ∷ left) rest) ∙ e ∙ append_assoc base (begin_line ∷ right) more) in
    let tails : left ++ rest ≡ right ++ more = cc in
    entries_cut 0 rows others (length rows) (length others) rest more
    (sym (append_assoc (entry_lines 0 rows) (journal_end_line (length rows) ∷ []) rest) ∙ tails ∙ append_assoc (entry_lines 0 others) (journal_end_line (length others) ∷ []) more)

-- Two texts that begin with lines each, and are the same: the lines of one begin those of the other, and the rest of the text
-- stands behind.
pub record IsFrontOf (lines others : Lines) (behind past : List ℕ) : Type 0 where
  pub more : Lines
  pub longer : others ≡ lines ++ more
  pub rest : behind ≡ lines_text more ++ past

longer_by : (line other : List (List ℕ)) (lines others : Lines) (behind past : List ℕ) → line ≡ other → IsFrontOf lines others behind past → IsFrontOf (line ∷ lines) (other ∷ others) behind past
longer_by line other lines others behind past same front = record {
  more = front.more;
  longer = ap (λ (l : List (List ℕ)). l ∷ others) (sym same) ∙ ap (λ (ls : Lines). line ∷ ls) front.longer;
  rest = front.rest;
}

either_by : (line other : List (List ℕ)) (lines others : Lines) (behind past : List ℕ) → line ≡ other → IsFrontOf lines others behind past ⊎ IsFrontOf others lines past behind
    → IsFrontOf (line ∷ lines) (other ∷ others) behind past ⊎ IsFrontOf (other ∷ others) (line ∷ lines) past behind
either_by line other lines others behind past same (inl front) = inl (longer_by line other lines others behind past same front)
either_by line other lines others behind past same (inr front) = inr (longer_by other line others lines past behind (sym same) front)

pub lines_either : (lines others : Lines) (behind past : List ℕ) → IsLines lines → IsLines others → lines_text lines ++ behind ≡ lines_text others ++ past
    → IsFrontOf lines others behind past ⊎ IsFrontOf others lines past behind
lines_either [] others behind past is are e = inl (record { more = others; longer = refl; rest = e })
lines_either (line ∷ lines) [] behind past is are e = inr (record { more = line ∷ lines; longer = refl; rest = sym e })
lines_either (line ∷ lines) (other ∷ others) behind past is are e =
    let parts = parted 10 (joined line) (joined other) (lines_text lines ++ behind) (lines_text others ++ past) (joined_avoids line is.0) (joined_avoids other are.0)
    (sym (append_assoc (joined line) (10 ∷ lines_text lines) behind) ∙ e ∙ append_assoc (joined other) (10 ∷ lines_text others) past) in
    either_by line other lines others behind past (joined_same line other is.0 are.0 parts.0) (lines_either lines others behind past is.1 are.1 parts.1)

-- the lines of a segment behind those of what it goes on from, and what stands behind them, are told apart from one another
entries_either : (rows others : List Row) (behind past : List ℕ)
    → IsFrontOf (segment_lines (first_segment rows)) (segment_lines (first_segment others)) behind past ⊎ IsFrontOf (segment_lines (first_segment others)) (segment_lines (first_segment rows)) past behind
    → (entry_lines 0 rows ≡ entry_lines 0 others) × (behind ≡ past)
entries_either rows others behind past (inl front) =
    let cut = segment_cut [] rows others front.more [] (sym front.longer ∙ sym (append-nil (segment_lines (first_segment others)))) in
    (cut.0, front.rest ∙ ap (λ (ls : Lines). lines_text ls ++ past) cut.1)
entries_either rows others behind past (inr front) =
    let cut = segment_cut [] rows others [] front.more (append-nil (segment_lines (first_segment rows)) ∙ front.longer) in
    (cut.0, sym (front.rest ∙ ap (λ (ls : Lines). lines_text ls ++ behind) (sym cut.1)))

pub entries_apart : (rows others : List Row) (behind past : List ℕ) → All (λ r. IsBytes r.octets) rows → All (λ r. IsBytes r.octets) others
    → lines_text (segment_lines (first_segment rows)) ++ behind ≡ lines_text (segment_lines (first_segment others)) ++ past → (entry_lines 0 rows ≡ entry_lines 0 others) × (behind ≡ past)
entries_apart rows others behind past bytes bytes' e =
    entries_either rows others behind past
    (lines_either (segment_lines (first_segment rows)) (segment_lines (first_segment others)) behind past
    (lines_segment (first_segment rows) tt bytes) (lines_segment (first_segment others) tt bytes') e)
