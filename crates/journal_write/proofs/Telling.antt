-- What is kept of one more history.
use Rattle.std.proofs.Common.{◌≡◌, ℕ, ◌+◌, ◌<◌, ◌≤◌, List, [], ◌∷◌, ◌++◌, drop, length, length-append, reverse, take, refl, sym, ap, ◌∙◌, subst, arith, All, Option, Some, None, IsSomeAnd, slice_get}
use Rattle.std.proofs.lemmas.List.{append_assoc, reverse-append, take-append-drop, take_more}
use Rattle.std.proofs.lemmas.List.Elements.{All-append, All-cons, All-head, All-nil, All-tail}
use Rattle.std.proofs.lemmas.Option.{get_or_from_slice_get, slice_get_within}
use Rattle.hex.specs.Hex.{IsBytes}
use Rattle.savi_kinds.specs.declared.entry.Entry.{Entry}
use Rattle.savi_kinds.specs.declared.entry.Who.{Who}
use Rattle.savi_kinds.specs.declared.entry.How.{How}
use Rattle.hist_store.specs.Rows.{Row}
use Rattle.savi_history.specs.Endings.{end_told, ends_told}
use Rattle.savi_history.specs.Summary.{capped}
use Rattle.savi_segments.specs.Segments.{AreOctets, joined}
use Rattle.journal_write.specs.Told.{TellsOf}
use Rattle.journal_write.proofs.FewEnds.{told_both}

-- the row of an entry that was read
row_of_entry : (o : Option Row) (e : Entry) → IsSomeAnd o (λ row. row.entry ≡ e) → (row : Row) × (o ≡ Some row) × (row.entry ≡ e)
row_of_entry None e is = absurd is
row_of_entry (Some row) e is = (row, refl, is)

-- the ends of the first rows, the oldest first
abbrev pub ends_first : List Row → ℕ → List (Who × How)
ends_first rows n = ends_told (reverse (take n rows))

pub ends_next : (rows : List Row) (n : ℕ) (e : Entry) → IsSomeAnd (slice_get rows n) (λ row. row.entry ≡ e) → ends_first rows (n + 1) ≡ ends_first rows n ++ end_told e.act
ends_next rows n e is =
    let row = row_of_entry (slice_get rows n) e is in
    let within : n < length rows = slice_get_within rows n row.0 row.1 in
    let more : take (n + 1) rows ≡ take n rows ++ row.0 ∷ [] = take_more rows n row.0 within ∙ ap (λ r. take n rows ++ r ∷ []) (get_or_from_slice_get rows n row.0 row.0 row.1) in
    ap (λ (l : List Row). ends_told (reverse l)) more
    ∙ ap (λ (l : List Row). ends_told l) (reverse-append (take n rows) (row.0 ∷ []))
    ∙ ap (λ (x : Entry). ends_first rows n ++ end_told x.act) row.2

-- they are some of those of all rows
ends_within : (rows : List Row) (n : ℕ) → length (ends_first rows n) ≤ length (ends_told (reverse rows))
ends_within rows n =
    let parts : reverse rows ≡ reverse (drop n rows) ++ reverse (take n rows) = ap (λ (l : List Row). reverse l) (sym (take-append-drop n rows)) ∙ reverse-append (take n rows) (drop n rows) in
    let ends : ends_told (reverse rows) ≡ ends_first rows n ++ ends_told (reverse (drop n rows)) = ap (λ (l : List Row). ends_told l) parts ∙ told_both (reverse (drop n rows)) (reverse (take n rows)) in
    let size = ap (λ (l : List (Who × How)). length l) ends ∙ length-append (ends_first rows n) (ends_told (reverse (drop n rows))) in
    omega (arith, size)

-- so there is room for one more
pub few_next : (rows : List Row) (n : ℕ) (e : Entry) (told : List (Who × How)) → IsSomeAnd (slice_get rows n) (λ row. row.entry ≡ e) → length told + length (ends_told (reverse rows)) ≤ 34
    → length (told ++ ends_first rows n) + length (end_told e.act) ≤ 34
few_next rows n e told is few =
    let size = length-append told (ends_first rows n) in
    let next = ap (λ (l : List (Who × How)). length l) (ends_next rows n e is) ∙ length-append (ends_first rows n) (end_told e.act) in
    let within = ends_within rows (n + 1) in
    omega (arith, size, next, within, few)

pub told_next : (rows : List Row) (n : ℕ) (e : Entry) (told : List (Who × How)) → IsSomeAnd (slice_get rows n) (λ row. row.entry ≡ e) → (told ++ ends_first rows n) ++ end_told e.act ≡ told ++ ends_first rows (n + 1)
told_next rows n e told is =
    append_assoc told (ends_first rows n) (end_told e.act) ∙ ap (λ (l : List (Who × How)). told ++ l) (sym (ends_next rows n e is))

-- rows of octets are so in each order
pub octets_reversed : (rows : List Row) → All (λ r. IsBytes r.octets) rows → AreOctets (reverse rows)
octets_reversed [] all = All-nil (λ (r : Row). IsBytes r.octets)
octets_reversed (r ∷ rows) all =
    let P : Row → Type 0 = λ r. IsBytes r.octets in
    subst (λ (l : List Row). AreOctets l) (sym (reverse-append (r ∷ []) rows))
    (All-append P (reverse rows) (r ∷ []) (octets_reversed rows (All-tail P r rows all)) (All-cons P r [] (All-head P r rows all) (All-nil P)))

-- a closed segment is told behind those before it
pub tells_more : (entries now : ℕ) (ends ends_now : List (Who × How)) (before : List (List Row)) (rows past : List Row) → reverse rows ≡ past → length rows ≡ length past
    → now ≡ capped (entries + length rows) → ends_now ≡ ends ++ ends_told (reverse rows) → TellsOf entries ends before → TellsOf now ends_now (past ∷ before)
tells_more entries now ends ends_now before rows past rows_are size now_is ends_are tells =
    let count = length-append past (joined before) in
    let was = tells.entries_are in
    record {
      entries_are = omega (arith, size, now_is, was, count);
      ends_are = ends_are
          ∙ ap (λ (l : List (Who × How)). l ++ ends_told (reverse rows)) tells.ends_are
          ∙ ap (λ (l : List Row). ends_told (joined before) ++ ends_told l) rows_are
          ∙ sym (told_both past (joined before));
    }
