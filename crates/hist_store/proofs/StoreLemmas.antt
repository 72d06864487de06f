-- One more row behind those of a store, and the octets of its rows.
use Rattle.std.proofs.Common.{ℕ, zero, suc, ◌≡◌, ◌+◌, ◌≤◌, List, [], ◌∷◌, ◌++◌, length, map, take, drop, slice_index_or, All, refl, sym, ap, ◌∙◌, arith, zero-add, add_assoc, length-append, length-drop}
use Rattle.std.proofs.lemmas.List.{map-append, drop-append-le, take-append-le, drop_at, take_all, get_or-drop}
use Rattle.std.proofs.lemmas.List.Elements.{All-append, All-cons, All-head, All-map, All-nil, All-tail}
use Rattle.hex.specs.Hex.{IsBytes}
use Rattle.savi_kinds.specs.declared.entry.Entry.{Entry}
use Rattle.savi_kinds.specs.declared.entry.Act.{Act}
use Rattle.savi_kinds.specs.declared.entry.Act.TheVariants.{Frame, Long, Tick, Command, Drain, End}
use Rattle.hist_store.specs.Rows.{Row, held, KeepsOctets}
use Rattle.hist_store.specs.StoredRows.{at_of, kept_of, entry_row, IsStore}

-- the octets of a range are the same in a longer store
range_kept : (s m : List ℕ) (at len : ℕ) → at + len ≤ length s → take len (drop at (s ++ m)) ≡ take len (drop at s)
range_kept s m at len within =
    let at_in : at ≤ length s = omega (arith, within) in
    let len_in : len ≤ length (drop at s) = rw (length-drop at s) (omega (arith, within)) in
    ap (take len) (drop-append-le at s m at_in) ∙ take-append-le len (drop at s) m len_in

-- what is put behind a store lies at its end
range_added : (s m : List ℕ) (at len : ℕ) → at ≡ length s → len ≡ length m → take len (drop at (s ++ m)) ≡ m
range_added s m at len first size =
    let from : length s ≡ at = sym first in
    let all : length m ≤ len = omega (arith, size) in
    ap (take len) (drop_at s m at from) ∙ take_all len m all

octets_placed : (s m : List ℕ) (act : Act) → KeepsOctets act (length s) m → take (kept_of act) (drop (at_of act) (s ++ m)) ≡ m
octets_placed s m (Frame port stamp at len) placed = range_added s m at len placed.0 placed.1
octets_placed s m (Command stamp at len) placed = range_added s m at len placed.0 placed.1
octets_placed s m (Long port stamp len) placed = sym placed
octets_placed s m (Tick stamp) placed = sym placed
octets_placed s m (Drain port count) placed = sym placed
octets_placed s m (End who how) placed = sym placed

within_placed : (s m : List ℕ) (act : Act) → KeepsOctets act (length s) m → at_of act + kept_of act ≤ length (s ++ m)
within_placed s m (Frame port stamp at len) placed = rw (length-append s m) (omega (arith, placed.0, placed.1))
within_placed s m (Command stamp at len) placed = rw (length-append s m) (omega (arith, placed.0, placed.1))
within_placed s m (Long port stamp len) placed = omega arith
within_placed s m (Tick stamp) placed = omega arith
within_placed s m (Drain port count) placed = omega arith
within_placed s m (End who how) placed = omega arith

abbrev IsWithin : List ℕ → Entry → Type 0
IsWithin s entry = at_of entry.act + kept_of entry.act ≤ length s

rows_kept : (s m : List ℕ) (es : List Entry) → All (IsWithin s) es → map (entry_row (s ++ m)) es ≡ map (entry_row s) es
rows_kept s m [] within = refl
rows_kept s m (e ∷ es) within =
    let row_is : Row → List Row = λ row. row ∷ map (entry_row (s ++ m)) es in
    let octets_are : List ℕ → Row = λ octets. record { entry = e; octets = octets } in
    ap (λ octets. row_is (octets_are octets)) (range_kept s m (at_of e.act) (kept_of e.act) (All-head (IsWithin s) e es within))
    ∙ ap (λ rows. entry_row s e ∷ rows) (rows_kept s m es (All-tail (IsWithin s) e es within))

-- the rows with one more behind them
pub rows_push : (s m : List ℕ) (es : List Entry) (e : Entry) → All (IsWithin s) es → KeepsOctets e.act (length s) m → map (entry_row (s ++ m)) (es ++ e ∷ []) ≡ map (entry_row s) es ++ record { entry = e; octets = m } ∷ []
rows_push s m es e within placed =
    let octets_are : List ℕ → List Row = λ octets. map (entry_row s) es ++ record { entry = e; octets = octets } ∷ [] in
    map-append (entry_row (s ++ m)) es (e ∷ [])
    ∙ ap (λ rows. rows ++ entry_row (s ++ m) e ∷ []) (rows_kept s m es within)
    ∙ ap octets_are (octets_placed s m e.act placed)

pub held-append : (xs ys : List Row) → held (xs ++ ys) ≡ held xs + held ys
held-append [] ys = sym (zero-add (held ys))
held-append (x ∷ xs) ys = ap (λ n. length x.octets + n) (held-append xs ys) ∙ sym (add_assoc (length x.octets) (held xs) (held ys))

within_more : (s m : List ℕ) (es : List Entry) → All (IsWithin s) es → All (IsWithin (s ++ m)) es
within_more s m [] within = All-nil (IsWithin (s ++ m))
within_more s m (e ∷ es) within =
    let first : IsWithin s e = All-head (IsWithin s) e es within in
    All-cons (IsWithin (s ++ m)) e es (rw (length-append s m) (omega (arith, first))) (within_more s m es (All-tail (IsWithin s) e es within))

-- a store with one more row is a store
pub IsStore-push : (s m : List ℕ) (es : List Entry) (e : Entry) → IsStore s es → KeepsOctets e.act (length s) m → IsStore (s ++ m) (es ++ e ∷ [])
IsStore-push s m es e store placed =
    let size : held (map (entry_row (s ++ m)) (es ++ e ∷ [])) ≡ held (map (entry_row s) es) + (length m + 0) = ap held (rows_push s m es e store.within placed) ∙ held-append (map (entry_row s) es) (record { entry = e; octets = m } ∷ []) in
    record {
      within = All-append (IsWithin (s ++ m)) es (e ∷ []) (within_more s m es store.within) (All-cons (IsWithin (s ++ m)) e [] (within_placed s m e.act placed) (All-nil (IsWithin (s ++ m))));
      size = omega (arith, size, store.size, length-append s m);
    }

bytes_dropped : (n : ℕ) (xs : List ℕ) → IsBytes xs → IsBytes (drop n xs)
bytes_dropped n xs bytes i = rw (get_or-drop n xs i 0) (bytes (n + i))

bytes_taken : (n : ℕ) (xs : List ℕ) → IsBytes xs → IsBytes (take n xs)
bytes_taken zero xs bytes i = omega arith
bytes_taken (suc n) [] bytes i = bytes i
bytes_taken (suc n) (x ∷ xs) bytes zero = bytes 0
bytes_taken (suc n) (x ∷ xs) bytes (suc i) = bytes_taken n xs (λ k. bytes (suc k)) i

-- what a store of octets keeps of each row is octets
pub rows_bytes : (s : List ℕ) (es : List Entry) → IsBytes s → All (λ row. IsBytes row.octets) (map (entry_row s) es)
rows_bytes s es bytes = All-map (λ (row : Row). IsBytes row.octets) (entry_row s) es (λ k d within. let e = slice_index_or es k d in bytes_taken (kept_of e.act) (drop (at_of e.act) s) (bytes_dropped (at_of e.act) s bytes))
