-- A legal history is told by the lines of its entries.
use Rattle.std.proofs.Common.{◌≡◌, ℕ, ◌+◌, List, [], ◌∷◌, ◌++◌, length, reverse, refl, ap, sym, ◌∙◌, arith, subst, All}
use Rattle.std.proofs.lemmas.List.{same_from_push, reverse-append}
use Rattle.std.proofs.lemmas.List.Elements.{All-nil, All-head, All-tail, All-append, All-cons}
use Rattle.hex.specs.Hex.{IsBytes}
use Rattle.savi_kinds.specs.declared.plan.Plan.{Plan}
use Rattle.savi_kinds.specs.ValidPlan.{IsValidPlan}
use Rattle.hist_store.specs.Rows.{Row}
use Rattle.hist_store.specs.LineTexts.{line_fields}
use Rattle.hist_store.specs.JournalTexts.{entry_lines}
use Rattle.checkpoint.specs.Bases.{Base}
use Rattle.savi_history.specs.Events.{Event, row_of}
use Rattle.savi_history.specs.Legal.{IsLegal}
use Rattle.savi_history.specs.Journals.{without_names}
use Rattle.savi_history.proofs.WithoutNames.{row_kept}
use Rattle.savi_history.proofs.OneEvent.{event_by_line}

abbrev Lines : Type 0
Lines = List (List (List ℕ))

abbrev HasOctets : Row → Type 0
HasOctets r = IsBytes r.octets

pub reversed : (r : Row) (past : List Row) → reverse (r ∷ past) ≡ reverse past ++ r ∷ []
reversed r past = reverse-append (r ∷ []) past

lines_push : (n : ℕ) (rows : List Row) (r : Row) → entry_lines n (rows ++ r ∷ []) ≡ entry_lines n rows ++ line_fields (n + length rows) r ∷ []
lines_push n [] r = ap (λ k. line_fields k r ∷ []) (omega arith)
lines_push n (x ∷ rows) r =
    let number : n + 1 + length rows ≡ n + length (x ∷ rows) = omega arith in
    ap (λ (lines : Lines). line_fields n x ∷ lines) (lines_push (n + 1) rows r ∙ ap (λ k. entry_lines (n + 1) rows ++ line_fields k r ∷ []) number)

-- the newest row has the last line
newest : (r : Row) (past : List Row) → entry_lines 0 (reverse (r ∷ past)) ≡ entry_lines 0 (reverse past) ++ line_fields (0 + length (reverse past)) r ∷ []
newest r past = ap (entry_lines 0) (reversed r past) ∙ lines_push 0 (reverse past) r

no_push : {X : Type 0} (xs : List X) (x : X) → [] ≡ xs ++ x ∷ [] → ⊥
no_push [] x e = cc
no_push (y ∷ xs) x e = cc

pub octets_reversed : (past : List Row) → All HasOctets past → All HasOctets (reverse past)
octets_reversed [] all = all
octets_reversed (r ∷ past) all =
    let front = octets_reversed past (All-tail HasOctets r past all) in
    let last = All-cons HasOctets r [] (All-head HasOctets r past all) (All-nil HasOctets) in
    rw (reversed r past) (All-append HasOctets (reverse past) (r ∷ []) front last)

-- the row of an event is the same for two plans that differ in names alone
same_row : (plan plan' : Plan) (base : Base) (past : List Row) (event : Event) → without_names plan ≡ without_names plan' → row_of plan base past event ≡ row_of plan' base past event
same_row plan plan' base past event same =
    sym (row_kept plan base past event) ∙ ap (λ (p : Plan). row_of p base past event) same ∙ row_kept plan' base past event

-- two rows behind the same past, each that of an event that might come
next_same : (plan plan' : Plan) (base : Base) (past : List Row) (n n' : ℕ) (r r' : Row) → without_names plan ≡ without_names plan' → IsValidPlan plan → IsValidPlan plan'
    → IsLegal plan base (r ∷ past) → IsLegal plan' base (r' ∷ past) → HasOctets r → HasOctets r' → line_fields n r ≡ line_fields n' r' → r ≡ r'
next_same plan plan' base past n n' r r' same valid valid' legal legal' has has' line =
    let a = legal.0.0 in
    let b = legal'.0.0 in
    let is : r ≡ row_of plan base past a = legal.0.2 in
    let is' : r' ≡ row_of plan' base past b = legal'.0.2 in
    let lines : line_fields n (row_of plan base past a) ≡ line_fields n' (row_of plan' base past b) = sym (ap (line_fields n) is) ∙ line ∙ ap (line_fields n') is' in
    let event : a ≡ b = event_by_line plan plan' base past n n' a b valid valid' legal.1 legal'.1 legal.0.1 legal'.0.1 (subst HasOctets is has) (subst HasOctets is' has') lines in
    is ∙ ap (λ (e : Event). row_of plan base past e) event ∙ same_row plan plan' base past b same ∙ sym is'

-- two legal histories with the same lines
pub rows_same : (plan plan' : Plan) (base : Base) (past past' : List Row) → without_names plan ≡ without_names plan' → IsValidPlan plan → IsValidPlan plan'
    → IsLegal plan base past → IsLegal plan' base past' → All HasOctets past → All HasOctets past' → entry_lines 0 (reverse past) ≡ entry_lines 0 (reverse past') → past ≡ past'
rows_same plan plan' base [] [] same valid valid' legal legal' has has' lines = refl
rows_same plan plan' base [] (r' ∷ past') same valid valid' legal legal' has has' lines = absurd (no_push (entry_lines 0 (reverse past')) (line_fields (0 + length (reverse past')) r') (lines ∙ newest r' past'))
rows_same plan plan' base (r ∷ past) [] same valid valid' legal legal' has has' lines = absurd (no_push (entry_lines 0 (reverse past)) (line_fields (0 + length (reverse past)) r) (sym lines ∙ newest r past))
rows_same plan plan' base (r ∷ past) (r' ∷ past') same valid valid' legal legal' has has' lines =
    let n = 0 + length (reverse past) in
    let n' = 0 + length (reverse past') in
    let parts = same_from_push (entry_lines 0 (reverse past)) (entry_lines 0 (reverse past')) (line_fields n r) (line_fields n' r') (sym (newest r past) ∙ lines ∙ newest r' past') in
    let before : past ≡ past' = rows_same plan plan' base past past' same valid valid' legal.1 legal'.1 (All-tail HasOctets r past has) (All-tail HasOctets r' past' has') parts.0 in
    let moved : IsLegal plan' base (r' ∷ past) = subst (λ (l : List Row). IsLegal plan' base (r' ∷ l)) (sym before) legal' in
    let now : r ≡ r' = next_same plan plan' base past n n' r r' same valid valid' legal moved (All-head HasOctets r past has) (All-head HasOctets r' past' has') parts.1 in
    ap (λ (x : Row). x ∷ past) now ∙ ap (λ (l : List Row). r' ∷ l) before
