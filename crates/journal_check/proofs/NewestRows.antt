-- The newest row of a switch, as it is given by its number.
use Rattle.std.proofs.Common.{◌≡◌, ℕ, List, [], ◌∷◌, ◌++◌, length, Option, Some, IsSomeAnd, reverse, slice_get, ap, sym, ◌∙◌, subst}
use Rattle.std.proofs.lemmas.List.{length-reverse, reverse-append}
use Rattle.savi_kinds.specs.declared.plan.Plan.{Plan}
use Rattle.savi_kinds.specs.declared.entry.Entry.{Entry}
use Rattle.hist_store.specs.Rows.{Row}
use Rattle.savi_core.specs.Machines.{Machine, row_at}
use Rattle.savi_core.proofs.Frames.{row_at-last}

abbrev pub row_with : Entry → List ℕ → Row
row_with entry octets = record { entry = entry; octets = octets }

newest_row : (m : Machine) (row : Row) (past : List Row) (n : ℕ) → m.past ≡ row ∷ past → n ≡ length past → row_at m n ≡ Some row
newest_row m row past n is last =
    let turned : reverse (row ∷ past) ≡ reverse past ++ row ∷ [] = reverse-append (row ∷ []) past in
    ap (λ (rows : List Row). slice_get (reverse rows) n) is ∙ ap (λ (rows : List Row). slice_get rows n) turned
    ∙ ap (λ (k : ℕ). slice_get (reverse past ++ row ∷ []) k) (last ∙ sym (length-reverse past)) ∙ row_at-last (reverse past) row

pub newest_is : (m : Machine) (row : Row) (past : List Row) (n : ℕ) (entry : Entry) (octets : List ℕ) → m.past ≡ row ∷ past → n ≡ length past → IsSomeAnd (row_at m n) (λ r. r.entry ≡ entry)
    → IsSomeAnd (row_at m n) (λ r. r.octets ≡ octets) → row ≡ row_with entry octets
newest_is m row past n entry octets is last entry_is octets_are =
    let here = newest_row m row past n is last in
    let one : row.entry ≡ entry = subst (λ (o : Option Row). IsSomeAnd o (λ r. r.entry ≡ entry)) here entry_is in
    let other : row.octets ≡ octets = subst (λ (o : Option Row). IsSomeAnd o (λ r. r.octets ≡ octets)) here octets_are in
    ap (λ (e : Entry). row_with e row.octets) one ∙ ap (row_with entry) other

-- what holds of a row behind so many others, as it is given
pub given_as : (P : Plan → ℕ → Row → Type 0) (plan plan' : Plan) (n n' : ℕ) (row row' : Row) → plan ≡ plan' → n ≡ n' → row ≡ row' → P plan n row → P plan' n' row'
given_as P plan plan' n n' row row' plans numbers rows is =
    subst (λ (r : Row). P plan' n' r) rows (subst (λ (k : ℕ). P plan' k row) numbers (subst (λ (p : Plan). P p n row) plans is))
