-- The row whose parts were read.
use Rattle.std.proofs.Common.{◌≡◌, ℕ, List, ap, ◌∙◌, Option, Some, None, IsSomeAnd}
use Rattle.savi_kinds.specs.declared.entry.Entry.{Entry}
use Rattle.hist_store.specs.Rows.{Row}

pub row_here : (o : Option Row) (e : Entry) (octets : List ℕ) → IsSomeAnd o (λ row. row.entry ≡ e) → IsSomeAnd o (λ row. row.octets ≡ octets) → o ≡ Some (record { entry = e; octets = octets })
row_here None e octets first second = absurd first
row_here (Some row) e octets first second =
    ap (λ (x : Entry). let o : Option Row = Some (record { entry = x; octets = row.octets }) in o) first
    ∙ ap (λ (x : List ℕ). let o : Option Row = Some (record { entry = e; octets = x }) in o) second
