use Rattle.std.proofs.Common.{ℕ, List, All, subst}
use Rattle.hex.specs.Hex.{IsBytes}
use Rattle.hist_store.specs.Rows.{Row, History}
use Rattle.hist_store.proofs.StoreLemmas.{rows_bytes}
use Rattle.hist_store.proofs.hist.Hist.len.Goals as goal

pub returns-clause-octets : goal.returns-clause-octets
returns-clause-octets c =
    let bytes : IsBytes c.self.inside.octets.items = subst (λ (xs : List ℕ). IsBytes xs) c.as_slice.ensures.value c.know_octets.ensures in
    subst (λ (h : History). All (λ (row : Row). IsBytes row.octets) h.rows) c.self.view_is (rows_bytes c.self.inside.octets.items c.self.inside.entries.items bytes)
