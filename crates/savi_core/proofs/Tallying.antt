-- What is counted of a history with one row more.
use Rattle.std.proofs.Common.{◌≡◌, List, [], ◌∷◌, ◌++◌, ℕ, sym, ap, ◌∙◌}
use Rattle.std.specs.Prelude.{reverse}
use Rattle.savi_kinds.specs.declared.entry.Entry.{Entry}
use Rattle.control_replies.specs.declared.counts.Counts.{Counts}
use Rattle.control_replies.specs.Counting.{counted_with}
use Rattle.savi_history.specs.Shown.{counts_of}
use Rattle.savi_core.specs.Remembers.{CoreState, Remembers}
use Rattle.savi_core.proofs.Remembering.{reverse_push}
use Rattle.savi_core.proofs.Stepping.{row}

module _ {k : CoreState} (was : Remembers k) where
  -- the counts are those of the rows with the new one
  pub counted_too : (old new : Counts) (e : Entry) (octets : List ℕ) → old ≡ counts_of k.base (reverse k.rows) → new ≡ counted_with e old
      → new ≡ counts_of k.base (reverse (k.rows ++ row e octets ∷ []))
  counted_too old new e octets was_counted adds =
      adds ∙ ap (counted_with e) was_counted ∙ ap (counts_of k.base) (sym (reverse_push k.rows (row e octets)))
