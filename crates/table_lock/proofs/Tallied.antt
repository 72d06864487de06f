-- What a tally's addition is to a turn: nothing, or one entry with the number that was added.
use Rattle.std.proofs.Common.{◌≡◌, ℕ, [], ◌∷◌, ◌++◌, inl, inr, Bool, true, false, cond, ap, ◌∙◌}
use Rattle.std.proofs.lemmas.List.{map-append}
use Rattle.table_lock.specs.Entries.{EntryList}
use Rattle.table_lock.specs.Tallies.{Tallied, tally_history}
use Rattle.table_lock.specs.Turns.{IsOrGrowsBy}

pub tried : (old new : Tallied) (by number : ℕ) (added : Bool) (seen : EntryList) → tally_history old ≡ seen → by ≡ number
    → new ≡ cond added (record old { numbers = old.numbers ++ by ∷ [] }) old → IsOrGrowsBy number seen (tally_history new)
tried old new by number true seen was is e = inr ((by, []), is, ap tally_history e ∙ (map-append (λ n. (n, [])) old.numbers (by ∷ []) ∙ ap (λ (h : EntryList). h ++ (by, []) ∷ []) was))
tried old new by number false seen was is e = inl (ap tally_history e ∙ was)
