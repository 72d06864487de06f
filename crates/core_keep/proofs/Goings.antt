-- A pass knows the history but for what others made since.
use Rattle.std.proofs.Common.{◌≡◌, ℕ, ◌==◌, Bool, true, false, List, [], ◌∷◌, ◌++◌, length, refl, ap, sym, ◌∙◌, length-append, arith, if◌then◌else◌}
use Rattle.std.proofs.lemmas.List.{nil_from_length}
use Rattle.std.proofs.lemmas.List.Elements.{filter-append}
use Rattle.hist_store.specs.Rows.{Row}
use Rattle.table_lock.specs.Entries.{Entry, EntryList, mine, StartsWith}
use Rattle.core_keep.specs.RowCodes.{row_by_code}
use Rattle.core_keep.specs.Pasts.{decoded}
use Rattle.core_keep.specs.Seen.{AreOthers, IsLater}
use Rattle.core_keep.proofs.PastsRead.{decoded_behind}

filter_behind : (pass : ℕ) (a b : EntryList) → mine pass (a ++ b) ≡ mine pass a ++ mine pass b
filter_behind pass a b = filter-append (λ (e : Entry). e.0 == pass) a b

none_first : (b : Bool) (e : Entry) (es : EntryList) → (if b then e ∷ es else es) ≡ [] → (b ≡ false) × (es ≡ [])
none_first true e es is = cc
none_first false e es is = (refl, is)

others_behind : (pass : ℕ) (a b : List Row) → AreOthers pass a → AreOthers pass b → AreOthers pass (a ++ b)
others_behind pass [] b others more = more
others_behind pass (row ∷ a) b others more = (others.0, others_behind pass a b others.1 more)

others_of : (pass : ℕ) (codes : EntryList) → mine pass codes ≡ [] → AreOthers pass (decoded codes)
others_of pass [] none = tt
others_of pass (code ∷ codes) none =
    let h = none_first (code.0 == pass) code (mine pass codes) none in
    others_behind pass (decoded codes) (row_by_code code ∷ []) (others_of pass codes h.1) (h.0, tt)

none_more : (pass : ℕ) (seen rest : EntryList) → mine pass (seen ++ rest) ≡ mine pass seen → mine pass rest ≡ []
none_more pass seen rest own =
    let same : mine pass seen ++ mine pass rest ≡ mine pass seen = sym (filter_behind pass seen rest) ∙ own in
    nil_from_length (mine pass rest) (omega (arith, length-append (mine pass seen) (mine pass rest), ap length same))

pub later_of : (pass : ℕ) (seen now : EntryList) → StartsWith now seen → mine pass now ≡ mine pass seen → IsLater pass (decoded seen) (decoded now)
later_of pass seen now starts own =
    let rest = starts.0 in
    record {
      newer = decoded rest;
      split = ap decoded starts.1 ∙ decoded_behind seen rest;
      others = others_of pass rest (none_more pass seen rest (ap (mine pass) (sym starts.1) ∙ own));
    }
