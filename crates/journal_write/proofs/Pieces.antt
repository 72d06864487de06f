-- One piece behind another.
use Rattle.std.proofs.Common.{◌≡◌, ℕ, List, [], ◌++◌, refl, ap, sym, ◌∙◌, Option, Some, None}
use Rattle.std.proofs.lemmas.List.{append_assoc, append-nil}
use Rattle.savi_ends.specs.Octets.{behind}
use Rattle.savi_ends.proofs.Octets.{behind_again}
use Rattle.journal_write.specs.Buffers.{Holds}

pub behind-nil : (a : Option (List ℕ)) → behind a [] ≡ a
behind-nil None = refl
behind-nil (Some a) = ap (λ (l : List ℕ). let o : Option (List ℕ) = Some l in o) (append-nil a)

-- before anything is put, what waits is the text
pub holds-start : (a : Option (List ℕ)) (waits : List ℕ) → Holds a a waits waits
holds-start a waits = record { took = []; sink = sym (behind-nil a); all = refl }

-- and then a piece
pub holds-more : (a b c : Option (List ℕ)) (waits waits' text piece : List ℕ) → Holds a b waits text → Holds b c waits' (waits ++ piece) → Holds a c waits' (text ++ piece)
holds-more a b c waits waits' text piece first second = record {
  took = first.took ++ second.took;
  sink = second.sink ∙ ap (λ (o : Option (List ℕ)). behind o second.took) first.sink ∙ behind_again a first.took second.took;
  all = append_assoc first.took second.took waits' ∙ ap (λ (x : List ℕ). first.took ++ x) second.all ∙ sym (append_assoc first.took waits piece) ∙ ap (λ (x : List ℕ). x ++ piece) first.all;
}

-- what was written whole leaves nothing waiting
pub holds-written : (a b : Option (List ℕ)) (text : List ℕ) → b ≡ behind a text → Holds a b [] text
holds-written a b text wrote = record { took = text; sink = wrote; all = append-nil text }
