-- What a sink was given, behind what more waits for it.
use Rattle.std.proofs.Common.{◌≡◌, ℕ, Bool, true, false, List, [], ◌++◌, refl, ap, ◌∙◌, sym, subst, Option}
use Rattle.std.proofs.lemmas.List.{append_assoc}
use Rattle.journal_write.specs.Buffers.{Holds}
use Rattle.journal_write.specs.Written.{WasGiven}
use Rattle.journal_write.proofs.Giving.{given_up}
use Rattle.journal_write.proofs.Pieces.{holds-start}

-- a piece more waits
holds_waiting : (old new : Option (List ℕ)) (waits text piece : List ℕ) → Holds old new waits text → Holds old new (waits ++ piece) (text ++ piece)
holds_waiting old new waits text piece h = record {
  took = h.took;
  sink = h.sink;
  all = sym (append_assoc h.took waits piece) ∙ ap (λ (t : List ℕ). t ++ piece) h.all;
}

pub given_waiting : {K : Type 0} (written : K → Option (List ℕ)) (faults : K → ℕ) (first now : K) (waits text piece : List ℕ) (failed : Bool) → WasGiven written faults first now waits failed text → WasGiven written faults first now (waits ++ piece) failed (text ++ piece)
given_waiting written faults first now waits text piece true was = given_up written faults first now waits text piece was
given_waiting written faults first now waits text piece false was = (holds_waiting (written first) (written now) waits text piece was.0, was.1)

-- behind a failed write it doesn't matter what waits
pub given_any : {K : Type 0} (written : K → Option (List ℕ)) (faults : K → ℕ) (first now : K) (waits waits' text : List ℕ) (failed : Bool) → failed ≡ true → WasGiven written faults first now waits failed text → WasGiven written faults first now waits' failed text
given_any written faults first now waits waits' text failed is was =
    subst (λ (f : Bool). WasGiven written faults first now waits' f text) (sym is)
    (let up : WasGiven written faults first now waits true text = subst (λ (f : Bool). WasGiven written faults first now waits f text) is was in up)

-- before anything is put nothing waits
pub given_nothing : {K : Type 0} (written : K → Option (List ℕ)) (faults : K → ℕ) (sink now : K) (waits : List ℕ) (failed : Bool) → now ≡ sink → waits ≡ [] → failed ≡ false → WasGiven written faults sink now waits failed []
given_nothing {K} written faults sink now waits failed same none not_failed =
    subst (λ (k : K). WasGiven written faults sink k waits failed []) (sym same)
    (subst (λ (w : List ℕ). WasGiven written faults sink sink w failed []) (sym none)
    (subst (λ (f : Bool). WasGiven written faults sink sink [] f []) (sym not_failed) (holds-start (written sink) [], refl)))
