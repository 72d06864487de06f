-- A piece behind the text that a sink took.
use Rattle.std.proofs.Common.{◌≡◌, ℕ, ◌≤◌, List, ◌++◌, Option, arith, refl, sym, ◌∙◌, ap, subst, append_assoc}
use Rattle.savi_ends.specs.Faults.{Rose}
use Rattle.savi_ends.specs.Octets.{behind}
use Rattle.savi_ends.specs.Writes.{Extends}
use Rattle.savi_ends.specs.declared.sink.Put.{Put}
use Rattle.savi_ends.specs.declared.sink.Put.TheVariants as put
use Rattle.savi_ends.proofs.Octets.{behind_again}
use Rattle.ra_learn.specs.Reports.{Wrote}

extends_on : (answer : Put) (before old new : Option (List ℕ)) (text piece : List ℕ) → old ≡ behind before text → Extends answer old new piece → Extends answer before new (text ++ piece)
extends_on put.Done before old new text piece took more = more ∙ ap (λ o. behind o piece) took ∙ behind_again before text piece
extends_on put.Failed before old new text piece took more = (text ++ more.0, (more.1.0, ap (λ octets. text ++ octets) more.1.1 ∙ sym (append_assoc text more.0 more.1.0)), more.2 ∙ ap (λ o. behind o more.0) took ∙ behind_again before text more.0)

-- a write behind others of which none failed
pub wrote_on : (answer : Put) (before old new : Option (List ℕ)) (faults old_faults new_faults : ℕ) (text piece : List ℕ) → Wrote text put.Done before old faults old_faults → Extends answer old new piece → old_faults ≤ new_faults → (answer ≡ put.Failed → Rose old_faults new_faults) → (answer ≡ put.Done → new_faults ≡ old_faults) → Wrote (text ++ piece) answer before new faults new_faults
wrote_on answer before old new faults old_faults new_faults text piece wrote more later cause still =
    let same : old_faults ≡ faults = wrote.still refl in
    record {
      took = extends_on answer before old new text piece wrote.took more;
      later = omega (arith, same, later);
      cause = λ failed. subst (λ (n : ℕ). Rose n new_faults) same (cause failed);
      still = λ done. still done ∙ same;
    }

-- nothing more is written once a write has failed
pub wrote_no_more : (before old : Option (List ℕ)) (faults old_faults : ℕ) (text piece : List ℕ) → Wrote text put.Failed before old faults old_faults → Wrote (text ++ piece) put.Failed before old faults old_faults
wrote_no_more before old faults old_faults text piece wrote = record {
  took = (wrote.took.0, (wrote.took.1.0 ++ piece, ap (λ octets. octets ++ piece) wrote.took.1.1 ∙ append_assoc wrote.took.0 wrote.took.1.0 piece), wrote.took.2);
  later = wrote.later;
  cause = wrote.cause;
  still = wrote.still;
}
