-- What a failed write leaves is a front of the text.
use Rattle.std.proofs.Common.{ℕ, List, ◌++◌, refl, ap, sym, ◌∙◌, Option}
use Rattle.std.proofs.lemmas.List.{append_assoc}
use Rattle.savi_ends.specs.declared.sink.Put.{Put}
use Rattle.savi_ends.specs.declared.sink.Put.TheVariants as put
use Rattle.savi_ends.specs.Octets.{behind, IsFront}
use Rattle.savi_ends.specs.Writes.{Extends}
use Rattle.savi_ends.proofs.Octets.{behind_again}
use Rattle.journal_write.specs.Buffers.{Holds}

-- a front of a front
pub front-again : (a b c : List ℕ) → IsFront a b → IsFront b c → IsFront a c
front-again a b c first second = (first.0 ++ second.0, second.1 ∙ ap (λ (t : List ℕ). t ++ second.0) first.1 ∙ append_assoc a first.0 second.0)

-- a failed write of a front is one of the whole
pub part-longer : (a b : Option (List ℕ)) (text whole : List ℕ) → IsFront text whole → Extends put.Failed a b text → Extends put.Failed a b whole
part-longer a b text whole is part = (part.0, front-again part.0 text whole part.1 is, part.2)

-- a text is a front of one with more behind it
pub part-more : (a b : Option (List ℕ)) (text more : List ℕ) → Extends put.Failed a b text → Extends put.Failed a b (text ++ more)
part-more a b text more part = part-longer a b text (text ++ more) (more, refl) part

-- a write of what waits is one of all that was put
pub extends-held : (r : Put) (a b c : Option (List ℕ)) (waits text : List ℕ) → Holds a b waits text → Extends r b c waits → Extends r a c text
extends-held put.Done a b c waits text held done =
    done ∙ ap (λ (o : Option (List ℕ)). behind o waits) held.sink ∙ behind_again a held.took waits ∙ ap (behind a) held.all
extends-held put.Failed a b c waits text held part =
    let front : List ℕ = part.0 in
    let rest : List ℕ = part.1.0 in (
      held.took ++ front,
      (rest, sym held.all ∙ ap (λ (t : List ℕ). held.took ++ t) part.1.1 ∙ sym (append_assoc held.took front rest)),
      part.2 ∙ ap (λ (o : Option (List ℕ)). behind o front) held.sink ∙ behind_again a held.took front,
    )
