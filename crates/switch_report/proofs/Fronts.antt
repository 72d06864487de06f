-- What a failed write leaves is a front of the text.
use Rattle.std.proofs.Common.{ℕ, List, ◌++◌, refl, ap, ◌∙◌, Option}
use Rattle.std.proofs.lemmas.List.{append_assoc}
use Rattle.savi_ends.specs.declared.sink.Put.TheVariants as put
use Rattle.savi_ends.specs.Octets.{IsFront}
use Rattle.savi_ends.specs.Writes.{Extends}

-- a front of a front
front-again : (a b c : List ℕ) → IsFront a b → IsFront b c → IsFront a c
front-again a b c first second = (first.0 ++ second.0, second.1 ∙ ap (λ (t : List ℕ). t ++ second.0) first.1 ∙ append_assoc a first.0 second.0)

-- a failed write of a text is one of the same with more behind it
pub part-more : (a b : Option (List ℕ)) (text more : List ℕ) → Extends put.Failed a b text → Extends put.Failed a b (text ++ more)
part-more a b text more part = (part.0, front-again part.0 text (text ++ more) part.1 (more, refl), part.2)
