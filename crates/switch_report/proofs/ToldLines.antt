-- The lines of ends that are told, one written behind the other.
use Rattle.std.proofs.Common.{◌≡◌, ℕ, ◌+◌, ◌<◌, List, [], ◌∷◌, ◌++◌, length, get_or, take, drop, refl, ap, sym, ◌∙◌, Option, append-nil, append_assoc, take-append-drop}
use Rattle.std.proofs.lemmas.List.{take_more}
use Rattle.savi_kinds.specs.declared.entry.Who.{Who}
use Rattle.savi_kinds.specs.declared.entry.How.{How}
use Rattle.savi_ends.specs.declared.sink.Put.TheVariants as put
use Rattle.savi_ends.specs.Octets.{behind}
use Rattle.savi_ends.specs.Writes.{Extends}
use Rattle.savi_ends.proofs.Octets.{behind_again}
use Rattle.savi_history.specs.EndLines.{end_line, told_lines}

joined : (a b c d : List ℕ) → (a ++ (b ++ c)) ++ d ≡ (a ++ b) ++ (c ++ d)
joined a b c d = rw (append_assoc, append_assoc, append_assoc) refl

lines_append : (ends more : List (Who × How)) → told_lines (ends ++ more) ≡ told_lines ends ++ told_lines more
lines_append [] more = refl
lines_append (x ∷ ends) more = ap (λ (l : List ℕ). end_line x.0 x.1 ++ l) (lines_append ends more) ∙ sym (append_assoc (end_line x.0 x.1) (told_lines ends) (told_lines more))

-- the line of the next end comes behind those of the ends before it
lines_more : (ends : List (Who × How)) (i : ℕ) (told : Who × How) → i < length ends → told ≡ get_or ends i told → told_lines (take (i + 1) ends) ≡ told_lines (take i ends) ++ end_line told.0 told.1
lines_more ends i told inside here =
    let next : take (i + 1) ends ≡ take i ends ++ told ∷ [] = take_more ends i told inside ∙ ap (λ (e : Who × How). take i ends ++ e ∷ []) (sym here) in
    ap told_lines next ∙ lines_append (take i ends) (told ∷ []) ∙ ap (λ (l : List ℕ). told_lines (take i ends) ++ l) (append-nil (end_line told.0 told.1))

-- one line more is written behind those of the ends before it
pub told_next : (ends : List (Who × How)) (i : ℕ) (told : Who × How) (old mid new : Option (List ℕ)) → i < length ends → told ≡ get_or ends i told
    → mid ≡ behind old (told_lines (take i ends)) → new ≡ behind mid (end_line told.0 told.1) → new ≡ behind old (told_lines (take (i + 1) ends))
told_next ends i told old mid new inside here was is =
    is
    ∙ ap (λ (o : Option (List ℕ)). behind o (end_line told.0 told.1)) was
    ∙ behind_again old (told_lines (take i ends)) (end_line told.0 told.1)
    ∙ ap (λ (l : List ℕ). behind old l) (sym (lines_more ends i told inside here))

-- a front of the next line behind the lines before it is a front of all lines
pub told_part : (ends : List (Who × How)) (i : ℕ) (told : Who × How) (old mid new : Option (List ℕ)) → i < length ends → told ≡ get_or ends i told
    → mid ≡ behind old (told_lines (take i ends)) → Extends put.Failed mid new (end_line told.0 told.1) → Extends put.Failed old new (told_lines ends)
told_part ends i told old mid new inside here was part =
    let front : List ℕ = part.0 in
    let rest : List ℕ = part.1.0 in
    let first : List ℕ = told_lines (take i ends) in
    let behind_it : List ℕ = told_lines (drop (i + 1) ends) in (
      first ++ front,
      (
        rest ++ behind_it,
        ap told_lines (sym (take-append-drop (i + 1) ends))
            ∙ lines_append (take (i + 1) ends) (drop (i + 1) ends)
            ∙ ap (λ (l : List ℕ). l ++ behind_it) (lines_more ends i told inside here ∙ ap (λ (l : List ℕ). first ++ l) part.1.1)
            ∙ joined first front rest behind_it,
      ),
      part.2 ∙ ap (λ (o : Option (List ℕ)). behind o front) was ∙ behind_again old first front,
    )
