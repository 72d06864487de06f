use Rattle.std.proofs.Common.{◌≡◌, ℕ, ◌<◌, List, [], ◌∷◌, ◌++◌, length, refl, ap, ◌∙◌, sym, arith, append_assoc}
use Rattle.std.proofs.lemmas.List.{nil_from_length}
use Rattle.std.proofs.lemmas.Bool.{eqb-true}
use Rattle.hex.specs.Hex.{encode_with, encode_lower}
use Rattle.savi_kinds.specs.Characters.{space}
use Rattle.hist_store.specs.TextOfLines.{dash}
use Rattle.hist_store.specs.LineTexts.{hex_text}
use Rattle.hist_store.proofs.pieces.put_hex.Goals as goal

hex_text-nil : hex_text [] ≡ dash ∷ []
unfolding encode_with
hex_text-nil = refl

hex_text-some : (octets : List ℕ) → 0 < length octets → hex_text octets ≡ encode_lower octets
unfolding encode_with
hex_text-some [] some = absurd (omega arith)
hex_text-some (x ∷ xs) some = refl

pub returns-then-is_empty-clause-text : goal.returns-then-is_empty-clause-text
returns-then-is_empty-clause-text c =
    let none : c.args.octets.now ≡ [] = nil_from_length c.args.octets.now (eqb-true _ 0 (grind arith)) in
    rw (none, hex_text-nil, c.push-then-is_empty.ensures.items, c.push.ensures.items) (append_assoc c.args.into.now.items (space ∷ []) (dash ∷ []))

pub returns-clause-text : goal.returns-clause-text
returns-clause-text c =
    let some : 0 < length c.args.octets.now = grind (arith, c.if-is_empty.ensures, c.if-is_empty.false) in
    c.push_digits.ensures.items ∙ ap (λ (t : List ℕ). t ++ encode_lower c.args.octets.now) c.push.ensures.items
    ∙ append_assoc c.args.into.now.items (space ∷ []) (encode_lower c.args.octets.now)
    ∙ ap (λ (t : List ℕ). c.args.into.now.items ++ space ∷ t) (sym (hex_text-some c.args.octets.now some))
