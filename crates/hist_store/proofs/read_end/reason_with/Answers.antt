use Rattle.std.proofs.Common.{◌∷◌, [], decimal, refl, ap, ◌∙◌, arith}
use Rattle.hist_store.proofs.EndRead.{malformed_is, overlong_is}
use Rattle.hist_store.proofs.read_end.reason_with.Goals as goal

pub returns-then-is_word-clause-whole : goal.returns-then-is_word-clause-whole
returns-then-is_word-clause-whole c = λ how range is. malformed_is how c.args.value range (omega (arith, c.ranges.value.fits)) (is ∙ ap (λ w. w ∷ decimal c.args.value ∷ []) (c.if-is_word.ensures.0 refl))

pub returns-then-is_word-2-clause-whole : goal.returns-then-is_word-2-clause-whole
returns-then-is_word-2-clause-whole c = λ how range is. overlong_is how c.args.value range (omega (arith, c.ranges.value.fits)) (is ∙ ap (λ w. w ∷ decimal c.args.value ∷ []) (c.if-is_word-2.ensures.0 refl))
