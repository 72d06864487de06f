use Rattle.std.proofs.Common.{length, take, drop, refl, ap, sym, ◌∙◌, arith, true≢false, length-append}
use Rattle.std.proofs.lemmas.List.{take_at, drop_at}
use Rattle.hist_store.proofs.read_fields.behind.Goals as goal

pub returns-then-text-word-clause-whole : goal.returns-then-text-word-clause-whole
returns-then-text-word-clause-whole c = λ rest is. absurd (omega (arith, ap length is, length-append c.args.word.now rest, c.if-text-word.true))

pub returns-then-is_word-clause-whole : goal.returns-then-is_word-clause-whole
returns-then-is_word-clause-whole c = λ rest is. c.split_at.ensures.back ∙ ap (drop (length c.args.word.now)) is ∙ drop_at c.args.word.now rest (length c.args.word.now) refl

pub returns-else-is_word-clause-whole : goal.returns-else-is_word-clause-whole
returns-else-is_word-clause-whole c = λ rest is.
    true≢false (sym (c.if-is_word.ensures.1 (c.split_at.ensures.front ∙ ap (take (length c.args.word.now)) is ∙ take_at c.args.word.now rest (length c.args.word.now) refl)))
