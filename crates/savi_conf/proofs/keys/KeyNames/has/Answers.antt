use Rattle.std.proofs.Common.{inl, inr}
use Rattle.savi_conf.proofs.Both.{refuted}
use Rattle.savi_conf.proofs.KeysLemmas.{known-cases, known-lists, known-others}
use Rattle.savi_conf.proofs.keys.KeyNames.has.Goals as goal

pub returns-then-has_other : goal.returns-then-has_other
returns-then-has_other c = (λ _. known-others c.args.self.now c.args.key.now (c.has_other.ensures.0 c.if-has_other.true), λ _. c.if-has_other.true)

pub returns-else-has_other : goal.returns-else-has_other
returns-else-has_other c = (
  λ found. known-lists c.args.self.now c.args.key.now (c.is_among.ensures.0 found),
  λ is. elim (known-cases c.args.self.now c.args.key.now is) [
    | inl other ↦ absurd (refuted c.has_other.result c.if-has_other.false c.has_other.ensures other)
    | inr list ↦ c.is_among.ensures.1 list
  ],
)
