-- A header that is neither misplaced nor cut is passed.
use Rattle.std.proofs.Common.{◌≡◌, true, false, arith, refl, sym, ◌∙◌, IsTrue}
use Rattle.std.proofs.lemmas.List.{take_rest}
use Rattle.v6_chain.specs.declared.kind.Kind.TheVariants.{Fragment}
use Rattle.v6_chain.specs.Headers.{is_extension, is_fragment}
use Rattle.v6_chain.proofs.Going.{is_cut, passes, unfragmented}
use Rattle.v6_chain.proofs.place.Place.step.Goals as goal

pub returns-then-self-clause-steps : goal.returns-then-self-clause-steps
returns-then-self-clause-steps c = λ first headers behind. (
  is_cut first _ headers _ _ _ _ behind c.kind_of-kind.ensures c.in_default.ensures.0 c.in_default.ensures.1
      (take_rest c.args.body.now c.args.self.at) c.size_at-size.ensures c.if-rest-size.true,
  sym behind.fragmented ∙ c.if-self.true,
)

pub returns-else-self-clause-steps : goal.returns-else-self-clause-steps
returns-else-self-clause-steps c = λ first headers behind. (
  is_cut first _ headers _ _ _ _ behind c.kind_of-kind.ensures c.in_default.ensures.0 c.in_default.ensures.1
      (take_rest c.args.body.now c.args.self.at) c.size_at-size.ensures c.if-rest-size.true,
  sym behind.fragmented ∙ c.if-self.false,
)

pub returns-in-Fragment-2-clause-steps : goal.returns-in-Fragment-2-clause-steps
returns-in-Fragment-2-clause-steps c = λ first headers behind.
    let size_is : c.size_at-size.result ≡ 8 = c.size_at-size.ensures ∙ rw c.in-Fragment-2.is refl in
    passes first _ headers _ _ _ 8 true behind c.kind_of-kind.ensures (take_rest c.args.body.now c.args.self.at)
    c.in_default.ensures.0 c.in_default.ensures.1
    (rw c.in-Fragment-2.is refl)
    (rw c.in-Fragment-2.is refl)
    (omega (arith, size_is, c.if-rest-size.false))
    (λ h. sym c.offset_of.ensures ∙ c.if-offset_of-ne0.false)
    (rw c.in-Fragment-2.is refl)

pub returns-in-HopByHop-clause-steps : goal.returns-in-HopByHop-clause-steps
returns-in-HopByHop-clause-steps c = λ first headers behind.
    let other : IsTrue (is_extension c.kind_of-kind.result) × (is_fragment c.kind_of-kind.result ≡ false) × (c.kind_of-kind.result ≡ Fragment → ⊥) = unfragmented _ c.in-HopByHop.is in
    passes first _ headers _ _ _ c.size_at-size.result c.args.self.fragmented behind c.kind_of-kind.ensures (take_rest c.args.body.now c.args.self.at)
    c.in_default.ensures.0 c.in_default.ensures.1
    other.0
    c.size_at-size.ensures
    c.if-rest-size.false
    (λ h. absurd (other.2 h))
    (rw other.1 refl)
