use Rattle.std.proofs.Common.{String, Global, string_bytes, refl, sym, ◌∙◌}
use Rattle.std.proofs.lemmas.Bool.{false≢true}
use Rattle.std.proofs.lemmas.List.Elements.{All-head, All-tail}
use Rattle.savi_conf.specs.Keys.{Keys, IsKnown}
use Rattle.savi_conf.specs.KeyNames.{keys_of}
use Rattle.savi_conf.proofs.Listed.{All-cons, All-nil}
use Rattle.savi_conf.proofs.keys.KeyNames.has_each.Goals as goal

abbrev Known : Keys → String Global → Type 0
Known keys key = IsKnown keys (string_bytes key)

pub loop-key-init : goal.loop-key-init
loop-key-init c = rw (c.into_iter-key-iterator.ensures.into_iter_gives, c.keys-key-items.ensures.rest) (λ all. all, λ all. all)

pub returns-then-not-has : goal.returns-then-not-has
returns-then-not-has c = (
  λ no. absurd (false≢true no),
  λ all.
      let left = rw c.in-Some.ensures.steps at (c.loop-key.invariant.1 all) in
      let first = All-head (Known (keys_of c.args.self.now)) c.in-Some.key.now c.next.new.self left in
      sym c.if-not-has.true ∙ c.has.ensures.1 (rw c.as_str.ensures.value first),
)

pub loop-key-preserved : goal.loop-key-preserved
loop-key-preserved c =
    let P = Known (keys_of c.args.self.now) in
    let first = rw c.as_str.ensures.value at (c.has.ensures.0 c.if-not-has.false) in (
      λ left. c.loop-key.invariant.0 (rw c.in-Some.ensures.steps (All-cons P c.in-Some.key.now c.next.new.self first left)),
      λ all. All-tail P c.in-Some.key.now c.next.new.self (rw c.in-Some.ensures.steps at (c.loop-key.invariant.1 all)),
    )

pub returns : goal.returns
returns c = (λ _. c.loop-key.invariant.0 (rw c.in-None.ensures.steps.0 (All-nil (Known (keys_of c.args.self.now)))), λ _. refl)
