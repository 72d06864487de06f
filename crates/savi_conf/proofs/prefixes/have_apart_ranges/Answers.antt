use Rattle.std.proofs.Common.{Bor, BTreeMap, String, Global, refl, sym, ◌∙◌}
use Rattle.std.proofs.lemmas.Bool.{false≢true}
use Rattle.toml.specs.declared.value.Value.{Value}
use Rattle.toml.specs.View.{table_view}
use Rattle.savi_conf.specs.Requirements.{HaveApartRanges}
use Rattle.savi_conf.proofs.Listed.{AllPairs-more, AllPairs-fails, AllPairs-whole}
use Rattle.savi_conf.proofs.prefixes.have_apart_ranges.Goals as goal

abbrev Seen : Type 0
Seen = Bor (BTreeMap (String Global) Value)

abbrev Apart : Seen → Seen → Type 0
Apart t u = HaveApartRanges (table_view t.now) (table_view u.now)

pub returns-then-not-are_apart_from : goal.returns-then-not-are_apart_from
returns-then-not-are_apart_from c = (
  λ no. absurd (false≢true no),
  λ all. sym c.if-not-are_apart_from.true ∙ c.are_apart_from.ensures.1 (AllPairs-fails Apart c.args.prefixes.now c.loop-i.i c.index-prefixes-i.result c.loop-i-test.true c.index-prefixes-i.is all),
)

pub loop-i-preserved : goal.loop-i-preserved
loop-i-preserved c =
    AllPairs-more Apart c.args.prefixes.now c.loop-i.i c.index-prefixes-i.result c.loop-i-test.true c.index-prefixes-i.is c.loop-i.invariant (c.are_apart_from.ensures.0 c.if-not-are_apart_from.false)

pub returns : goal.returns
returns c = (λ _. AllPairs-whole Apart c.args.prefixes.now c.loop-i.i c.loop-i-test.false c.loop-i.invariant, λ _. refl)
