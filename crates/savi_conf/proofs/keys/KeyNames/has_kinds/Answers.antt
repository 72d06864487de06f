use Rattle.std.proofs.Common.{IfSome, List, ℕ}
use Rattle.std.proofs.lemmas.List.Elements.{All-map}
use Rattle.toml.specs.Data.{get_member}
use Rattle.toml.specs.View.{table_view}
use Rattle.savi_conf.specs.Keys.{IsIntegers}
use Rattle.savi_conf.specs.KeyNames.{keys_of}
use Rattle.savi_conf.proofs.Listed.{All-unmap}
use Rattle.savi_conf.proofs.keys.KeyNames.has_kinds.Goals as goal

pub returns-then-has_other_kinds : goal.returns-then-has_other_kinds
unfolding keys_of
returns-then-has_other_kinds c =
    let at : List ℕ → Type 0 = λ key. IfSome (get_member key (table_view c.args.table.now)) IsIntegers in
    let others = c.has_other_kinds.ensures.0 c.if-has_other_kinds.true in (
      λ lists. record {
        texts = others.texts;
        integers = others.integers;
        arrays = others.arrays;
        lists = All-map at (λ k. k.now) _ (c.has_lists.ensures.0 lists);
      },
      λ kinds. c.has_lists.ensures.1 (All-unmap at (λ k. k.now) _ kinds.lists),
    )

pub returns-else-has_other_kinds : goal.returns-else-has_other_kinds
returns-else-has_other_kinds c = (
  λ found. absurd cc,
  λ kinds. c.has_other_kinds.ensures.1 (record { texts = kinds.texts; integers = kinds.integers; arrays = kinds.arrays }),
)
