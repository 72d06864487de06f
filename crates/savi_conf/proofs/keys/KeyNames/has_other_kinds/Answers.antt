use Rattle.std.proofs.Common.{sym, ◌∙◌, IfSome, List, ℕ}
use Rattle.std.proofs.lemmas.List.Elements.{All-map}
use Rattle.toml.specs.Data.{get_member, Data}
use Rattle.toml.specs.View.{table_view}
use Rattle.savi_conf.specs.Keys.{IsText, IsInteger, IsTables}
use Rattle.savi_conf.specs.KeyNames.{keys_of}
use Rattle.savi_conf.proofs.Listed.{All-unmap}
use Rattle.savi_conf.proofs.keys.KeyNames.has_other_kinds.Goals as goal
use Rattle.savi_conf.proofs.keys.KeyNames.has_other_kinds.Goals.{then-has_texts, else-has_texts}

pub returns-then-has_integers : goal.returns-then-has_integers
unfolding keys_of
returns-then-has_integers c =
    let at : (Data → Type 0) → List ℕ → Type 0 = λ kind key. IfSome (get_member key (table_view c.args.table.now)) kind in (
      λ arrays. elim c.if-has_texts.branch [
        | then-has_texts w ↦ record {
          texts = All-map (at IsText) (λ k. k.now) _ (c.has_texts.ensures.0 w.if-has_texts.true);
          integers = All-map (at IsInteger) (λ k. k.now) _ (w.has_integers.ensures.0 (sym w.value-is ∙ c.if-has_integers.true));
          arrays = All-map (at IsTables) (λ k. k.now) _ (c.has_arrays.ensures.0 arrays);
        }
        | else-has_texts w ↦ absurd cc
      ],
      λ kinds. c.has_arrays.ensures.1 (All-unmap (at IsTables) (λ k. k.now) _ kinds.arrays),
    )

pub returns-else-has_integers : goal.returns-else-has_integers
unfolding keys_of
returns-else-has_integers c =
    let at : (Data → Type 0) → List ℕ → Type 0 = λ kind key. IfSome (get_member key (table_view c.args.table.now)) kind in (
      λ found. absurd cc,
      λ kinds. elim c.if-has_texts.branch [
        | then-has_texts w ↦ w.value-is ∙ w.has_integers.ensures.1 (All-unmap (at IsInteger) (λ k. k.now) _ kinds.integers)
        | else-has_texts w ↦ w.value-is ∙ c.has_texts.ensures.1 (All-unmap (at IsText) (λ k. k.now) _ kinds.texts)
      ],
    )
