use Rattle.std.proofs.Common.{ℕ, List, [], ◌∷◌, ◌++◌, codes, decimal, Some, sym, ap, ◌∙◌, arith}
use Rattle.savi_kinds.specs.Characters.{space}
use Rattle.hist_store.specs.TextOfLines.{joined}
use Rattle.checkpoint.specs.BaseLines.{counter_name}
use Rattle.checkpoint.proofs.Heads.{count_text, named}
use Rattle.checkpoint.proofs.Lines.{joined_more}
use Rattle.checkpoint.proofs.head.put_count.Goals as goal

pub returns : goal.returns
returns c =
    ap Some (
    c.put_number.ensures.text
    ∙ ap (λ (l : List ℕ). l ++ space ∷ decimal c.at.result) (c.put_word.ensures.text ∙ ap (λ (l : List ℕ). l ++ space ∷ c.counter_name.result.now) (c.put_octets.ensures.text ∙ ap (λ (l : List ℕ). l ++ codes "count") c.requires.empty))
    ∙ joined_more (codes "count") (c.counter_name.result.now ∷ []) (decimal c.at.result)
    ∙ ap (λ (name : List ℕ). joined (named name c.at.result)) c.counter_name.ensures.name
    ∙ ap (λ (n : ℕ). joined (named (counter_name c.args.i) n)) c.at.ensures
    ) ∙ sym (count_text c.args.counts.now c.args.i (omega (arith, c.requires.within)))
