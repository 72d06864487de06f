use Rattle.std.proofs.Common.{sym, ◌∙◌, inl, inr, IsTrue}
use Rattle.savi_conf.proofs.KeysLemmas.{other-texts, other-integers, other-arrays, other-cases}
use Rattle.savi_conf.proofs.keys.KeyNames.has_other.Goals as goal
use Rattle.savi_conf.proofs.keys.KeyNames.has_other.Goals.{then-is_among, else-is_among}

pub returns-then-is_among-2 : goal.returns-then-is_among-2
returns-then-is_among-2 c =
    let names = c.args.self.now in
    let key = c.args.key.now in (
      λ _. elim c.if-is_among.branch [
        | then-is_among w ↦ other-texts names key (c.is_among.ensures.0 w.if-is_among.true)
        | else-is_among w ↦ other-integers names key (w.is_among-else-is_among.ensures.0 (sym w.value-is ∙ c.if-is_among-2.true))
      ],
      λ _. c.if-is_among-2.true,
    )

pub returns-else-is_among-2 : goal.returns-else-is_among-2
returns-else-is_among-2 c =
    let names = c.args.self.now in
    let key = c.args.key.now in (
      λ found. other-arrays names key (c.is_among-else-is_among-2.ensures.0 found),
      λ is. elim (other-cases names key is) [
        | inl (inl texts) ↦ elim c.if-is_among.branch [
          | then-is_among w ↦ absurd cc
          | else-is_among w ↦ let yes : IsTrue c.is_among.result = c.is_among.ensures.1 texts in absurd cc
        ]
        | inl (inr integers) ↦ elim c.if-is_among.branch [
          | then-is_among w ↦ absurd cc
          | else-is_among w ↦ let yes : IsTrue w.is_among-else-is_among.result = w.is_among-else-is_among.ensures.1 integers in absurd cc
        ]
        | inr arrays ↦ c.is_among-else-is_among-2.ensures.1 arrays
      ],
    )
