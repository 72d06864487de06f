use Rattle.std.proofs.Common.{◌≡◌, ℕ, ◌+◌, Option, None, List, [], ◌∷◌, ◌++◌, length, sym, ap, ◌∙◌, add-one, arith}
use Rattle.std.specs.Prelude.{slice_index_or}
use Rattle.savi_kinds.specs.declared.entry.How.{How}
use Rattle.checkpoint.specs.Columns.{Columns}
use Rattle.savi_segments.specs.Checkpoints.{up_to, ends_of}
use Rattle.savi_core.specs.Turns.{with_ends}
use Rattle.savi_core.proofs.Keeping.{ends_more, ends_none, ends_few, length_up_to}
use Rattle.savi_core.proofs.turning.keep_ends.Goals.{in-Some, in_default}
use Rattle.savi_core.proofs.turning.keep_ends.Goals as goal

abbrev end_at : (List (Option How)) → ℕ → Option How
end_at ends pass = slice_index_or ends pass None

pub loop-pass-init : goal.loop-pass-init
loop-pass-init c = ap (λ (ended : List (ℕ × How)). record c.args.into.now { ended = ended }) c.requires.empty

pub put_ended-requires : goal.put_ended-requires
put_ended-requires c =
    omega (
      arith,
      ap (λ (k : Columns). length k.ended) c.loop-pass.invariant,
      ends_few (end_at c.args.ends.now.ends) (up_to c.loop-pass.pass),
      length_up_to c.loop-pass.pass,
      c.loop-pass-test.true,
      c.requires.few,
    )

pub loop-pass-preserved : goal.loop-pass-preserved
loop-pass-preserved c =
    let ends : List (Option How) = c.args.ends.now.ends in
    let pass : ℕ = c.loop-pass.pass in
    let next : up_to (pass + 1) ≡ up_to pass ++ pass ∷ [] = ap up_to (add-one pass) in
    let last : ends_of (end_at ends) (up_to pass ++ pass ∷ []) ≡ ends_of (end_at ends) (up_to (pass + 1)) = ap (λ (ns : List ℕ). ends_of (end_at ends) ns) (sym next) in
    elim c.match-of.branch [
      | in-Some w ↦
          w.into-is
          ∙ w.put_ended.ensures
          ∙ ap (λ (k : Columns). record k { ended = k.ended ++ (pass, w.in-Some.how) ∷ [] }) c.loop-pass.invariant
          ∙ ap (λ (ended : List (ℕ × How)). with_ends ended c.args.into.now) (sym (ends_more (end_at ends) (up_to pass) pass w.in-Some.how (sym w.in-Some.ensures)) ∙ last)
      | in_default w ↦
          w.into-is
          ∙ c.loop-pass.invariant
          ∙ ap (λ (ended : List (ℕ × How)). with_ends ended c.args.into.now) (sym (ends_none (end_at ends) (up_to pass) pass (sym c.of.ensures ∙ w.in_default.is)) ∙ last)
    ]

pub returns : goal.returns
returns c =
    let same : c.loop-pass.pass ≡ c.args.passes = omega (arith, c.loop-pass-test.false, c.loop-pass.auto.pass-end) in
    c.loop-pass.invariant ∙ ap (λ (n : ℕ). with_ends (ends_of (end_at c.args.ends.now.ends) (up_to n)) c.args.into.now) same
