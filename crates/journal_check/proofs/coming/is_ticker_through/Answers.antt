use Rattle.std.proofs.Common.{true≢false, ◌+◌, length, sym, ◌∙◌, arith}
use Rattle.savi_core.specs.Machines.{base_of}
use Rattle.journal_check.proofs.OpenPasses.{inputs_ended, through}
use Rattle.journal_check.proofs.coming.is_ticker_through.Goals as goal

pub returns-then-left-gt0 : goal.returns-then-left-gt0
returns-then-left-gt0 c = (
  λ no. absurd (true≢false (sym no)),
  λ all. let m = c.args.core.now in absurd (omega (arith, inputs_ended m.plan (base_of m) m.past all, c.inputs_left-left.ensures, c.if-left-gt0.true)),
)

pub returns : goal.returns
returns c =
    let m = c.args.core.now in (
      λ yes. through m.plan (base_of m) m.past (omega (arith, c.inputs_left-left.ensures, c.if-left-gt0.false)) (sym c.ended.ensures ∙ yes),
      λ all. c.ended.ensures ∙ all (length m.plan.ports + 1) (omega arith),
    )
