use Rattle.std.proofs.Common.{◌≡◌, ◌<◌, false, length, get_or, sym, ap, ◌∙◌, arith}
use Rattle.savi_core.specs.PassMarks.{PassMarks}
use Rattle.savi_core.proofs.Ending.{open_fewer, open_past}
use Rattle.savi_core.proofs.passes.Passes.end.Goals.{then-pass-self, else-pass-self}
use Rattle.savi_core.proofs.passes.Passes.end.Goals as goal

pub overflow_sub-self : goal.overflow_sub-self
overflow_sub-self c =
    let inside = c.self.inside in
    let runs : get_or inside.ended c.args.pass false ≡ false = ap (λ (m : PassMarks). get_or m.ended c.args.pass false) c.self.view_is ∙ c.requires.running in
    let within : c.args.pass < length inside.ended = omega (arith, c.self.told, c.requires.pass) in
    omega (arith, open_fewer inside.ended c.args.pass inside.inputs c.if-pass-self.true within runs, c.self.invariant.0)

pub invariant_of-self : goal.invariant_of-self
invariant_of-self c =
    let inside = c.self.inside in
    let after = c.if-pass-self.self-inside in
    let runs : get_or inside.ended c.args.pass false ≡ false = ap (λ (m : PassMarks). get_or m.ended c.args.pass false) c.self.view_is ∙ c.requires.running in
    let within : c.args.pass < length inside.ended = omega (arith, c.self.told, c.requires.pass) in
    elim c.if-pass-self.branch [
      | then-pass-self w ↦
          rw w.self-inside-is (omega (arith, open_fewer inside.ended c.args.pass inside.inputs w.if-pass-self.true within runs, c.self.invariant.0), c.self.invariant.1)
      | else-pass-self w ↦
          rw w.self-inside-is (c.self.invariant.0 ∙ sym (open_past inside.ended c.args.pass inside.inputs w.if-pass-self.false), c.self.invariant.1)
    ]
