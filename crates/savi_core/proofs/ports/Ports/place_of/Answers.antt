use Rattle.std.proofs.Common.{ℕ, length, ap, ◌∙◌, arith}
use Rattle.savi_kinds.specs.declared.plan.Plan.{Plan}
use Rattle.savi_kinds.specs.Ports.{number_of}
use Rattle.savi_kinds.specs.ValidPlan.{numbers_of}
use Rattle.savi_history.specs.Passes.{place_of}
use Rattle.savi_core.proofs.Places.{length-numbers}
use Rattle.savi_core.proofs.PlaceTable.{place_most}
use Rattle.savi_core.proofs.ports.Ports.place_of.Goals as goal

pub returns-clause-place : goal.returns-clause-place
returns-clause-place c =
    c.self.invariant.places c.get.result c.get.ensures.high
    ∙ ap (λ (n : ℕ). place_of c.self.inside.plan n) c.get.ensures.value
    ∙ ap (λ (p : Plan). place_of p (number_of c.args.port)) c.self.view_is

pub returns-clause-within : goal.returns-clause-within
returns-clause-within c =
    let plan = c.self.inside.plan in
    omega (
      arith,
      c.self.invariant.places c.get.result c.get.ensures.high,
      place_most (numbers_of plan.ports) c.get.result,
      length-numbers plan.ports,
      ap (λ (p : Plan). length p.ports) c.self.view_is,
    )
