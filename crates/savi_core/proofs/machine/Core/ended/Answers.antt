use Rattle.std.proofs.Common.{◌≡◌, true, false, get_or, ap, ◌∙◌, arith}
use Rattle.savi_history.specs.Passes.{has_pass, pass_of}
use Rattle.savi_core.specs.Machines.{Machine}
use Rattle.savi_core.proofs.Places.{pass_within}
use Rattle.savi_core.proofs.Remembering.{pass_small}
use Rattle.savi_core.proofs.machine.Core.ended.Goals as goal

pub has_ended-requires : goal.has_ended-requires
has_ended-requires c =
    let inside = c.self.inside in
    let known : has_pass inside.ports c.args.who ≡ true = ap (λ (m : Machine). has_pass m.plan c.args.who) c.self.view_is ∙ c.requires in
    omega (arith, c.pass_of.ensures, pass_small c.self.invariant.0 c.args.who known)

pub returns : goal.returns
returns c =
    let inside = c.self.inside in
    let known : has_pass inside.ports c.args.who ≡ true = ap (λ (m : Machine). has_pass m.plan c.args.who) c.self.view_is ∙ c.requires in
    rw (← c.self.view_is) (c.has_ended.ensures ∙ ap (λ n. get_or inside.passes.ended n false) c.pass_of.ensures ∙ c.self.invariant.0.passes (pass_of inside.ports c.args.who) (pass_within inside.ports c.args.who known))
