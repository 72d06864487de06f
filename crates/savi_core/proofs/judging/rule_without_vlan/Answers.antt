use Rattle.std.proofs.Common.{◌≡◌, Option, Some, None, List, refl, sym, ap, ◌∙◌}
use Rattle.std.specs.Option.{unwrap_or}
use Rattle.savi_kinds.specs.declared.plan.Role.TheVariants.{Trusted}
use Rattle.savi_kinds.specs.declared.verdict.Rule.{Rule}
use Rattle.savi_kinds.specs.declared.verdict.Rule.TheVariants.{Tagged}
use Rattle.ra_guard.specs.GuardOf.{guard_of}
use Rattle.ra_guard.proofs.RuleOf.{guard_is}
use Rattle.savi_access.specs.Marks.{Mark}
use Rattle.savi_access.specs.Judged.{drops}
use Rattle.savi_history.specs.Marks.{untold}
use Rattle.savi_core.proofs.judging.rule_without_vlan.Goals as goal

-- without another rule it is that on tags
by_tag : (past : List Mark) (rule : Option Rule) → untold past rule ≡ drops (unwrap_or rule Tagged) past
by_tag past None = refl
by_tag past (Some rule) = refl

pub returns : goal.returns
returns c = λ past.
    ap (untold past) (c.guard.ensures.only (guard_of Trusted c.args.plan.now.drop_unknown c.args.class.now) (guard_is Trusted c.args.plan.now.drop_unknown c.args.class.now))
    ∙ by_tag past c.guard.result
    ∙ ap (λ (rule : Rule). drops rule past) (sym c.unwrap_or.ensures)
