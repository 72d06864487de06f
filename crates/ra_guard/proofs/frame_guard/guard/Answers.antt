use Rattle.std.proofs.Common.{Some, sym, ◌∙◌}
use Rattle.savi_kinds.specs.declared.verdict.Rule.TheVariants.{Malformed, ReservedGroup, SourceMac}
use Rattle.ra_guard.specs.Guard.{Applies}
use Rattle.ra_guard.proofs.RuleOrder.{one_first}
use Rattle.ra_guard.proofs.HeaderRules.{malformed_first, reserved_first, group_first}
use Rattle.ra_guard.proofs.frame_guard.guard.Goals as goal

pub returns-in_default-clause-only : goal.returns-in_default-clause-only
returns-in_default-clause-only c = λ other is.
    one_first (Applies c.args.role c.args.drop_unknown c.args.class.now) other (Some Malformed) is
    (malformed_first c.args.role c.args.drop_unknown c.args.class.now (sym c.eth.ensures ∙ c.in_default.is))

pub returns-then-is_reserved-clause-only : goal.returns-then-is_reserved-clause-only
returns-then-is_reserved-clause-only c = λ other is.
    one_first (Applies c.args.role c.args.drop_unknown c.args.class.now) other (Some ReservedGroup) is
    (reserved_first c.args.role c.args.drop_unknown c.args.class.now c.in-Some.eth (sym c.eth.ensures ∙ c.in-Some.is) (sym c.is_reserved.ensures ∙ c.if-is_reserved.true))

pub returns-then-is_group-clause-only : goal.returns-then-is_group-clause-only
returns-then-is_group-clause-only c = λ other is.
    one_first (Applies c.args.role c.args.drop_unknown c.args.class.now) other (Some SourceMac) is
    (group_first c.args.role c.args.drop_unknown c.args.class.now c.in-Some.eth (sym c.eth.ensures ∙ c.in-Some.is) (sym c.is_reserved.ensures ∙ c.if-is_reserved.false) (sym c.is_group.ensures ∙ c.if-is_group.true))
