use Rattle.ra_guard.proofs.RuleOf.{guard_is, guard_only}
use Rattle.ra_guard.proofs.laws.a_class_has_its_rule.Goals as goal

pub returns-clause-first : goal.returns-clause-first
returns-clause-first c = guard_is

pub returns-clause-only : goal.returns-clause-only
returns-clause-only c = guard_only
