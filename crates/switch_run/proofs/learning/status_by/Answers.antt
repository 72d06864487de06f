use Rattle.std.proofs.Common.{false, true, ap, refl, sym, ◌∙◌}
use Rattle.switch_run.specs.Learnings.{is_done}
use Rattle.switch_run.proofs.LearnThrough.{status_is}
use Rattle.switch_run.proofs.learning.status_by.Goals as goal

pub returns-in-Failed : goal.returns-in-Failed
returns-in-Failed c = status_is false false _ (is_done c.args.put) c.args.endings.now (sym c.some_failed.ensures ∙ c.if-some_failed.false) (ap is_done c.in-Failed.is) refl

pub returns-then-some_malformed : goal.returns-then-some_malformed
returns-then-some_malformed c = status_is false true true (is_done c.args.put) c.args.endings.now (sym c.some_failed.ensures ∙ c.if-some_failed.false) (ap is_done c.in-Done.is) (sym c.some_malformed.ensures ∙ c.if-some_malformed.true)

pub returns-else-some_malformed : goal.returns-else-some_malformed
returns-else-some_malformed c = status_is false true false (is_done c.args.put) c.args.endings.now (sym c.some_failed.ensures ∙ c.if-some_failed.false) (ap is_done c.in-Done.is) (sym c.some_malformed.ensures ∙ c.if-some_malformed.false)
