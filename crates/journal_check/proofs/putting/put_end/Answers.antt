use Rattle.std.proofs.Common.{true≢false, sym, ◌∙◌, subst}
use Rattle.savi_history.specs.Events.{End}
use Rattle.journal_check.specs.declared.putting.Put.{Put}
use Rattle.journal_check.specs.Puts.{Puts}
use Rattle.journal_check.proofs.PutEvents.{end_closed, end_never, end_stepped}
use Rattle.journal_check.proofs.putting.put_end.Goals as goal

pub may_end-requires-clause-open : goal.may_end-requires-clause-open
may_end-requires-clause-open c = c.is_open.ensures.0 c.if-not-is_open.false

pub step-requires-clause-may : goal.step-requires-clause-may
step-requires-clause-may c = (c.is_open.ensures.0 c.if-not-is_open.false, c.may_end.ensures.0 c.if-not-may_end.false)

pub returns-then-not-is_open : goal.returns-then-not-is_open
returns-then-not-is_open c = end_closed c.args.core.now c.args.who c.args.how (λ open_pass. true≢false (sym (c.is_open.ensures.1 open_pass) ∙ c.if-not-is_open.true))

pub returns-then-not-may_end : goal.returns-then-not-may_end
returns-then-not-may_end c = end_never c.args.core.now c.args.who c.args.how (λ may. true≢false (sym (c.may_end.ensures.1 may) ∙ c.if-not-may_end.true))

pub returns : goal.returns
returns c =
    let m = c.args.core.now in
    subst (λ (p : Put). Puts m (End c.args.who c.args.how) c.step.new.self p) (sym c.put_of.ensures)
    (end_stepped m c.step.new.self c.args.who c.args.how c.step.result (c.is_open.ensures.0 c.if-not-is_open.false) (c.may_end.ensures.0 c.if-not-may_end.false) c.step.ensures)
