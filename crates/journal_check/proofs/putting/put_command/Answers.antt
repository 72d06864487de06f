use Rattle.std.proofs.Common.{true≢false, sym, ◌∙◌, subst, arith}
use Rattle.savi_history.specs.Events.{Command}
use Rattle.journal_check.specs.declared.putting.Put.{Put}
use Rattle.journal_check.specs.Puts.{Puts}
use Rattle.journal_check.proofs.PutEvents.{command_closed, command_stepped}
use Rattle.journal_check.proofs.putting.put_command.Goals as goal

pub step-requires-clause-may : goal.step-requires-clause-may
step-requires-clause-may c = (c.is_open.ensures.0 c.if-not-is_open.false, c.requires)

pub returns-then-not-is_open : goal.returns-then-not-is_open
returns-then-not-is_open c = command_closed c.args.core.now c.args.stamp c.args.line.now (λ open_pass. true≢false (sym (c.is_open.ensures.1 open_pass) ∙ c.if-not-is_open.true))

pub returns : goal.returns
returns c =
    let m = c.args.core.now in
    subst (λ (p : Put). Puts m (Command c.args.stamp c.args.line.now) c.step.new.self p) (sym c.put_of.ensures)
    (command_stepped m c.step.new.self c.args.stamp c.args.line.now c.step.result (omega (arith, c.ranges.stamp.fits)) c.requires (c.is_open.ensures.0 c.if-not-is_open.false) c.step.ensures)
