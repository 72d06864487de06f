use Rattle.std.proofs.Common.{true≢false, sym, ◌∙◌, subst, arith}
use Rattle.savi_history.specs.Events.{Tick}
use Rattle.journal_check.specs.declared.putting.Put.{Put}
use Rattle.journal_check.specs.Puts.{Puts}
use Rattle.journal_check.proofs.PutEvents.{tick_closed, tick_stepped}
use Rattle.journal_check.proofs.putting.put_tick.Goals as goal

pub step-requires-clause-may : goal.step-requires-clause-may
step-requires-clause-may c = c.is_open.ensures.0 c.if-not-is_open.false

pub returns-then-not-is_open : goal.returns-then-not-is_open
returns-then-not-is_open c = tick_closed c.args.core.now c.args.stamp (λ open_pass. true≢false (sym (c.is_open.ensures.1 open_pass) ∙ c.if-not-is_open.true))

pub returns : goal.returns
returns c =
    let m = c.args.core.now in
    subst (λ (p : Put). Puts m (Tick c.args.stamp) c.step.new.self p) (sym c.put_of.ensures)
    (tick_stepped m c.step.new.self c.args.stamp c.step.result (omega (arith, c.ranges.stamp.fits)) (c.is_open.ensures.0 c.if-not-is_open.false) c.step.ensures)
