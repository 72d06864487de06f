use Rattle.std.proofs.Common.{true≢false, sym, ◌∙◌, subst, arith}
use Rattle.savi_history.specs.Events.{Frame}
use Rattle.journal_check.specs.declared.putting.Put.{Put}
use Rattle.journal_check.specs.Puts.{Puts}
use Rattle.journal_check.proofs.PutEvents.{frame_closed, frame_stepped}
use Rattle.journal_check.proofs.putting.put_frame.Goals as goal

pub step-requires-clause-may : goal.step-requires-clause-may
step-requires-clause-may c = (c.is_open.ensures.0 c.if-not-is_open.false, c.requires)

pub returns-then-not-is_open : goal.returns-then-not-is_open
returns-then-not-is_open c = frame_closed c.args.core.now c.args.port c.args.stamp c.args.octets.now (λ open_pass. true≢false (sym (c.is_open.ensures.1 open_pass) ∙ c.if-not-is_open.true))

pub returns : goal.returns
returns c =
    let m = c.args.core.now in
    subst (λ (p : Put). Puts m (Frame c.args.port c.args.stamp c.args.octets.now) c.step.new.self p) (sym c.put_of.ensures)
    (frame_stepped m c.step.new.self c.args.port c.args.stamp c.args.octets.now c.step.result (omega (arith, c.ranges.stamp.fits)) c.requires (c.is_open.ensures.0 c.if-not-is_open.false) c.step.ensures)
