use Rattle.std.proofs.Common.{true≢false, sym, ◌∙◌, subst, arith}
use Rattle.savi_history.specs.Events.{Long}
use Rattle.journal_check.specs.declared.putting.Put.{Put}
use Rattle.journal_check.specs.Puts.{Puts}
use Rattle.journal_check.proofs.PutEvents.{long_short, long_closed, long_stepped}
use Rattle.journal_check.proofs.putting.put_long.Goals as goal

pub step-requires-clause-may : goal.step-requires-clause-may
step-requires-clause-may c = (c.is_open.ensures.0 c.if-not-is_open.false, c.if-size-le-FRAME_OCTETS_MOST.false)

pub returns-then-size-le-FRAME_OCTETS_MOST : goal.returns-then-size-le-FRAME_OCTETS_MOST
returns-then-size-le-FRAME_OCTETS_MOST c = long_short c.args.core.now c.args.port c.args.stamp c.args.len c.if-size-le-FRAME_OCTETS_MOST.true

pub returns-then-not-is_open : goal.returns-then-not-is_open
returns-then-not-is_open c = long_closed c.args.core.now c.args.port c.args.stamp c.args.len (λ open_pass. true≢false (sym (c.is_open.ensures.1 open_pass) ∙ c.if-not-is_open.true))

pub returns : goal.returns
returns c =
    let m = c.args.core.now in
    subst (λ (p : Put). Puts m (Long c.args.port c.args.stamp c.args.len) c.step.new.self p) (sym c.put_of.ensures)
    (long_stepped m c.step.new.self c.args.port c.args.stamp c.args.len c.step.result (omega (arith, c.ranges.stamp.fits)) c.if-size-le-FRAME_OCTETS_MOST.false (omega (arith, c.ranges.len.fits)) (c.is_open.ensures.0 c.if-not-is_open.false) c.step.ensures)
