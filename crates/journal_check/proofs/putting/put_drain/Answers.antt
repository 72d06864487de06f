use Rattle.std.proofs.Common.{true≢false, ap₂, sym, ◌∙◌, subst, arith}
use Rattle.savi_history.specs.Events.{Drain}
use Rattle.journal_check.specs.declared.putting.Put.{Put}
use Rattle.journal_check.specs.declared.putting.Put.TheVariants.{Other}
use Rattle.journal_check.specs.Puts.{Puts}
use Rattle.journal_check.proofs.PutEvents.{drain_none, drain_closed, drain_empty, drain_over, drain_drained}
use Rattle.journal_check.proofs.putting.put_drain.Goals as goal

pub queued-queued-requires : goal.queued-queued-requires
queued-queued-requires c = (c.is_open.ensures.0 c.if-not-is_open.false).known

pub drain-requires-clause-most : goal.drain-requires-clause-most
drain-requires-clause-most c = (omega (arith, c.if-count-eq0.false), omega (arith, c.queued-queued.ensures.few, c.if-queued-count.false))

pub drain-requires-clause-port : goal.drain-requires-clause-port
drain-requires-clause-port c = (c.is_open.ensures.0 c.if-not-is_open.false).known

pub returns-then-count-eq0 : goal.returns-then-count-eq0
returns-then-count-eq0 c = drain_none c.args.core.now c.args.port c.args.count c.if-count-eq0.true

pub returns-then-not-is_open : goal.returns-then-not-is_open
returns-then-not-is_open c = drain_closed c.args.core.now c.args.port c.args.count (λ open_pass. true≢false (sym (c.is_open.ensures.1 open_pass) ∙ c.if-not-is_open.true))

pub returns-then-queued-eq0 : goal.returns-then-queued-eq0
returns-then-queued-eq0 c = drain_empty c.args.core.now c.args.port c.args.count (sym c.queued-queued.ensures.count ∙ c.if-queued-eq0.true)

pub returns-then-queued-count : goal.returns-then-queued-count
returns-then-queued-count c =
    let m = c.args.core.now in
    subst (λ (p : Put). Puts m (Drain c.args.port c.args.count) m p) (ap₂ Other (sym c.from.ensures) (sym c.from-then-queued-count.ensures))
    (drain_over m c.args.port c.args.count c.queued-queued.result (c.is_open.ensures.0 c.if-not-is_open.false) c.queued-queued.ensures.count c.if-queued-eq0.false c.if-queued-count.true)

pub returns : goal.returns
returns c =
    let m = c.args.core.now in
    subst (λ (p : Put). Puts m (Drain c.args.port c.args.count) c.drain.new.self p) (sym c.put_of.ensures)
    (drain_drained m c.drain.new.self c.args.port c.args.count c.drain.new.into c.drain.result (omega (arith, c.if-count-eq0.false)) (omega (arith, c.queued-queued.ensures.count, c.if-queued-count.false)) (c.is_open.ensures.0 c.if-not-is_open.false) c.drain.ensures)
