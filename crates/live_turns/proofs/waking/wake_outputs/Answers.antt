use Rattle.std.proofs.Common.{◌≡◌, length, ap, arith}
use Rattle.core_keep.specs.Seen.{past_seen}
use Rattle.live_turns.proofs.WokenPorts.{none_behind, woken_below_all, woken_below_none, woken_below_next}
use Rattle.live_turns.proofs.waking.wake_outputs.Goals as goal

pub loop-number-init : goal.loop-number-init
loop-number-init c = let none : length c.new-woken.result.items ≡ 0 = ap length c.new-woken.ensures in (woken_below_none c.args.ports c.new-woken.result.items, omega (arith, none), none_behind (past_seen c.args.pass.now) c.new-woken.result.items c.new-woken.ensures)

pub loop-number-preserved : goal.loop-number-preserved
loop-number-preserved c =
    ((woken_below_next c.loop-number.number c.args.ports c.loop-number.woken.items c.wake_next.new.woken.items c.wake_next.ensures.kept c.wake_next.ensures.here c.loop-number.invariant.0), c.wake_next.ensures.few, c.wake_next.ensures.behind c.loop-number.invariant.2)

pub returns-clause-all : goal.returns-clause-all
returns-clause-all c = let last = c.loop-number-test.false in woken_below_all c.loop-number.number c.args.ports c.loop-number.woken.items (omega (arith, last)) c.loop-number.invariant.0

pub returns-clause-behind : goal.returns-clause-behind
returns-clause-behind c = c.loop-number.invariant.2
