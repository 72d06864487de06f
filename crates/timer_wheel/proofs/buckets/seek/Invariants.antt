use Rattle.timer_wheel.proofs.Seeking.{IsSought}
use Rattle.timer_wheel.proofs.buckets.seek.Given as goal

abbrev pub invariant-loop-step : goal.invariant-loop-step
invariant-loop-step l = IsSought l.rows.slots l.from l.step l.least
