use Rattle.std.proofs.Common.{◌≡◌, ◌+◌, ◌%◌, ◌≤◌, Some, sym, subst, arith}
use Rattle.timer_wheel.specs.Rings.{bucket_of, slice_of}
use Rattle.timer_wheel.specs.Kept.{IsEarly}
use Rattle.timer_wheel.specs.Searches.{LeastOf}
use Rattle.timer_wheel.proofs.Seeking.{IsSought, sought_here, sought_next, sought_early, sought_all}
use Rattle.timer_wheel.proofs.buckets.seek.Goals as goal

pub returns-then-is_in-clause-least : goal.returns-then-is_in-clause-least
returns-then-is_in-clause-least c =
    sought_here c.args.rows.now.slots c.args.from c.loop-step.step c.args.last c.loop-step.least c.first_of-first.result c.requires.wired.fits c.loop-step.invariant
    (subst (λ n. LeastOf c.args.rows.now.slots (λ armed. bucket_of armed ≡ (c.args.from + c.loop-step.step) % n) c.first_of-first.result) c.from.ensures c.first_of-first.ensures) (sym c.if-is_in.ensures)

pub loop-step-preserved : goal.loop-step-preserved
loop-step-preserved c =
    subst (IsSought c.args.rows.now.slots c.args.from (c.loop-step.step + 1)) (sym c.sooner-least.ensures)
    (sought_next c.args.rows.now.slots c.args.from c.loop-step.step c.args.last c.loop-step.least c.first_of-first.result c.requires.wired.fits c.loop-step.invariant
    (subst (λ n. LeastOf c.args.rows.now.slots (λ armed. bucket_of armed ≡ (c.args.from + c.loop-step.step) % n) c.first_of-first.result) c.from.ensures c.first_of-first.ensures) (sym c.if-is_in.ensures) c.if-slice-last.false c.requires.last_fits)

-- the least that was found
sought : (c : goal.After-slice-cursor) → IsSought c.args.rows.now.slots c.args.from c.loop-step.step (Some c.in-Some.armed)
sought c = subst (IsSought c.args.rows.now.slots c.args.from c.loop-step.step) c.in-Some.is c.loop-step.invariant

turn : (c : goal.After-slice-cursor) → 1024 ≤ c.loop-step.step
turn c = omega (arith, c.loop-step-test.false, c.from-step-end.ensures)

pub returns-in-Some-clause-early : goal.returns-in-Some-clause-early
returns-in-Some-clause-early c =
    subst (IsEarly c.args.rows.now.slots) (sym c.slice-cursor.ensures) (sought_early c.args.rows.now.slots c.args.from c.loop-step.step c.in-Some.armed c.requires.wired.fits (sought c) (turn c))

pub returns-in-Some-clause-least : goal.returns-in-Some-clause-least
returns-in-Some-clause-least c = sought_all c.args.rows.now.slots c.args.from c.loop-step.step (λ armed. slice_of armed ≤ c.args.last) (Some c.in-Some.armed) (sought c) (turn c)
