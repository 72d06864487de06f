use Rattle.std.proofs.Common.{◌≤◌, ◌/◌, sym, subst, ap, ◌∙◌}
use Rattle.savi_kinds.specs.Orders.{IsRising}
use Rattle.timer_wheel.specs.Arms.{armed_address, Wheel, first_armed, due_within}
use Rattle.timer_wheel.proofs.Slots.{arms_in-rising}
use Rattle.timer_wheel.specs.Rings.{slice_of}
use Rattle.timer_wheel.specs.Searches.{LeastOf}
use Rattle.timer_wheel.proofs.Taking.{nothing_due, least_late, least_due}
use Rattle.timer_wheel.proofs.Keeping.{one_each}
use Rattle.timer_wheel.proofs.wheel.TimerWheel.first_due.Goals as goal

pub returns-in_err-armed-clause-value : goal.returns-in_err-armed-clause-value
returns-in_err-armed-clause-value c =
    c.from_residual.ensures
    ∙ sym
    (ap (λ (w : Wheel). due_within c.args.t (first_armed w.arms)) (sym c.self.view_is)
    ∙ nothing_due c.args.t c.self.inside.rows.slots (subst (LeastOf c.self.inside.rows.slots (λ armed. slice_of armed ≤ c.args.t / 64)) c.in_err-armed.was c.seek-found.ensures.least))

pub returns-then-armed-t-clause-value : goal.returns-then-armed-t-clause-value
returns-then-armed-t-clause-value c =
    sym
    (ap (λ (w : Wheel). due_within c.args.t (first_armed w.arms)) (sym c.self.view_is)
    ∙ least_late c.args.t c.self.inside.rows.slots c.in_ok-armed.armed c.self.invariant.wired.fits
    (subst (LeastOf c.self.inside.rows.slots (λ armed. slice_of armed ≤ c.args.t / 64)) c.in_ok-armed.was c.seek-found.ensures.least) c.if-armed-t.true)

pub returns-clause-value : goal.returns-clause-value
returns-clause-value c =
    sym
    (ap (λ (w : Wheel). due_within c.args.t (first_armed w.arms)) (sym c.self.view_is)
    ∙ least_due c.args.t c.self.inside.rows.slots c.in_ok-armed.armed (one_each c.self.inside.rows c.self.inside.index c.self.invariant.indexed) c.self.invariant.wired.fits
    (subst (LeastOf c.self.inside.rows.slots (λ armed. slice_of armed ≤ c.args.t / 64)) c.in_ok-armed.was c.seek-found.ensures.least) c.if-armed-t.false)

pub returns-in_err-armed-clause-rising : goal.returns-in_err-armed-clause-rising
returns-in_err-armed-clause-rising c = subst (λ (w : Wheel). IsRising armed_address w.arms) c.self.view_is (arms_in-rising c.self.inside.rows.slots)

pub returns-then-armed-t-clause-rising : goal.returns-then-armed-t-clause-rising
returns-then-armed-t-clause-rising c = subst (λ (w : Wheel). IsRising armed_address w.arms) c.self.view_is (arms_in-rising c.self.inside.rows.slots)

pub returns-clause-rising : goal.returns-clause-rising
returns-clause-rising c = subst (λ (w : Wheel). IsRising armed_address w.arms) c.self.view_is (arms_in-rising c.self.inside.rows.slots)
