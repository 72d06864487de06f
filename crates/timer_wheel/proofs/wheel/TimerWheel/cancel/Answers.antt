use Rattle.std.proofs.Common.{◌≡◌, ◌+◌, cond, is_some, IsSome, length, None, sym, subst, ap, ◌∙◌, refl}
use Rattle.timer_wheel.specs.Arms.{Wheel, with_due}
use Rattle.timer_wheel.specs.Rows.{arms_in}
use Rattle.timer_wheel.specs.Kept.{HasRow}
use Rattle.timer_wheel.proofs.Slots.{arms_dropped, arms_same}
use Rattle.timer_wheel.proofs.Keeping.{IsChanged, IsDropped, drops_row, kept_dropped, one_each, none_due}
use Rattle.timer_wheel.proofs.wheel.TimerWheel.cancel.Goals.{After-take_out}
use Rattle.timer_wheel.proofs.wheel.TimerWheel.cancel.Goals as goal

pub take_out-requires-clause-there : goal.take_out-requires-clause-there
take_out-requires-clause-there c = subst IsSome (sym (c.self.invariant.indexed.told c.args.a.0 c.in-Some.key (sym c.in-Some.ensures)).there) refl

-- the row of the address, which is taken out
row : (c : After-take_out) → HasRow c.self.inside.rows.slots c.in-Some.key c.args.a.0
row c = c.self.invariant.indexed.told c.args.a.0 c.in-Some.key (sym c.in-Some.ensures)

dropped : (c : After-take_out) → IsDropped c.self.inside.rows c.take_out.new.rows c.in-Some.key (row c).armed
dropped c = record { there = (row c).there; updates = c.take_out.ensures.updates; len = c.take_out.ensures.len; capacity = c.take_out.ensures.capacity }

pub invariant_of-self : goal.invariant_of-self
invariant_of-self c =
    kept_dropped c.self.inside.rows c.take_out.new.rows c.self.inside.index c.remove.new.self c.self.inside.rings.later.items c.take_out.new.rings.later.items c.self.inside.rings.earlier.items c.take_out.new.rings.earlier.items c.self.inside.cursor c.self.inside.most c.in-Some.key (row c).armed (dropped c) c.take_out.ensures.wired
    (subst (λ n. IsChanged c.self.inside.index c.remove.new.self n None) (sym (row c).address) c.remove.ensures.keys)
    (subst (λ o. length c.remove.new.self.entries + cond (is_some o) 1 0 ≡ length c.self.inside.index.entries) (sym c.in-Some.ensures) c.remove.ensures.len) c.remove.ensures.most c.self.invariant

pub returns-in-Some : goal.returns-in-Some
returns-in-Some c =
    ap (λ xs. record { arms = xs; most = c.self.inside.most })
    (arms_dropped c.self.inside.rows.slots c.take_out.new.rows.slots c.in-Some.key (row c).armed (drops_row c.self.inside.rows c.take_out.new.rows c.in-Some.key (row c).armed (dropped c)) (one_each c.self.inside.rows c.self.inside.index c.self.invariant.indexed)
    ∙ ap (λ n. with_due n None (arms_in c.self.inside.rows.slots)) (row c).address)
    ∙ ap (λ (w : Wheel). record { arms = with_due c.args.a.0 None w.arms; most = w.most }) c.self.view_is

pub returns-in_default : goal.returns-in_default
returns-in_default c =
    sym c.self.view_is
    ∙ ap (λ xs. record { arms = xs; most = c.self.inside.most }) (arms_same c.self.inside.rows.slots c.args.a.0 (none_due c.self.inside.rows c.self.inside.index c.args.a.0 c.self.invariant.indexed (sym c.in_default.ensures)))
    ∙ ap (λ (w : Wheel). record { arms = with_due c.args.a.0 None w.arms; most = w.most }) c.self.view_is
