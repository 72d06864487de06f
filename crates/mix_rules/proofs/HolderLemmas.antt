-- Who comes to hold an address.
use Rattle.std.proofs.Common.{◌≡◌, ℕ, Bool, true, ◌⊎◌, inl, inr, refl, Option, Some, None, List, rules}
use Rattle.savi_kinds.specs.declared.port.Port.{Port}
use Rattle.savi_kinds.specs.declared.plan.Method.{Method}
use Rattle.fcfs_states.specs.declared.answer.Probe.{Probe}
use Rattle.fcfs_states.specs.declared.event.Ev.{Ev}
use Rattle.fcfs_states.specs.declared.state.Fcfs.{Fcfs}
use Rattle.fcfs_states.specs.declared.state.Fcfs.TheVariants.{NoBind, Tentative, Valid, TestLt, TestVp}
use Rattle.fcfs_states.specs.declared.times.Times.{Times}
use Rattle.fcfs_states.specs.States.{IsHeld}
use Rattle.fcfs_states.specs.Premises.{AreTimes}
use Rattle.fcfs_states.specs.Ageing.{AgeRow, Ages}
use Rattle.fcfs_states.proofs.AgeingLemmas.{Ages-aged}
use Rattle.dhcp_states.specs.declared.bound.Bound.{Bound}
use Rattle.mix_rules.specs.declared.state.AddrState.{AddrState}
use Rattle.mix_rules.specs.States.{IsHeldAt, IsFixedAt, IsBoundAt, has_state, has_state_by}
use Rattle.mix_rules.specs.Ageing.{bound_at, aged_state}
use Rattle.mix_rules.specs.Next.{next_state}
use Rattle.mix_rules.specs.Holders.{MakesHolder}

module _ (m : Method) (k : Times) (t : ℕ) (room : Bool) (s : AddrState) (event : Ev) (port : Port) where
  held-fixed : ¬ IsFixedAt s.fixed port → IsFixedAt (next_state m k t room s event).1.fixed port → MakesHolder port room event
  held-fixed free held = search rules

  held-bound : ¬ IsBoundAt s.dhcp port → ¬ IsHeld s.fcfs port → IsBoundAt (next_state m k t room s event).1.dhcp port → MakesHolder port room event
  held-bound free none held = search rules

  held-fcfs : ¬ IsHeld s.fcfs port → IsHeld (next_state m k t room s event).1.fcfs port → MakesHolder port room event
  held-fcfs free held = search rules

  pub next-held : ¬ IsHeldAt s port → IsHeldAt (next_state m k t room s event).1 port → MakesHolder port room event
  next-held free (inl fixed) = held-fixed (λ was. free (inl was)) fixed
  next-held free (inr (inl bound)) = held-bound (λ was. free (inr (inl was))) (λ was. free (inr (inr was))) bound
  next-held free (inr (inr fcfs)) = held-fcfs (λ was. free (inr (inr was))) fcfs

-- a row of the ageing table leaves no new holder
row-held : (k : Times) {state mid : Fcfs} {due : ℕ} {probe : Option Probe} (port : Port) → AgeRow k state due mid probe → IsHeld mid port → IsHeld state port
row-held k port AgeRow.tentative_probe held = held
row-held k port AgeRow.test_lt_probe held = held
row-held k port AgeRow.test_vp_probe held = held
row-held k port AgeRow.tentative_ends held = held
row-held k port AgeRow.valid_ends held = held
row-held k port AgeRow.test_lt_ends held = absurd held
row-held k port AgeRow.test_vp_ends held = inr held

ages-held : (k : Times) (t : ℕ) {state new : Fcfs} {probes : List (ℕ × Probe)} (port : Port) → Ages k t state probes new → IsHeld new port → IsHeld state port
ages-held k t port (Ages.rests rested) held = held
ages-held k t port (Ages.goes_on row by first more) held = row-held k port row (ages-held k t port more held)

someone : (fixed : Option Port) (fcfs : Fcfs) (dhcp : Option Bound) → has_state_by fixed fcfs dhcp ≡ true → (port : Port) × (IsFixedAt fixed port ⊎ IsBoundAt dhcp port ⊎ IsHeld fcfs port)
someone (Some f) fcfs dhcp some = (f, inl refl)
someone None NoBind (Some bound) some = (bound.p, inr (inl refl))
someone None NoBind None some = cc
someone None (Tentative p since two) dhcp some = (p, inr (inr refl))
someone None (Valid p until) dhcp some = (p, inr (inr refl))
someone None (TestLt p since two) dhcp some = (p, inr (inr refl))
someone None (TestVp p q since two) dhcp some = (p, inr (inr (inl refl)))

-- a binding that stands is the one that stood
bound-held : (t : ℕ) (dhcp : Option Bound) (port : Port) → IsBoundAt (bound_at t dhcp) port → IsBoundAt dhcp port
bound-held t dhcp port held = search rules

pub someone-holds : (s : AddrState) → has_state s ≡ true → (port : Port) × IsHeldAt s port
someone-holds s some = someone s.fixed s.fcfs s.dhcp some

pub aged-held : (k : Times) (t : ℕ) (s : AddrState) (port : Port) → AreTimes k → IsHeldAt (aged_state k t s).state port → IsHeldAt s port
aged-held k t s port times (inl fixed) = inl fixed
aged-held k t s port times (inr (inl bound)) = inr (inl (bound-held t s.dhcp port bound))
aged-held k t s port times (inr (inr fcfs)) = inr (inr (ages-held k t port (Ages-aged k times t s.fcfs) fcfs))
