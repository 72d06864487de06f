-- Times, moments and events that the tables take.
use Rattle.std.specs.Prelude.{ℕ, ◌<◌, ◌≤◌, ◌^◌}
use Rattle.fcfs_states.specs.declared.times.Times.{Times}
use Rattle.fcfs_states.specs.declared.event.Ev.{Ev}
use Rattle.fcfs_states.specs.declared.event.Ev.TheVariants.{Sent, Dad, Na, TpDad, TpNa, Lease, Release, Fix, Clear}
use Rattle.fcfs_states.specs.declared.state.Fcfs.{Fcfs}
use Rattle.fcfs_states.specs.declared.state.Fcfs.TheVariants.{NoBind, Tentative, Valid, TestLt, TestVp}

-- the second probe comes after the first one and within the test, and no sum of a moment and a time wraps
pub record AreTimes (k : Times) : Type 0 where
  pub gap : 1 ≤ k.gap
  pub gap_first : k.gap < k.test
  pub test : k.test < 2 ^ 62
  pub life : 1 ≤ k.life
  pub life_most : k.life < 2 ^ 62

-- each moment in the state is below this one
abbrev pub AreMomentsBelow : ℕ → Fcfs → Type 0
AreMomentsBelow limit NoBind = Unit {0}
AreMomentsBelow limit (Tentative p since two) = since < limit
AreMomentsBelow limit (Valid p until) = until < limit
AreMomentsBelow limit (TestLt p since two) = since < limit
AreMomentsBelow limit (TestVp p q since two) = since < limit

-- as the tables take them: each is below 2^63
abbrev pub MomentsFit : Fcfs → Type 0
MomentsFit state = AreMomentsBelow (2 ^ 63) state

-- the events of first come, first served; the others are those of DHCP and of the operator
abbrev pub IsFcfsEvent : Ev → Type 0
IsFcfsEvent (Sent p) = Unit {0}
IsFcfsEvent (Dad p) = Unit {0}
IsFcfsEvent (Na p) = Unit {0}
IsFcfsEvent TpDad = Unit {0}
IsFcfsEvent TpNa = Unit {0}
IsFcfsEvent (Lease p valid) = ⊥
IsFcfsEvent (Release p) = ⊥
IsFcfsEvent (Fix p) = ⊥
IsFcfsEvent Clear = ⊥
