-- Moments and lifetimes that the tables take.
use Rattle.std.specs.Prelude.{ℕ, ◌<◌, ◌^◌, Option, Some, None}
use Rattle.fcfs_states.specs.declared.event.Ev.{Ev}
use Rattle.fcfs_states.specs.declared.event.Ev.TheVariants.{Sent, Dad, Na, TpDad, TpNa, Lease, Release, Fix, Clear}
use Rattle.fcfs_states.specs.Premises.{MomentsFit}
use Rattle.mix_rules.specs.declared.state.AddrState.{AddrState}
use Rattle.mix_rules.specs.Ageing.{bound_end}

-- the moment, where there is one, is below this one
abbrev pub IsMomentBelow : ℕ → Option ℕ → Type 0
IsMomentBelow limit None = Unit {0}
IsMomentBelow limit (Some moment) = moment < limit

-- as the tables take it: it is below 2^63
abbrev pub IsLow : Option ℕ → Type 0
IsLow moment = IsMomentBelow (2 ^ 63) moment

-- each moment in the state is below 2^63
pub record AllMomentsFit (s : AddrState) : Type 0 where
  pub fcfs : MomentsFit s.fcfs
  pub dhcp : IsLow (bound_end s.dhcp)

-- a lease is of a lifetime of 32 bits, as a lease in a message is (RFC 8415 section 21.6)
abbrev pub IsLeaseInRange : Ev → Type 0
IsLeaseInRange (Lease p valid) = valid < 2 ^ 32
IsLeaseInRange (Sent r) = Unit {0}
IsLeaseInRange (Dad r) = Unit {0}
IsLeaseInRange (Na r) = Unit {0}
IsLeaseInRange TpDad = Unit {0}
IsLeaseInRange TpNa = Unit {0}
IsLeaseInRange (Release p) = Unit {0}
IsLeaseInRange (Fix f) = Unit {0}
IsLeaseInRange Clear = Unit {0}
