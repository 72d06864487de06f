-- How it ends that an address is live at a port.
use Rattle.std.specs.Prelude.{ℕ, ◌≡◌, ◌≢◌, ◌+◌, ◌≤◌, ◌⊎◌, None}
use Rattle.savi_kinds.specs.declared.port.Port.{Port}
use Rattle.fcfs_states.specs.declared.event.Ev.{Ev}
use Rattle.fcfs_states.specs.declared.event.Ev.TheVariants.{Sent, Dad, Na, TpDad, TpNa, Lease, Release, Fix, Clear}
use Rattle.fcfs_states.specs.declared.state.Fcfs.{Fcfs}
use Rattle.fcfs_states.specs.declared.state.Fcfs.TheVariants.{NoBind, Tentative, Valid, TestLt, TestVp}
use Rattle.fcfs_states.specs.declared.times.Times.{Times}
use Rattle.fcfs_states.specs.States.{Same}
use Rattle.mix_rules.specs.declared.state.AddrState.{AddrState}
use Rattle.mix_rules.specs.States.{owner_of, IsBoundAt}
use Rattle.mix_rules.specs.Ageing.{bound_at}

-- the operator bound the address, or took its bindings away
abbrev pub IsByOperator : Ev → Type 0
IsByOperator (Fix f) = Unit {0}
IsByOperator Clear = Unit {0}
IsByOperator (Sent r) = ⊥
IsByOperator (Dad r) = ⊥
IsByOperator (Na r) = ⊥
IsByOperator TpDad = ⊥
IsByOperator TpNa = ⊥
IsByOperator (Lease p valid) = ⊥
IsByOperator (Release p) = ⊥

-- an event that may end a binding by DHCP at the port: its client's release, a lease of lifetime 0 to its client, or a
-- lease to a client at another port
abbrev pub EndsHolding : Port → Ev → Type 0
EndsHolding port (Release p) = Same p port
EndsHolding port (Lease p valid) = (Same p port × (valid ≡ 0)) ⊎ (¬ Same p port × (valid ≢ 0))
EndsHolding port (Sent r) = ⊥
EndsHolding port (Dad r) = ⊥
EndsHolding port (Na r) = ⊥
EndsHolding port TpDad = ⊥
EndsHolding port TpNa = ⊥
EndsHolding port (Fix f) = ⊥
EndsHolding port Clear = ⊥

-- the event ended a binding by DHCP at the port
pub record EndsByEvent (port : Port) (event : Ev) (before after : AddrState) : Type 0 where
  pub was : IsBoundAt before.dhcp port
  pub how : EndsHolding port event
  pub over : ¬ IsBoundAt after.dhcp port

-- a binding by DHCP at the port ended by its time, at t at the latest
pub record EndsByTime (port : Port) (t : ℕ) (before : AddrState) : Type 0 where
  pub was : IsBoundAt before.dhcp port
  pub over : bound_at t before.dhcp ≡ None

-- the port is tested as the holder since this moment, or is bound until it and so is tested then
abbrev pub IsTested : Port → ℕ → Fcfs → Type 0
IsTested port since NoBind = ⊥
IsTested port since (Tentative p from two) = ⊥
IsTested port since (Valid p until) = Same p port × (until ≡ since)
IsTested port since (TestLt p from two) = Same p port × (from ≡ since)
IsTested port since (TestVp p q from two) = Same p port × (from ≡ since)

-- a test of the port as the holder ended, at t at the latest, at an address that had no owner
pub record EndsByTest (k : Times) (port : Port) (t : ℕ) (before : AddrState) : Type 0 where
  pub since : ℕ
  pub tested : IsTested port since before.fcfs
  pub by : since + k.test ≤ t
  pub alone : owner_of before.fixed before.dhcp ≡ None
