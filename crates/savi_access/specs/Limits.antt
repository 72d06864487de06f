-- Which marks may come, and from which bases.
use Rattle.std.specs.Prelude.{◌≡◌, ℕ, ◌^◌, ◌≤◌, true, Option, Some, None, IsSome, List, [], ◌∷◌}
use Rattle.savi_kinds.specs.declared.port.Port.{Port}
use Rattle.savi_kinds.specs.Ports.{number_of}
use Rattle.fcfs_states.specs.declared.state.Fcfs.{Fcfs}
use Rattle.fcfs_states.specs.declared.state.Fcfs.TheVariants.{NoBind, Tentative, Valid, TestLt, TestVp}
use Rattle.mix_rules.specs.States.{is_held_at}
use Rattle.mix_rules.specs.Premises.{IsLeaseInRange}
use Rattle.savi_access.specs.declared.row.Row.{Row}
use Rattle.savi_access.specs.Rows.{state_in}
use Rattle.savi_access.specs.Ages.{AllStill}
use Rattle.savi_access.specs.Keeps.{AreSound, IsWithinRules}
use Rattle.savi_access.specs.Rooms.{port_of, room_for, IsFixable}
use Rattle.savi_access.specs.Bases.{AddrRules, AddrBase}
use Rattle.savi_access.specs.NamedMarks.{Named, last_moment}
use Rattle.savi_access.specs.Tables.{rows_at}

-- a state of first come that began at t or before
abbrev pub HasBegun : ℕ → Fcfs → Type 0
HasBegun t NoBind = Unit {0}
HasBegun t (Tentative p since two) = since ≤ t
HasBegun t (Valid p until) = Unit {0}
HasBegun t (TestLt p since two) = since ≤ t
HasBegun t (TestVp p q since two) = since ≤ t

-- each did
abbrev pub AllBegun : ℕ → List Row → Type 0
AllBegun t rows = (a : ℕ) → HasBegun t (state_in rows a).fcfs

-- each port that holds an address of this VLAN is of this VLAN
abbrev pub AreAtOwnPorts : AddrRules → ℕ → List Row → Type 0
AreAtOwnPorts r vlan rows = (a port : ℕ) → is_held_at port (state_in rows a) ≡ true → r.vlan_of port ≡ Some vlan

-- the port of an event, where it has one, is of this VLAN
abbrev pub IsOfVlan : AddrRules → ℕ → Option Port → Type 0
IsOfVlan r vlan None = Unit {0}
IsOfVlan r vlan (Some p) = r.vlan_of (number_of p) ≡ Some vlan

-- A base within the limits. The rows of each VLAN are a table, with moments below 2^63; each port that holds an address of
-- a VLAN is of that VLAN, and none holds more addresses than it may; each address that has a state is on-link, and the
-- state is sound for its method; nothing is due.
pub record IsAddrBase (r : AddrRules) (base : AddrBase) : Type 0 where
  pub early : base.moment ≤ 2 ^ 62
  pub kept : (vlan : ℕ) → IsWithinRules r.times r.per_port (base.rows vlan)
  pub ports : (vlan : ℕ) → AreAtOwnPorts r vlan (base.rows vlan)
  pub sound : (vlan : ℕ) → AreSound (r.method_of vlan) (base.rows vlan)
  pub still : (vlan : ℕ) → AllStill r.times base.moment (base.rows vlan)
  pub begun : (vlan : ℕ) → AllBegun base.moment (base.rows vlan)

-- A mark that may come after these. Its port is of its VLAN. Its room is that of its port before it, other marks of the
-- same moment among them: since the port holds addresses of its own VLAN alone, the rows of that VLAN say it.
pub record MayFollow (r : AddrRules) (base : AddrBase) (past : List Named) (named : Named) : Type 0 where
  pub order : last_moment base past ≤ named.moment
  pub early : named.moment ≤ 2 ^ 62
  pub on_link : IsSome (r.method_of named.vlan named.address)
  pub port : IsOfVlan r named.vlan (port_of named.event)
  pub lease : IsLeaseInRange named.event
  pub room : named.room ≡ room_for r.per_port (rows_at r base past named.moment named.vlan) named.event
  pub fix : IsFixable r.per_port (rows_at r base past named.moment named.vlan) named.address named.event

-- each mark may follow those before it
abbrev pub IsPast : AddrRules → AddrBase → List Named → Type 0
IsPast r base [] = Unit {0}
IsPast r base (named ∷ past) = MayFollow r base past named × IsPast r base past

-- the states at t, as what goes on from there has them for a base
abbrev pub base_at : AddrRules → AddrBase → List Named → ℕ → AddrBase
base_at r base past t = record { moment = t; rows = λ vlan. rows_at r base past t vlan }
