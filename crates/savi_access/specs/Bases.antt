-- What states go on from, and what a plan says of addresses. VLANs are told apart by number, and each has states of its own.
use Rattle.std.specs.Prelude.{ℕ, Option, List, []}
use Rattle.savi_kinds.specs.declared.plan.Method.{Method}
use Rattle.fcfs_states.specs.declared.times.Times.{Times}
use Rattle.savi_access.specs.declared.row.Row.{Row}
use Rattle.savi_access.specs.Rows.{IsTable}

pub record AddrRules : Type 0 where
  -- the times by which states age
  pub times : Times
  -- how an address is assigned, by VLAN and address: none where it isn't on-link
  pub method_of : ℕ → ℕ → Option Method
  -- the VLAN of a port whose sources are validated, by the port's number; none of any other number
  pub vlan_of : ℕ → Option ℕ
  -- how many addresses a port may hold
  pub per_port : ℕ

pub record AddrBase : Type 0 where
  -- the moment of what came last before the marks
  pub moment : ℕ
  -- the rows of each VLAN then
  pub rows : ℕ → List Row

-- the start of a switch: no address has a state
abbrev pub no_states : AddrBase
no_states = record { moment = 0; rows = λ vlan. [] }

-- the rows of each VLAN are a table
abbrev pub AreTables : AddrBase → Type 0
AreTables base = (vlan : ℕ) → IsTable (base.rows vlan)
