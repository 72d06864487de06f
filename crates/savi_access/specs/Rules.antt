-- What a plan says on access, and what states and requests go on from.
use Rattle.std.specs.Prelude.{◌≡◌, ◌≢◌, ℕ, ◌<◌, ◌≤◌, ◌+◌, Bool, Some, List, [], All}
use Rattle.savi_kinds.specs.declared.plan.Role.{Role}
use Rattle.savi_kinds.specs.declared.plan.Role.TheVariants.{Trusted}
use Rattle.savi_kinds.specs.Ports.{number_of}
use Rattle.dhcp_states.specs.declared.request.Request.{Request}
use Rattle.dhcp_states.specs.Limits.{IsWithinLimits}
use Rattle.savi_access.specs.Bases.{AddrRules, AddrBase, no_states}
use Rattle.savi_access.specs.Limits.{IsAddrBase}

pub record AccessRules : Type 0 where
  -- how addresses are assigned, by which times they age, what a port may hold
  pub addresses : AddrRules
  -- the role of a port, by its number
  pub role_of : ℕ → Role
  -- packets with a next header that isn't known are dropped
  pub drop_unknown : Bool
  -- sources are validated
  pub validates : Bool

pub record AccessBase : Type 0 where
  -- the moment, and the states of addresses then
  pub addresses : AddrBase
  -- the requests of each VLAN then, the one that was asked last at the end
  pub requests : ℕ → List Request

-- the start of a switch
abbrev pub nothing_yet : AccessBase
nothing_yet = record { addresses = no_states; requests = λ vlan. [] }

-- the ports that have a VLAN are those whose sources are validated
abbrev pub HasHostPorts : AccessRules → Type 0
HasHostPorts r = (number vlan : ℕ) → r.addresses.vlan_of number ≡ Some vlan → r.role_of number ≢ Trusted

-- a request of this VLAN that is open at this moment: at a port of it, and opened by then, but less than 120 s ago
pub record IsRequestOf (r : AccessRules) (vlan moment : ℕ) (request : Request) : Type 0 where
  pub port : r.addresses.vlan_of (number_of request.port) ≡ Some vlan
  pub opened : request.opened ≤ moment
  pub recent : moment < request.opened + 120000

-- A base within the limits. A port that has a VLAN isn't trusted. States are within theirs; in each VLAN at most 16 requests
-- are of one port, at most one has a given pair of transaction id and DUID, and each is open.
pub record IsAccessBase (r : AccessRules) (base : AccessBase) : Type 0 where
  pub roles : HasHostPorts r
  pub addresses : IsAddrBase r.addresses base.addresses
  pub limits : (vlan : ℕ) → IsWithinLimits (base.requests vlan)
  pub requests : (vlan : ℕ) → All (IsRequestOf r vlan base.addresses.moment) (base.requests vlan)
