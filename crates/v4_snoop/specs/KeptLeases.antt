-- How leases are kept: each in a slot of its port, and in an index of their keys.
use Rattle.std.specs.Prelude.{ℕ, ◌≡◌, ◌≢◌, ◌+◌, ◌*◌, ◌-◌, ◌≤◌, ◌<◌, ◌&&◌, Bool, true, false, if◌then◌else◌, is_some, List, length, count_by, slice_index_or, Option, Some, None}
use Rattle.savi_kinds.specs.Ports.{number_of}
use Rattle.addr_index.specs.Indexes.{key_in}
use Rattle.v4_snoop.specs.declared.lease.Lease.{Lease}
use Rattle.v4_snoop.specs.declared.leases.Leases.{Leases}
use Rattle.v4_snoop.specs.Leased.{is_live_lease}

-- what a slot has
abbrev pub lease_in : List (Option Lease) → ℕ → Option Lease
lease_in slots slot = slice_index_or slots slot None

-- a slot is one of those that a port uses: so many of its 64
pub record IsSlotOfPort (most port slot : ℕ) : Type 0 where
  pub first : 64 * (port - 1) ≤ slot
  pub past : slot < 64 * (port - 1) + most

-- a slot has a lease of a kind
abbrev pub has_lease : (Lease → Bool) → Option Lease → Bool
has_lease test None = false
has_lease test (Some lease) = test lease

-- what a slot has is left where it is of a kind
abbrev pub left_if : (Lease → Bool) → Option Lease → Option Lease
left_if test None = None
left_if test (Some lease) = if test lease then Some lease else None

-- a slot has the lease with this key
abbrev pub HasLeaseOf : ℕ → Option Lease → Type 0
HasLeaseOf key None = ⊥
HasLeaseOf key (Some lease) = lease.key ≡ key

-- no slot has a lease with this key
abbrev pub HasNoneOf : ℕ → List (Option Lease) → Type 0
HasNoneOf key slots = (slot : ℕ) (lease : Lease) → lease_in slots slot ≡ Some lease → lease.key ≢ key

-- this slot has it, with this lease, and no other does
pub record HasOneOf (key : ℕ) (slots : List (Option Lease)) (slot : ℕ) (lease : Lease) : Type 0 where
  pub there : lease_in slots slot ≡ Some lease
  pub of : lease.key ≡ key
  pub only : (other : ℕ) (found : Lease) → lease_in slots other ≡ Some found → found.key ≡ key → other ≡ slot

-- a slot of a port has no lease that is live at t
pub record IsIdleSlot (slots : List (Option Lease)) (most port t slot : ℕ) : Type 0 where
  pub place : IsSlotOfPort most port slot
  pub ended : (lease : Lease) → lease_in slots slot ≡ Some lease → is_live_lease t lease ≡ false

-- each slot that a port uses has one
abbrev pub AreAllLive : List (Option Lease) → ℕ → ℕ → ℕ → Type 0
AreAllLive slots most port t = (slot : ℕ) → IsSlotOfPort most port slot → has_lease (is_live_lease t) (lease_in slots slot) ≡ true

-- a slot of a port has no lease that is live at t but that with this key
pub record IsFreeFor (key : ℕ) (slots : List (Option Lease)) (most port t slot : ℕ) : Type 0 where
  pub place : IsSlotOfPort most port slot
  pub ended : (lease : Lease) → lease_in slots slot ≡ Some lease → lease.key ≢ key → is_live_lease t lease ≡ false

-- slots and index belong together
pub record KeepsLeases (kept : Leases) : Type 0 where
  -- 64 slots for each of 16 ports
  pub size : length kept.slots.items ≡ 1024
  pub own : (slot : ℕ) (lease : Lease) → lease_in kept.slots.items slot ≡ Some lease → IsSlotOfPort kept.per_port (number_of lease.port) slot
  pub indexed : (slot : ℕ) (lease : Lease) → lease_in kept.slots.items slot ≡ Some lease → key_in kept.index lease.key ≡ Some slot
  pub there : (key slot : ℕ) → key_in kept.index key ≡ Some slot → HasLeaseOf key (lease_in kept.slots.items slot)
  pub taken : length kept.index.entries ≡ count_by is_some kept.slots.items
  pub room : kept.index.most ≡ 1024
  pub most : kept.per_port ≤ 64

-- the leases that are live at t are those that slots have, in whatever order
pub record HoldsLive (t : ℕ) (leases : List Lease) (slots : List (Option Lease)) : Type 0 where
  pub counted : (test : Lease → Bool) → count_by (has_lease (λ lease. is_live_lease t lease && test lease)) slots ≡ count_by (λ lease. is_live_lease t lease && test lease) leases
