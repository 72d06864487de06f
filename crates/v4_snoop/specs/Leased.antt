-- Leases: which client has which address at which port, and until when. An address is one of a VLAN, so that a key has
-- both.
use Rattle.std.specs.Prelude.{ℕ, ◌+◌, ◌*◌, ◌^◌, ◌==◌, ◌&&◌, ◌||◌, not, nat_lt, Bool, true, if◌then◌else◌, List, ◌∷◌, filter, count_by, Option, Some, None}
use Rattle.std.specs.List.{list_any}
use Rattle.savi_kinds.specs.Ports.{number_of}
use Rattle.savi_kinds.specs.declared.port.Port.{Port}
use Rattle.v4_snoop.specs.declared.lease.Lease.{Lease}
use Rattle.v4_snoop.specs.declared.told.Granted.{Granted}

-- an address of 32 bits in a VLAN
abbrev pub v4_key : ℕ → ℕ → ℕ
v4_key vlan address = vlan * 2 ^ 32 + address

-- a moment lies strictly before the end of a lease, if it has one
abbrev pub is_before_end : ℕ → Option ℕ → Bool
is_before_end t None = true
is_before_end t (Some until) = nat_lt t until

-- a lease is live strictly before the moment at which it ends
abbrev pub is_live_lease : ℕ → Lease → Bool
is_live_lease t lease = is_before_end t lease.until

abbrev pub is_lease_of : ℕ → Lease → Bool
is_lease_of key lease = lease.key == key

abbrev pub is_lease_at : ℕ → Lease → Bool
is_lease_at port lease = number_of lease.port == port

-- the address is live at a port: a client that asked there has its lease
abbrev pub is_live_at : ℕ → ℕ → ℕ → List Lease → Bool
is_live_at t key port leases = list_any (λ lease. is_live_lease t lease && (is_lease_of key lease && is_lease_at port lease)) leases

-- it is live there for the client with this hardware address
abbrev pub is_live_for : ℕ → ℕ → ℕ → ℕ → List Lease → Bool
is_live_for t key port mac leases =
    list_any (λ lease. is_live_lease t lease && ((is_lease_of key lease && is_lease_at port lease) && (lease.mac == mac))) leases

-- how many addresses are live at a port
abbrev pub live_leases : ℕ → ℕ → List Lease → ℕ
live_leases t port leases = count_by (λ lease. is_live_lease t lease && is_lease_at port lease) leases

-- a port has room for an address where fewer than so many are live there, or it is one of them
abbrev pub has_lease_room : ℕ → ℕ → ℕ → ℕ → List Lease → Bool
has_lease_room most t key port leases = nat_lt (live_leases t port leases) most || is_live_at t key port leases

-- the leases but for those of a kind
abbrev pub leases_but : (Lease → Bool) → List Lease → List Lease
leases_but is_gone leases = filter (λ lease. not (is_gone lease)) leases

-- the leases with this one in place of the one of its address
abbrev pub with_lease : Lease → List Lease → List Lease
with_lease lease leases = lease ∷ leases_but (is_lease_of lease.key) leases

-- the leases once that of an address at a port has ended
abbrev pub lease_ended_at : ℕ → ℕ → List Lease → List Lease
lease_ended_at key port leases = leases_but (λ lease. is_lease_of key lease && is_lease_at port lease) leases

-- the moment (ms) at which a lease of so many seconds ends: never for 0xffffffff, which stands for infinity (RFC 2131 section
-- 3.3)
abbrev pub lease_until : ℕ → ℕ → Option ℕ
lease_until t seconds = if seconds == 0xffffffff then None else Some (t + 1000 * seconds)

-- the lease that is granted at t to the client with this hardware address, which asked at a port of a VLAN
abbrev pub lease_of : ℕ → Port → ℕ → ℕ → Granted → Lease
lease_of vlan port mac t granted = record { key = v4_key vlan granted.address; port = port; mac = mac; until = lease_until t granted.seconds }
