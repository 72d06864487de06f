-- What is known of clients: their open requests and their leases, and how both follow what messages tell.
use Rattle.std.specs.Prelude.{ℕ, ◌+◌, ◌*◌, ◌^◌, not, Bool, false, if◌then◌else◌, List, [], Option, Some, None}
use Rattle.std.specs.Int.{w128, to_be_bytes}
use Rattle.savi_kinds.specs.Ports.{number_of}
use Rattle.savi_kinds.specs.declared.port.Port.{Port}
use Rattle.dhcp_states.specs.declared.request.Request.{Request}
use Rattle.dhcp_states.specs.Requests.{request_of, open_at, is_full, without_pair, with_request, asker}
use Rattle.v4_snoop.specs.declared.lease.Lease.{Lease}
use Rattle.v4_snoop.specs.declared.told.Granted.{Granted}
use Rattle.v4_snoop.specs.declared.told.Told.{Told}
use Rattle.v4_snoop.specs.declared.told.Told.TheVariants.{Nothing, Asks, Ends, Refuses, Grants}
use Rattle.v4_snoop.specs.Leased.{v4_key, lease_of, has_lease_room, with_lease, lease_ended_at}

-- the requests, the one asked last at the end, and the leases
pub record Clients : Type 0 where
  pub requests : List Request
  pub leases : List Lease

abbrev pub no_clients : Clients
no_clients = record { requests = []; leases = [] }

-- who asks, as 16 octets that stand for a request's DUID: the VLAN in the upper half, the hardware address in the lower
abbrev pub client_id : ℕ → ℕ → List ℕ
client_id vlan mac = to_be_bytes w128 (vlan * 2 ^ 64 + mac)

-- A request at a port finds no place where 16 others are open there. Else it is opened or renewed there, and so moves from
-- the port where it stood.
abbrev pub finds_no_place : Port → ℕ → List ℕ → ℕ → List Request → Bool
finds_no_place port xid client t requests = is_full (number_of port) xid client (open_at t requests)

abbrev pub request_asked : Port → ℕ → List ℕ → ℕ → List Request → List Request
request_asked port xid client t requests =
    if finds_no_place port xid client t requests then requests else with_request (request_of port xid client t) (open_at t requests)

-- the requests once one is answered
abbrev pub request_answered : ℕ → List ℕ → ℕ → List Request → List Request
request_answered xid client t requests = without_pair xid client (open_at t requests)

-- the leases once one is granted to the client that asked at a port, if that has room for it
abbrev pub granted_to : ℕ → ℕ → ℕ → ℕ → Port → Option Granted → List Lease → List Lease
granted_to most vlan mac t port None leases = leases
granted_to most vlan mac t port (Some granted) leases =
    if has_lease_room most t (v4_key vlan granted.address) (number_of port) leases then with_lease (lease_of vlan port mac t granted) leases else leases

-- the same where somebody asked; else nothing is granted
abbrev pub granted_if : ℕ → ℕ → ℕ → ℕ → Option Port → Option Granted → List Lease → List Lease
granted_if most vlan mac t None granted leases = leases
granted_if most vlan mac t (Some port) granted leases = granted_to most vlan mac t port granted leases

-- what is known once a message at a port of a VLAN told this at t, where a port has at most so many addresses
abbrev pub after_telling : ℕ → ℕ → Port → ℕ → Told → Clients → Clients
after_telling most vlan port t Nothing clients = clients
after_telling most vlan port t (Asks xid mac) clients = record clients { requests = request_asked port xid (client_id vlan mac) t clients.requests }
after_telling most vlan port t (Ends address) clients =
    record clients { leases = lease_ended_at (v4_key vlan address) (number_of port) clients.leases }
after_telling most vlan port t (Refuses xid mac) clients = record clients { requests = request_answered xid (client_id vlan mac) t clients.requests }
after_telling most vlan port t (Grants xid mac granted) clients = record {
  requests = request_answered xid (client_id vlan mac) t clients.requests;
  leases = granted_if most vlan mac t (asker xid (client_id vlan mac) (open_at t clients.requests)) granted clients.leases;
}

-- a request finds no place
abbrev pub lacks_place : ℕ → Port → ℕ → Told → Clients → Bool
lacks_place vlan port t Nothing clients = false
lacks_place vlan port t (Asks xid mac) clients = finds_no_place port xid (client_id vlan mac) t clients.requests
lacks_place vlan port t (Ends address) clients = false
lacks_place vlan port t (Refuses xid mac) clients = false
lacks_place vlan port t (Grants xid mac granted) clients = false

-- a lease finds no room at the port that asked, where one did
abbrev pub finds_no_room : ℕ → ℕ → ℕ → Option Port → Option Granted → List Lease → Bool
finds_no_room most vlan t None granted leases = false
finds_no_room most vlan t (Some port) None leases = false
finds_no_room most vlan t (Some port) (Some granted) leases = not (has_lease_room most t (v4_key vlan granted.address) (number_of port) leases)

abbrev pub lacks_room : ℕ → ℕ → ℕ → Told → Clients → Bool
lacks_room most vlan t Nothing clients = false
lacks_room most vlan t (Asks xid mac) clients = false
lacks_room most vlan t (Ends address) clients = false
lacks_room most vlan t (Refuses xid mac) clients = false
lacks_room most vlan t (Grants xid mac granted) clients =
    finds_no_room most vlan t (asker xid (client_id vlan mac) (open_at t clients.requests)) granted clients.leases
