-- What is known goes on to be known when time passes, and follows what is told.
use Rattle.std.proofs.Common.{◌≡◌, ℕ, ◌≤◌, ◌||◌, not, Bool, true, false, cond, List, Some, refl, sym, ◌∙◌, ap, subst, inl, inr}
use Rattle.std.proofs.lemmas.Bool.{cases_Bool}
use Rattle.savi_kinds.specs.Ports.{number_of}
use Rattle.savi_kinds.specs.PortSets.{is_member}
use Rattle.savi_kinds.specs.declared.plan.Plan.{Plan}
use Rattle.savi_kinds.specs.declared.port.Port.{Port}
use Rattle.dhcp_states.specs.declared.request.Request.{Request}
use Rattle.dhcp_states.specs.Requests.{request_of, open_at, is_full, without_pair, with_request}
use Rattle.dhcp_states.proofs.Counts.{open_at-later, open_at-without_pair, open_at-with_request}
use Rattle.v4_snoop.specs.declared.lease.Lease.{Lease}
use Rattle.v4_snoop.specs.declared.leases.Leases.{Leases}
use Rattle.v4_snoop.specs.declared.told.Granted.{Granted}
use Rattle.v4_snoop.specs.Leased.{v4_key, has_lease_room, with_lease, lease_of}
use Rattle.v4_snoop.specs.KeptLeases.{HoldsLive}
use Rattle.v4_snoop.specs.Following.{Clients, finds_no_place, request_asked, request_answered, granted_to}
use Rattle.v4_snoop.specs.Reasons.{is_host_port, is_server_port, validates}
use Rattle.v4_snoop.specs.Snooped.{Snooped, KnowsClients}
use Rattle.v4_snoop.proofs.Holding.{HoldsLive-later}

-- requests that are open now are the ones that are open later
pub open_later : (t u : ℕ) (now then : List Request) → t ≤ u → open_at t now ≡ open_at t then → open_at u now ≡ open_at u then
open_later t u now then before same = sym (open_at-later t u now before) ∙ ap (open_at u) same ∙ open_at-later t u then before

pub Knows-later : {plan : Plan} {t u : ℕ} {clients : Clients} {snooped : Snooped} → t ≤ u → KnowsClients plan t clients snooped → KnowsClients plan u clients snooped
Knows-later {plan} {t} {u} {clients} {snooped} before knows = record {
  hosts = knows.hosts;
  servers = knows.servers;
  vlans = knows.vlans;
  per_port = knows.per_port;
  follows = record { open_requests = open_later t u snooped.requests clients.requests before knows.follows.open_requests; live_leases = HoldsLive-later before knows.follows.live_leases };
}

-- the requests once one was asked, if it found a place
pub open_asked : (port : Port) (xid : ℕ) (client : List ℕ) (t : ℕ) (requests before now : List Request) (found : Bool) → open_at t requests ≡ open_at t before → found ≡ not (finds_no_place port xid client t requests) → (found ≡ true → open_at t now ≡ with_request (request_of port xid client t) (open_at t requests)) → (found ≡ false → open_at t now ≡ open_at t requests) → open_at t now ≡ open_at t (request_asked port xid client t before)
open_asked port xid client t requests before now found same place opened kept =
    let full : finds_no_place port xid client t requests ≡ finds_no_place port xid client t before = ap (is_full (number_of port) xid client) same in
    let request : Request = request_of port xid client t in
    elim (cases_Bool (finds_no_place port xid client t before)) [
      | inl is ↦
          let none : found ≡ false = place ∙ ap not (full ∙ is) in
          kept none ∙ same ∙ sym (ap (λ b. open_at t (cond b before (with_request request (open_at t before)))) is)
      | inr isnt ↦
          let some : found ≡ true = place ∙ ap not (full ∙ isnt) in
          opened some ∙ ap (with_request request) same ∙ sym (open_at-with_request t request before refl)
          ∙ sym (ap (λ b. open_at t (cond b before (with_request request (open_at t before)))) isnt)
    ]

-- once one is answered
pub open_answered : (xid : ℕ) (client : List ℕ) (t : ℕ) (requests before now : List Request) → open_at t requests ≡ open_at t before → open_at t now ≡ without_pair xid client (open_at t requests) → open_at t now ≡ open_at t (request_answered xid client t before)
open_answered xid client t requests before now same gone = gone ∙ ap (without_pair xid client) same ∙ sym (open_at-without_pair t xid client before)

-- whether the sources of a port are validated
pub validates_is : {plan : Plan} {t : ℕ} {clients : Clients} {snooped : Snooped} → KnowsClients plan t clients snooped → (n : ℕ) → 1 ≤ n → (is_member snooped.hosts n || is_member snooped.servers n) ≡ validates plan n
validates_is {plan} {t} {clients} {snooped} knows n low =
    ap (λ b. b || is_member snooped.servers n) (knows.hosts n low) ∙ ap (λ b. is_host_port plan n || b) (knows.servers n low)

-- a host's port is one of these
pub no_host : (plan : Plan) (n : ℕ) → validates plan n ≡ false → is_host_port plan n ≡ false
no_host plan n isnt =
    elim (cases_Bool (is_host_port plan n)) [
      | inl host ↦ let is : true ≡ false = sym (ap (λ b. b || is_server_port plan n) host) ∙ isnt in cc
      | inr other ↦ other
    ]

-- other requests are known, or other leases
pub knows_requests : {plan : Plan} {t : ℕ} {clients : Clients} {snooped : Snooped} → KnowsClients plan t clients snooped → (now then : List Request) → open_at t now ≡ open_at t then → KnowsClients plan t (record clients { requests = then }) (record snooped { requests = now })
knows_requests knows now then same = record {
  hosts = knows.hosts;
  servers = knows.servers;
  vlans = knows.vlans;
  per_port = knows.per_port;
  follows = record { open_requests = same; live_leases = knows.follows.live_leases };
}

pub knows_leases : {plan : Plan} {t : ℕ} {clients : Clients} {snooped : Snooped} → KnowsClients plan t clients snooped → (now : Leases) (leases : List Lease) → now.per_port ≡ snooped.leases.per_port → HoldsLive t leases now.slots.items → KnowsClients plan t (record clients { leases = leases }) (record snooped { leases = now })
knows_leases knows now leases same holds = record {
  hosts = knows.hosts;
  servers = knows.servers;
  vlans = knows.vlans;
  per_port = same ∙ knows.per_port;
  follows = record { open_requests = knows.follows.open_requests; live_leases = holds };
}

-- whether a lease found room
pub room_found : {plan : Plan} {t : ℕ} {clients : Clients} {snooped : Snooped} → KnowsClients plan t clients snooped → (vlan mac : ℕ) (asker : Port) (granted : Granted) (lease : Lease) (found : Bool) → lease ≡ lease_of vlan asker mac t granted
    → ((leases : List Lease) → HoldsLive t leases snooped.leases.slots.items → found ≡ has_lease_room snooped.leases.per_port t lease.key (number_of lease.port) leases)
    → found ≡ has_lease_room plan.per_port t (v4_key vlan granted.address) (number_of asker) clients.leases
room_found {plan} {t} {clients} {snooped} knows vlan mac asker granted lease found is room =
    room clients.leases knows.follows.live_leases
    ∙ ap (λ (l : Lease). has_lease_room snooped.leases.per_port t l.key (number_of l.port) clients.leases) is
    ∙ ap (λ n. has_lease_room n t (v4_key vlan granted.address) (number_of asker) clients.leases) knows.per_port

-- the leases once one was granted, if it found room
pub holds_granted : {plan : Plan} {t : ℕ} {clients : Clients} {snooped : Snooped} → KnowsClients plan t clients snooped → (vlan mac : ℕ) (asker : Port) (granted : Granted) (lease : Lease) (found : Bool) (now : Leases) → lease ≡ lease_of vlan asker mac t granted
    → found ≡ has_lease_room plan.per_port t (v4_key vlan granted.address) (number_of asker) clients.leases
    → (found ≡ true → (leases : List Lease) → HoldsLive t leases snooped.leases.slots.items → HoldsLive t (with_lease lease leases) now.slots.items)
    → (found ≡ false → now ≡ snooped.leases)
    → HoldsLive t (granted_to plan.per_port vlan mac t asker (Some granted) clients.leases) now.slots.items
holds_granted {plan} {t} {clients} {snooped} knows vlan mac asker granted lease found now is room bound full =
    let after : Bool → List Lease = λ b. cond b (with_lease (lease_of vlan asker mac t granted) clients.leases) clients.leases in
    elim (cases_Bool found) [
      | inl fits ↦
          subst (λ b. HoldsLive t (after b) now.slots.items) (sym fits ∙ room) (subst (λ (l : Lease). HoldsLive t (with_lease l clients.leases) now.slots.items) is (bound fits clients.leases knows.follows.live_leases))
      | inr fails ↦
          subst (λ b. HoldsLive t (after b) now.slots.items) (sym fails ∙ room) (subst (λ (kept : Leases). HoldsLive t clients.leases kept.slots.items) (sym (full fails)) knows.follows.live_leases)
    ]
