-- What a snoop keeps, and how it stands with the frames that passed.
use Rattle.std.specs.Prelude.{◌≡◌, ℕ, ◌≤◌, ◌==◌, Bool, false, List, Option, Some, None, slice_index_or}
use Rattle.savi_kinds.specs.declared.plan.Plan.{Plan}
use Rattle.savi_kinds.specs.declared.plan.PortPlan.{PortPlan}
use Rattle.savi_kinds.specs.declared.plan.Vlan.TheVariants.{Access}
use Rattle.savi_kinds.specs.declared.port.PortSet.{PortSet}
use Rattle.savi_kinds.specs.PortSets.{is_member}
use Rattle.savi_kinds.specs.Vlans.{vlan_among}
use Rattle.dhcp_states.specs.declared.request.Request.{Request}
use Rattle.dhcp_states.specs.Requests.{open_at}
use Rattle.v4_snoop.specs.declared.leases.Leases.{Leases}
use Rattle.v4_snoop.specs.KeptLeases.{HoldsLive}
use Rattle.v4_snoop.specs.Following.{Clients}
use Rattle.v4_snoop.specs.Reasons.{PassedFrame, is_host_port, is_server_port, known_clients, last_passed}

pub record Snooped : Type 0 where
  -- the ports of hosts, and those of servers
  pub hosts : PortSet
  pub servers : PortSet
  -- the VLANs of access ports, by the numbers of the ports
  pub vlans : List (Option ℕ)
  pub requests : List Request
  pub leases : Leases

-- the VLAN of each access port among these stands at its number
abbrev pub HasAccessVlans : List PortPlan → List (Option ℕ) → Type 0
HasAccessVlans ports vlans = (number vlan : ℕ) → number ≤ 16 → vlan_among ports number ≡ Some (Access vlan) → slice_index_or vlans number None ≡ Some vlan

-- the same requests are open at t, and the same leases are live
pub record FollowsClients (t : ℕ) (clients : Clients) (requests : List Request) (leases : Leases) : Type 0 where
  pub open_requests : open_at t requests ≡ open_at t clients.requests
  pub live_leases : HoldsLive t clients.leases leases.slots.items

-- what is kept is this plan, and at t these clients
pub record KnowsClients (plan : Plan) (t : ℕ) (clients : Clients) (snooped : Snooped) : Type 0 where
  pub hosts : (n : ℕ) → 1 ≤ n → is_member snooped.hosts n ≡ is_host_port plan n
  pub servers : (n : ℕ) → 1 ≤ n → is_member snooped.servers n ≡ is_server_port plan n
  pub vlans : HasAccessVlans plan.ports snooped.vlans
  pub per_port : snooped.leases.per_port ≡ plan.per_port
  pub follows : FollowsClients t clients snooped.requests snooped.leases

-- what is kept is what this plan and the frames that passed come to, at the moment of the last one and from then on
pub record HasSnooped (plan : Plan) (past : List PassedFrame) (snooped : Snooped) : Type 0 where
  pub knows : (t : ℕ) → last_passed past ≤ t → KnowsClients plan t (known_clients plan past) snooped

-- a client is the one with this hardware address
abbrev pub is_client : ℕ → Option ℕ → Bool
is_client mac None = false
is_client mac (Some client) = client == mac
