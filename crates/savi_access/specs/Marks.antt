-- What happened, as a list of marks, the newest first: to addresses, and to the requests of DHCPv6 clients (RFC 7513
-- section 6).
use Rattle.std.specs.Prelude.{ℕ, ◌==◌, if◌then◌else◌, List, [], ◌∷◌}
use Rattle.fcfs_states.specs.declared.event.Ev.{Ev}
use Rattle.dhcp_states.specs.declared.request.Request.{Request}
use Rattle.dhcp_states.specs.Requests.{open_at, with_request, without_pair}
use Rattle.savi_access.specs.NamedMarks.{Named}
use Rattle.savi_access.specs.Rooms.{room_for}
use Rattle.savi_access.specs.Tables.{rows_at}
use Rattle.savi_access.specs.Limits.{base_at as addr_base_at}
use Rattle.savi_access.specs.Rules.{AccessRules, AccessBase}

pub data Mark : Type 0 where
  -- something happened to an address
  Told : Named → Mark
  -- a client of this VLAN asked for addresses
  Asked : (vlan : ℕ) (request : Request) → Mark
  -- the request of this VLAN with this transaction id and DUID was met
  Met : (vlan moment tid : ℕ) (duid : List ℕ) → Mark

-- what happened to addresses
abbrev pub told : List Mark → List Named
told [] = []
told (Told named ∷ past) = named ∷ told past
told (Asked vlan request ∷ past) = told past
told (Met vlan moment tid duid ∷ past) = told past

abbrev pub moment_of : Mark → ℕ
moment_of (Told named) = named.moment
moment_of (Asked vlan request) = request.opened
moment_of (Met vlan moment tid duid) = moment

-- the mark of an event on an address of a VLAN at moment t, after these: with it stands whether the event's port had room
-- before it
abbrev pub named_for : AccessRules → AccessBase → ℕ → ℕ → List Mark → ℕ → Ev → Named
named_for r base vlan t past a event = record {
  vlan = vlan;
  address = a;
  moment = t;
  event = event;
  room = room_for r.addresses.per_port (rows_at r.addresses base.addresses (told past) t vlan) event;
}

-- the marks with that of an event
abbrev pub event_told : AccessRules → AccessBase → ℕ → ℕ → List Mark → ℕ → Ev → List Mark
event_told r base vlan t past a event = Told (named_for r base vlan t past a event) ∷ past

-- the moment of the newest mark, or of what came before all of them
abbrev pub newest_moment : AccessBase → List Mark → ℕ
newest_moment base [] = base.addresses.moment
newest_moment base (mark ∷ past) = moment_of mark

-- the requests of a VLAN: those of the base; one that was asked stands for the one with its pair, and one that was met is
-- gone
abbrev pub requests_after : AccessBase → ℕ → List Mark → List Request
requests_after base vlan [] = base.requests vlan
requests_after base vlan (Told named ∷ past) = requests_after base vlan past
requests_after base vlan (Asked of request ∷ past) =
    if of == vlan then with_request request (requests_after base vlan past) else requests_after base vlan past
requests_after base vlan (Met of moment tid duid ∷ past) =
    if of == vlan then without_pair tid duid (requests_after base vlan past) else requests_after base vlan past

-- those of them that are open at t
abbrev pub open_requests : AccessBase → ℕ → List Mark → ℕ → List Request
open_requests base vlan past t = open_at t (requests_after base vlan past)

-- the states and the open requests at t, as what goes on from there has them for a base
abbrev pub base_at : AccessRules → AccessBase → List Mark → ℕ → AccessBase
base_at r base past t = record {
  addresses = addr_base_at r.addresses base.addresses (told past) t;
  requests = λ vlan. open_requests base vlan past t;
}
