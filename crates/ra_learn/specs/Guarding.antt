-- Stateful RA-Guard (RFC 6105 section 3): which ports forward router advertisements, and which advertisements they let
-- pass. The window begins with the first frame and has a length in ms. A port that isn't trusted learns until it ends, and
-- forwards from then on where routers of the plan's prefixes alone were heard there.
use Rattle.std.specs.Prelude.{ℕ, ◌+◌, ◌==◌, ◌&&◌, ◌||◌, nat_lt, Bool, true, false, if◌then◌else◌, List, ◌∷◌, Option, Some, None, filter, filter_map, is_some, slice_get}
use Rattle.std.specs.List.{list_any, list_all}
use Rattle.std.specs.Option.{option_and_then}
use Rattle.savi_kinds.specs.declared.address.Prefix.{Prefix}
use Rattle.savi_kinds.specs.declared.plan.Plan.{Plan}
use Rattle.savi_kinds.specs.declared.plan.PortPlan.{PortPlan}
use Rattle.savi_kinds.specs.declared.plan.Role.{Role}
use Rattle.savi_kinds.specs.declared.plan.Role.TheVariants as roles
use Rattle.savi_kinds.specs.Ports.{number_of}
use Rattle.ra_learn.specs.declared.advert.Ra.{Ra}
use Rattle.ra_learn.specs.declared.guard.Guard.{Guard}
use Rattle.ra_learn.specs.declared.guard.Guard.TheVariants.{Learning, Blocking, Forwarding}
use Rattle.ra_learn.specs.Carried.{carried}
use Rattle.ra_learn.specs.Link.{link_nets}
use Rattle.ra_learn.specs.Sightings.{Sighting, Heard, first_moment, good_advert}

-- a port whose plan says that it is trusted
abbrev pub is_trusted_role : Role → Bool
is_trusted_role roles.Host = false
is_trusted_role roles.Server = false
is_trusted_role roles.Trusted = true

abbrev pub is_trusted_port : ℕ → PortPlan → Bool
is_trusted_port number p = (number == number_of p.number) && is_trusted_role p.role

-- the port of this number is trusted
abbrev pub trusts : Plan → ℕ → Bool
trusts plan number = list_any (is_trusted_port number) plan.ports

-- the same prefix
abbrev pub same_prefix : Prefix → Prefix → Bool
same_prefix p q = (p.net.0 == q.net.0) && (p.len == q.len)

-- a prefix is one of these
abbrev pub is_among : List Prefix → Prefix → Bool
is_among nets p = list_any (same_prefix p) nets

-- each prefix of an advertisement is one of these
abbrev pub names_known : List Prefix → Ra → Bool
names_known nets ra = list_all (λ a. is_among nets a.prefix) ra.prefixes.items

-- an advertisement is acceptable at a trusted port, and at another where each of its prefixes is one of the link's
abbrev pub is_acceptable : Plan → ℕ → Heard → Bool
is_acceptable plan number heard = trusts plan number || names_known (link_nets plan.prefixes) heard.ra

-- the window that began then is still open at this moment
abbrev pub is_window_open : ℕ → Option ℕ → ℕ → Bool
is_window_open window None moment = true
is_window_open window (Some first) moment = nat_lt moment (first + window)

-- what was seen at a port in the window
abbrev pub is_early_at : ℕ → Option ℕ → ℕ → Sighting → Bool
is_early_at window first number one = (number_of one.port == number) && is_window_open window first one.moment

-- the good advertisements that were seen at a port in the window
abbrev pub early_adverts : ℕ → List Sighting → ℕ → List Heard
early_adverts window past number = filter_map good_advert (filter (is_early_at window (first_moment past) number) past)

-- a good advertisement was seen at the port in the window, and each was acceptable
abbrev pub is_qualified : Plan → ℕ → List Sighting → ℕ → Bool
is_qualified plan window past number =
    is_some (slice_get (early_adverts window past number) 0) && list_all (is_acceptable plan number) (early_adverts window past number)

-- the state of a port at a moment
abbrev pub guard_at : Plan → ℕ → List Sighting → ℕ → ℕ → Guard
guard_at plan window past number moment =
    if trusts plan number then Forwarding
    else if is_window_open window (first_moment past) moment then Learning
    else if is_qualified plan window past number then Forwarding
    else Blocking

abbrev pub is_forwarding : Guard → Bool
is_forwarding Learning = false
is_forwarding Blocking = false
is_forwarding Forwarding = true

-- this advertisement, where its port forwards by then and it is acceptable there
abbrev pub if_let_pass : Plan → ℕ → List Sighting → Sighting → Heard → Option Heard
if_let_pass plan window past one heard =
    if is_forwarding (guard_at plan window (one ∷ past) (number_of one.port) one.moment) && is_acceptable plan (number_of one.port) heard then Some heard else None

-- the advertisement that passes, where what was seen behind this past is one that does
abbrev pub passed : Plan → ℕ → List Sighting → Sighting → Option Heard
passed plan window past one = option_and_then (if_let_pass plan window past one) (good_advert one)

-- whether what was seen passes, where it is a router advertisement
abbrev pub answer : Plan → ℕ → List Sighting → Sighting → Option Bool
answer plan window past one = if is_some (carried one.octets) then Some (is_some (passed plan window past one)) else None
