-- What a packet says of addresses, by what it shows behind its fixed header.
use Rattle.std.specs.Prelude.{ℕ, ◌<◌, ◌^◌, All, ◌==◌, ◌&&◌, ◌||◌, Bool, true, false, if◌then◌else◌, Option, Some, None}
use Rattle.arrayvec.specs.ArrayVec.{ArrayVec}
use Rattle.v6_chain.specs.declared.packet.Ip.{Ip}
use Rattle.nd_read.specs.declared.message.Nd.TheVariants.{Rs, Ns, Na, Other}
use Rattle.dhcp6_read.specs.declared.message.Dhcp.{Dhcp}
use Rattle.frame_class.specs.declared.classes.Class.{Class}
use Rattle.frame_class.specs.declared.classes.Class.TheVariants.{Ip6}
use Rattle.frame_class.specs.declared.classes.Read.{Read}
use Rattle.frame_class.specs.declared.classes.Read.TheVariants.{Icmp, Udp}

-- valid lifetimes are numbers of 32 bits (RFC 8415 section 21.6)
abbrev pub HasLifetimes : Dhcp → Type 0
HasLifetimes dhcp = All (λ lease. lease.valid < 2 ^ 32) dhcp.leases.items

-- those of a message of DHCPv6, where the packet shows one
abbrev pub ShowsLifetimes : Read → Type 0
ShowsLifetimes (Udp to first fragmented (Some dhcp)) = HasLifetimes dhcp
ShowsLifetimes _ = Unit {0}

-- the same of a frame of this class
abbrev pub AreLifetimes : Class → Type 0
AreLifetimes (Ip6 eth ip read) = ShowsLifetimes read
AreLifetimes _ = Unit {0}

-- the target of a solicitation for duplicate address detection (RFC 4862 section 5.4.2)
abbrev pub dad_target : Read → Option ℕ
dad_target (Icmp kind fragmented (Some (Ns target true))) = Some target.0
dad_target _ = None

-- the target of a neighbor advertisement (RFC 4861 section 4.4)
abbrev pub advertised : Read → Option ℕ
advertised (Icmp kind fragmented (Some (Na target flags))) = Some target.0
advertised _ = None

-- a router solicitation (RFC 4861 section 4.1)
abbrev pub is_router_solicitation : Read → Bool
is_router_solicitation (Icmp kind fragmented (Some Rs)) = true
is_router_solicitation _ = false

-- a message of a multicast listener: a report or a done of MLDv1 (types 131 and 132, RFC 2710), or a report of MLDv2 (type
-- 143, RFC 3810), unfragmented and with hop limit 1
abbrev pub is_listener_message : Ip → Read → Bool
is_listener_message ip (Icmp kind fragmented (Some Other)) = ((kind == 131) || ((kind == 132) || (kind == 143))) && (ip.hop == 1)
is_listener_message ip _ = false

-- the message of DHCPv6 to this port: 547 is that of servers and relays, 546 that of clients (RFC 8415 section 7.2)
abbrev pub dhcp_to : ℕ → Read → Option Dhcp
dhcp_to port (Udp to first fragmented (Some dhcp)) = if to == port then Some dhcp else None
dhcp_to port _ = None

-- a Request (3), a Renew (5), a Rebind (6), or a Solicit (1) with rapid commit, which a Reply may answer
abbrev pub is_asking : Dhcp → Bool
is_asking dhcp = (dhcp.kind == 3) || ((dhcp.kind == 5) || ((dhcp.kind == 6) || ((dhcp.kind == 1) && dhcp.rapid)))

-- the DUID of a client that asks for addresses
abbrev pub asking_duid : Dhcp → Option (ArrayVec ℕ)
asking_duid dhcp = if is_asking dhcp then dhcp.duid else None

-- the DUID of a client that a Reply (7) answers
abbrev pub answered_duid : Dhcp → Option (ArrayVec ℕ)
answered_duid dhcp = if dhcp.kind == 7 then dhcp.duid else None

-- a Release (8) or a Decline (9), after which a client doesn't use its addresses (RFC 8415 sections 18.2.7, 18.2.8)
abbrev pub gives_up : Dhcp → Bool
gives_up dhcp = (dhcp.kind == 8) || (dhcp.kind == 9)
