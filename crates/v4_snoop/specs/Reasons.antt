-- The reasons for which a frame that passed is reported: a table whose first row that applies counts. It is read in what is
-- known before the frame. A frame is one of a VLAN, and is judged by its inner frame and by what is known of that VLAN; one
-- that has no VLAN at its port is passed over.
use Rattle.std.specs.Prelude.{ℕ, ◌==◌, ◌&&◌, ◌||◌, not, Bool, true, false, if◌then◌else◌, List, [], ◌∷◌, Option, Some, None, IsSome}
use Rattle.std.specs.List.{list_any}
use Rattle.std.specs.Option.{option_map, option_and_then}
use Rattle.byteorder.specs.Endian.{big_number}
use Rattle.eth_frame.specs.declared.header.Eth.{Eth}
use Rattle.eth_frame.specs.Frame.{header_of, payload_of}
use Rattle.eth_frame.specs.Tags.{inner}
use Rattle.savi_kinds.specs.Ports.{number_of}
use Rattle.savi_kinds.specs.declared.plan.Plan.{Plan}
use Rattle.savi_kinds.specs.declared.plan.PortPlan.{PortPlan}
use Rattle.savi_kinds.specs.declared.plan.Role.{Role}
use Rattle.savi_kinds.specs.declared.plan.Role.TheVariants as roles
use Rattle.savi_kinds.specs.declared.port.Port.{Port}
use Rattle.savi_history.specs.Vlans.{vlan_of_frame}
use Rattle.v4_snoop.specs.declared.packet.UdpPorts.{UdpPorts}
use Rattle.v4_snoop.specs.declared.reason.Reason.{Reason}
use Rattle.v4_snoop.specs.declared.reason.Reason.TheVariants as reasons
use Rattle.v4_snoop.specs.declared.told.Told.{Told}
use Rattle.v4_snoop.specs.declared.told.Told.TheVariants.{Nothing}
use Rattle.v4_snoop.specs.Packets.{is_readable, source_of, udp_ports}
use Rattle.v4_snoop.specs.ArpPackets.{is_arp_packet, sender_mac, sender_address}
use Rattle.v4_snoop.specs.Tellings.{told_in}
use Rattle.v4_snoop.specs.Leased.{v4_key, is_live_at, is_live_for}
use Rattle.v4_snoop.specs.Following.{Clients, no_clients, after_telling, lacks_place, lacks_room}

-- a frame that passed: the port at which it came in, its moment (ms), and its octets as they came in
pub record PassedFrame : Type 0 where
  pub port : Port
  pub moment : ℕ
  pub octets : List ℕ

-- the frame of these octets that came in at a port at a moment
abbrev pub passed_at : Port → ℕ → List ℕ → PassedFrame
passed_at port moment octets = record { port = port; moment = moment; octets = octets }

-- a frame of a VLAN, with its port and its moment: the header and the payload are those of its inner frame
pub record VlanFrame : Type 0 where
  pub vlan : ℕ
  pub port : Port
  pub moment : ℕ
  pub header : Eth
  pub payload : List ℕ

-- a frame that passed as one of this VLAN
abbrev pub frame_of_vlan : PassedFrame → ℕ → VlanFrame
frame_of_vlan passed vlan = record {
  vlan = vlan;
  port = passed.port;
  moment = passed.moment;
  header = header_of (inner passed.octets);
  payload = payload_of (inner passed.octets);
}

-- as one of the VLAN that it has at its port in this plan, if it has one (IEEE 802.1Q section 6.9)
abbrev pub vlan_frame : Plan → PassedFrame → Option VlanFrame
vlan_frame plan passed = option_map (frame_of_vlan passed) (vlan_of_frame plan (number_of passed.port) passed.octets)

-- it has one
abbrev pub HasVlanAtPort : Plan → PassedFrame → Type 0
HasVlanAtPort plan passed = IsSome (vlan_of_frame plan (number_of passed.port) passed.octets)

-- the role of a port is to connect a host, or a server
abbrev pub is_host_role : Role → Bool
is_host_role roles.Host = true
is_host_role roles.Server = false
is_host_role roles.Trusted = false

abbrev pub is_server_role : Role → Bool
is_server_role roles.Host = false
is_server_role roles.Server = true
is_server_role roles.Trusted = false

abbrev pub has_role_at : (Role → Bool) → ℕ → PortPlan → Bool
has_role_at test number p = (number == number_of p.number) && test p.role

-- the port of this number is a host's, or a server's
abbrev pub is_host_port : Plan → ℕ → Bool
is_host_port plan number = list_any (has_role_at is_host_role number) plan.ports

abbrev pub is_server_port : Plan → ℕ → Bool
is_server_port plan number = list_any (has_role_at is_server_role number) plan.ports

-- the sources of the port are validated
abbrev pub validates : Plan → ℕ → Bool
validates plan number = is_host_port plan number || is_server_port plan number

-- what a frame is: ARP (RFC 826), IPv4 (RFC 894), or neither
abbrev pub carries_arp : VlanFrame → Bool
carries_arp one = one.header.kind == 0x0806

abbrev pub carries_ipv4 : VlanFrame → Bool
carries_ipv4 one = one.header.kind == 0x0800

-- its source address as a number
abbrev pub source_mac : VlanFrame → ℕ
source_mac one = big_number 6 one.header.src.0

-- The conditions of the rows, with a VLAN and the number of a port.

-- what should be an ARP packet isn't one, or its sender isn't who sent the frame
abbrev pub is_bad_arp : ℕ → List ℕ → Bool
is_bad_arp mac arp = not (is_arp_packet arp && (sender_mac arp == mac))

-- the sender claims an address that isn't live there for it; one that has none yet claims none
abbrev pub is_false_sender : Clients → ℕ → ℕ → ℕ → List ℕ → Bool
is_false_sender clients vlan number t arp =
    not (sender_address arp == 0) && not (is_live_for t (v4_key vlan (sender_address arp)) number (sender_mac arp) clients.leases)

-- a datagram goes to a port of UDP
abbrev pub goes_to_udp : ℕ → Option UdpPorts → Bool
goes_to_udp port None = false
goes_to_udp port (Some ports) = ports.to == port

-- a datagram goes from a client of DHCP to servers
abbrev pub is_of_client : Option UdpPorts → Bool
is_of_client None = false
is_of_client (Some ports) = (ports.from == 68) && (ports.to == 67)

-- the source isn't live there, unless a client that has no address yet speaks to servers from 0.0.0.0
abbrev pub is_false_source : Clients → ℕ → ℕ → ℕ → List ℕ → Bool
is_false_source clients vlan number t packet =
    not ((source_of packet == 0) && is_of_client (udp_ports packet)) && not (is_live_at t (v4_key vlan (source_of packet)) number clients.leases)

-- what a frame tells of clients
abbrev pub told_by_frame : Plan → VlanFrame → Told
told_by_frame plan one =
    if carries_ipv4 one then told_in (validates plan (number_of one.port)) (is_host_port plan (number_of one.port)) one.payload else Nothing

abbrev pub is_frame_validated : Plan → VlanFrame → Bool
is_frame_validated plan one = validates plan (number_of one.port)

-- the reason of a frame of a VLAN, by what is known before it
abbrev pub reason_in_vlan : Plan → Clients → VlanFrame → Option Reason
reason_in_vlan plan clients one =
    if carries_arp one && (is_frame_validated plan one && is_bad_arp (source_mac one) one.payload) then Some reasons.ArpBad
    else if carries_arp one && (is_frame_validated plan one && is_false_sender clients one.vlan (number_of one.port) one.moment one.payload) then Some reasons.ArpSource
    else if carries_ipv4 one && (is_frame_validated plan one && not (is_readable one.payload)) then Some reasons.IpBad
    else if carries_ipv4 one && (is_host_port plan (number_of one.port) && goes_to_udp 68 (udp_ports one.payload)) then Some reasons.Server
    else if carries_ipv4 one && (is_frame_validated plan one && is_false_source clients one.vlan (number_of one.port) one.moment one.payload) then Some reasons.IpSource
    else if lacks_place one.vlan one.port one.moment (told_by_frame plan one) clients then Some reasons.RequestFull
    else if lacks_room plan.per_port one.vlan one.moment (told_by_frame plan one) clients then Some reasons.PortFull
    else None

-- that of a frame that passed
abbrev pub frame_reason : Plan → Clients → PassedFrame → Option Reason
frame_reason plan clients passed = option_and_then (reason_in_vlan plan clients) (vlan_frame plan passed)

-- a frame tells what it tells unless it has a reason, but for the last two
abbrev pub is_heeded : Option Reason → Bool
is_heeded None = true
is_heeded (Some reasons.ArpBad) = false
is_heeded (Some reasons.ArpSource) = false
is_heeded (Some reasons.IpBad) = false
is_heeded (Some reasons.Server) = false
is_heeded (Some reasons.IpSource) = false
is_heeded (Some reasons.RequestFull) = true
is_heeded (Some reasons.PortFull) = true

-- what is known once a frame of a VLAN passed
abbrev pub clients_in_vlan : Plan → Clients → VlanFrame → Clients
clients_in_vlan plan clients one =
    if is_heeded (reason_in_vlan plan clients one) then after_telling plan.per_port one.vlan one.port one.moment (told_by_frame plan one) clients else clients

abbrev pub clients_if : Plan → Clients → Option VlanFrame → Clients
clients_if plan clients None = clients
clients_if plan clients (Some one) = clients_in_vlan plan clients one

-- what is known once a frame passed
abbrev pub clients_after : Plan → Clients → PassedFrame → Clients
clients_after plan clients passed = clients_if plan clients (vlan_frame plan passed)

-- what is known once all these frames passed, the newest first
abbrev pub known_clients : Plan → List PassedFrame → Clients
known_clients plan [] = no_clients
known_clients plan (passed ∷ past) = clients_after plan (known_clients plan past) passed

-- the moment of the last of them
abbrev pub last_passed : List PassedFrame → ℕ
last_passed [] = 0
last_passed (passed ∷ past) = passed.moment
