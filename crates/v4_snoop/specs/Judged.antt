-- The table of reasons in parts, by what a frame carries: what a snoop finds before it heeds a frame, and then.
use Rattle.std.specs.Prelude.{ℕ, ◌&&◌, not, Bool, if◌then◌else◌, List, Option, Some, None}
use Rattle.savi_kinds.specs.declared.port.Port.{Port}
use Rattle.v4_snoop.specs.declared.reason.Reason.{Reason}
use Rattle.v4_snoop.specs.declared.reason.Reason.TheVariants as reasons
use Rattle.v4_snoop.specs.declared.told.Told.{Told}
use Rattle.v4_snoop.specs.Packets.{is_readable, udp_ports}
use Rattle.v4_snoop.specs.Following.{Clients, after_telling, lacks_place, lacks_room}
use Rattle.v4_snoop.specs.Reasons.{is_bad_arp, is_false_sender, goes_to_udp, is_false_source}

-- what is wrong with ARP from this hardware address, at a port whose sources are validated or not
abbrev pub arp_reason : Clients → Bool → ℕ → ℕ → ℕ → ℕ → List ℕ → Option Reason
arp_reason clients is_validating vlan number t mac arp =
    if is_validating && is_bad_arp mac arp then Some reasons.ArpBad
    else if is_validating && is_false_sender clients vlan number t arp then Some reasons.ArpSource
    else None

-- what is wrong with a packet
abbrev pub packet_reason : Clients → Bool → Bool → ℕ → ℕ → ℕ → List ℕ → Option Reason
packet_reason clients is_validating is_host vlan number t packet =
    if is_validating && not (is_readable packet) then Some reasons.IpBad
    else if is_host && goes_to_udp 68 (udp_ports packet) then Some reasons.Server
    else if is_validating && is_false_source clients vlan number t packet then Some reasons.IpSource
    else None

-- what is lacking for what was told
abbrev pub shortage : ℕ → ℕ → Port → ℕ → Told → Clients → Option Reason
shortage most vlan port t told clients =
    if lacks_place vlan port t told clients then Some reasons.RequestFull
    else if lacks_room most vlan t told clients then Some reasons.PortFull
    else None

-- what is known once a packet came in for which there was this reason, or none
abbrev pub after_packet : ℕ → ℕ → Port → ℕ → Option Reason → Told → Clients → Clients
after_packet most vlan port t None told clients = after_telling most vlan port t told clients
after_packet most vlan port t (Some reason) told clients = clients
