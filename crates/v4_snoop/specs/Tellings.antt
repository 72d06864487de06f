-- What a message of DHCP tells of a client's address, by the role of the port at which it came in (RFC 2131 section 3).
use Rattle.std.specs.Prelude.{ℕ, ◌==◌, ◌&&◌, ◌||◌, not, Bool, if◌then◌else◌, List, Option, Some, None}
use Rattle.v4_snoop.specs.declared.message.Message.{Message}
use Rattle.v4_snoop.specs.declared.packet.UdpPorts.{UdpPorts}
use Rattle.v4_snoop.specs.declared.told.Granted.{Granted}
use Rattle.v4_snoop.specs.declared.told.Told.{Told}
use Rattle.v4_snoop.specs.declared.told.Told.TheVariants.{Nothing, Asks, Ends, Refuses, Grants}
use Rattle.v4_snoop.specs.Packets.{is_readable, udp_ports, datagram_payload}
use Rattle.v4_snoop.specs.DhcpMessages.{message_of}

-- a message from a client or to one, with a hardware address of 6 octets
abbrev pub is_from_client : Message → Bool
is_from_client message = (message.op == 1) && (message.hlen == 6)

abbrev pub is_to_client : Message → Bool
is_to_client message = (message.op == 2) && (message.hlen == 6)

-- the end of a lease on an address, where one is named
abbrev pub ends_if : Option ℕ → Told
ends_if None = Nothing
ends_if (Some address) = Ends address

-- DHCPREQUEST asks, DHCPRELEASE ends the lease of the client's address, and DHCPDECLINE that of the address it was given
abbrev pub told_by_client : Message → Told
told_by_client message =
    if message.kind == 3 then Asks message.xid message.chaddr
    else if message.kind == 7 then Ends message.ciaddr
    else if message.kind == 4 then ends_if message.requested
    else Nothing

-- the lease that an acknowledgement grants, where it names an address and a time, neither of them 0
abbrev pub granted_for : ℕ → ℕ → Option Granted
granted_for address seconds = if (address == 0) || (seconds == 0) then None else Some (record { address = address; seconds = seconds })

abbrev pub granted : ℕ → Option ℕ → Option Granted
granted address None = None
granted address (Some seconds) = granted_for address seconds

-- DHCPACK grants, DHCPNAK refuses
abbrev pub told_by_server : Message → Told
told_by_server message =
    if message.kind == 5 then Grants message.xid message.chaddr (granted message.yiaddr message.seconds)
    else if message.kind == 6 then Refuses message.xid message.chaddr
    else Nothing

-- Clients speak to port 67 at ports whose sources are validated, servers to port 68 at all ports but those of hosts.
abbrev pub told_to_port : Bool → Bool → ℕ → Message → Told
told_to_port is_validating is_host to message =
    if is_validating && (to == 67) then (if is_from_client message then told_by_client message else Nothing)
    else if not is_host && (to == 68) then (if is_to_client message then told_by_server message else Nothing)
    else Nothing

abbrev pub told_if : Bool → Bool → Option UdpPorts → Option Message → Told
told_if is_validating is_host None message = Nothing
told_if is_validating is_host (Some ports) None = Nothing
told_if is_validating is_host (Some ports) (Some message) = told_to_port is_validating is_host ports.to message

-- what a packet tells
unfoldable pub told_in : Bool → Bool → List ℕ → Told
told_in is_validating is_host packet =
    if is_readable packet then told_if is_validating is_host (udp_ports packet) (message_of (datagram_payload packet)) else Nothing
