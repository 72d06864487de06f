-- IPv4 packets (RFC 791 section 3.1), and the datagrams of UDP in them (RFC 768).
use Rattle.std.specs.Prelude.{ℕ, ◌≡◌, ◌≤◌, ◌*◌, ◌/◌, ◌%◌, ◌^◌, ◌==◌, ◌&&◌, not, nat_le, Bool, if◌then◌else◌, List, length, drop, slice_index, slice_range, Option, Some, None}
use Rattle.byteorder.specs.Endian.{big_number}
use Rattle.v4_snoop.specs.declared.packet.UdpPorts.{UdpPorts}

-- The fields of a header. Its first octet has the version and the length, in words of 4 octets, and options are part of it.

abbrev pub ip_version : List ℕ → ℕ
ip_version packet = slice_index packet 0 / 16

abbrev pub header_len : List ℕ → ℕ
header_len packet = 4 * (slice_index packet 0 % 16)

-- the octets of the packet, with its header
abbrev pub total_len : List ℕ → ℕ
total_len packet = big_number 2 (drop 2 packet)

-- The packet is a fragment: more fragments follow, or its offset isn't 0. Both stand in two octets, below the two bits of
-- which one is reserved and one says that the packet may not be fragmented.
abbrev pub is_ip_fragment : List ℕ → Bool
is_ip_fragment packet = not (big_number 2 (drop 6 packet) % 2 ^ 14 == 0)

abbrev pub protocol_of : List ℕ → ℕ
protocol_of packet = slice_index packet 9

abbrev pub source_of : List ℕ → ℕ
source_of packet = big_number 4 (drop 12 packet)

-- a header is readable: of version 4, no shorter than its fixed part of 20 octets, and all that it speaks of is there
pub record IsReadableIp (packet : List ℕ) : Type 0 where
  pub version : ip_version packet ≡ 4
  pub fixed : 20 ≤ header_len packet
  pub header : header_len packet ≤ total_len packet
  pub total : total_len packet ≤ length packet

-- the same as a test
abbrev pub is_readable : List ℕ → Bool
is_readable packet =
    (ip_version packet == 4) && (nat_le 20 (header_len packet) && (nat_le (header_len packet) (total_len packet) && nat_le (total_len packet) (length packet)))

-- what stands behind the header, up to the total length: what is behind that only fills up the frame
abbrev pub ip_body : List ℕ → List ℕ
ip_body packet = slice_range packet (header_len packet) (total_len packet)

-- An unfragmented datagram of UDP, which is protocol 17: its header of 8 octets is there. The length that it says isn't read.
abbrev pub has_datagram : List ℕ → Bool
has_datagram packet = (not (is_ip_fragment packet) && (protocol_of packet == 17)) && nat_le 8 (length (ip_body packet))

-- the ports of a datagram, where a packet has one
abbrev pub udp_ports : List ℕ → Option UdpPorts
udp_ports packet =
    if has_datagram packet then Some (record { from = big_number 2 (ip_body packet); to = big_number 2 (drop 2 (ip_body packet)) }) else None

-- what the datagram carries
abbrev pub datagram_payload : List ℕ → List ℕ
datagram_payload packet = drop 8 (ip_body packet)
