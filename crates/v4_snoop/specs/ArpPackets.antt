-- ARP for IPv4 over Ethernet (RFC 826, "Packet format").
use Rattle.std.specs.Prelude.{ℕ, ◌==◌, ◌&&◌, ◌||◌, nat_le, Bool, List, length, drop, slice_index}
use Rattle.byteorder.specs.Endian.{big_number}

-- its fields: the spaces of both kinds of addresses, their lengths, and the operation
abbrev pub hardware_space : List ℕ → ℕ
hardware_space arp = big_number 2 arp

abbrev pub protocol_space : List ℕ → ℕ
protocol_space arp = big_number 2 (drop 2 arp)

abbrev pub operation_of : List ℕ → ℕ
operation_of arp = big_number 2 (drop 6 arp)

-- the addresses of the sender
abbrev pub sender_mac : List ℕ → ℕ
sender_mac arp = big_number 6 (drop 8 arp)

abbrev pub sender_address : List ℕ → ℕ
sender_address arp = big_number 4 (drop 14 arp)

-- addresses of Ethernet, of 6 octets, and of IPv4, of 4
abbrev pub is_for_ipv4 : List ℕ → Bool
is_for_ipv4 arp =
    ((hardware_space arp == 1) && (protocol_space arp == 0x0800)) && ((slice_index arp 4 == 6) && (slice_index arp 5 == 4))

-- a request or a reply
abbrev pub asks_or_replies : List ℕ → Bool
asks_or_replies arp = (operation_of arp == 1) || (operation_of arp == 2)

-- all 28 octets of a request or a reply for IPv4 are there
abbrev pub is_arp_packet : List ℕ → Bool
is_arp_packet arp = nat_le 28 (length arp) && (is_for_ipv4 arp && asks_or_replies arp)
