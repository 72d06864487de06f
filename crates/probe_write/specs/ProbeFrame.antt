-- The octets of a probe: a neighbor solicitation for duplicate address detection (RFC 4861 section 4.3, RFC 4862
-- section 5.4.2) in an Ethernet frame (RFC 2464).
use Rattle.std.specs.Prelude.{ℕ, ◌+◌, ◌*◌, ◌%◌, ◌^◌, List, ◌∷◌, ◌++◌}
use Rattle.std.specs.Int.{w16, w32, w128, to_be_bytes, bytes_high_first}
use Rattle.savi_kinds.specs.declared.address.Addr.{Addr}
use Rattle.savi_kinds.specs.declared.address.Mac.{Mac}
use Rattle.savi_kinds.specs.Prefixes.{unspecified}
use Rattle.v6_sum.specs.InternetChecksum.{checksum}

-- ::
abbrev pub no_address : Addr
no_address = record { 0 = unspecified }

-- the solicited-node address: ff02::1:ff00:0 and the low 24 bits of the target (RFC 4291 section 2.7.1)
unfoldable pub solicited_node_of : Addr → Addr
solicited_node_of target = record { 0 = 0xff02 * 2 ^ 112 + 0x1ff000000 + target.0 % 2 ^ 24 }

-- the MAC address of a group: 33:33 and the low 32 bits of its address (RFC 2464 section 7)
abbrev pub group_mac_of : Addr → List ℕ
group_mac_of group = 0x33 ∷ 0x33 ∷ bytes_high_first 4 group.0

-- the solicitation with this word in its checksum field: type 135, code 0, checksum, four octets of zero, target
unfoldable pub solicitation_with : Addr → ℕ → List ℕ
solicitation_with target sum = 135 ∷ 0 ∷ to_be_bytes w16 sum ++ to_be_bytes w32 0 ++ to_be_bytes w128 target.0

-- the solicitation with its checksum, which is computed with zero in the field
abbrev pub solicitation_of : Addr → List ℕ
solicitation_of target =
    solicitation_with target (checksum no_address (solicited_node_of target) 58 (solicitation_with target 0))

-- the Ethernet header: destination, source, the type of IPv6
abbrev pub ethernet_octets : Mac → Addr → List ℕ
ethernet_octets mac target = group_mac_of (solicited_node_of target) ++ mac.0 ++ to_be_bytes w16 0x86dd

-- the IPv6 header: version 6, class and flow 0; payload length 24; ICMPv6; hop limit 255; from :: to the group
abbrev pub header_octets : Addr → List ℕ
header_octets target =
    0x60 ∷ 0 ∷ 0 ∷ 0 ∷ to_be_bytes w16 24 ++ 58 ∷ 255 ∷ to_be_bytes w128 unspecified ++ to_be_bytes w128 (solicited_node_of target).0

unfoldable pub probe_of : Mac → Addr → List ℕ
probe_of mac target = ethernet_octets mac target ++ header_octets target ++ solicitation_of target
