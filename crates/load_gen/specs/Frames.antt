-- The hosts 1, 2 and 3 of a load, and the packets that they send.
use Rattle.std.specs.Prelude.{ℕ, ◌+◌, ◌*◌, ◌^◌, List, [], ◌∷◌, ◌++◌}
use Rattle.std.specs.Int.{w16, w128, to_be_bytes}
use Rattle.savi_kinds.specs.declared.address.Addr.{Addr}
use Rattle.savi_kinds.specs.declared.address.Mac.{Mac}

-- 02:00:00:00:00:11, :22 and :33
abbrev pub mac_of : ℕ → Mac
mac_of host = record { 0 = 0x02 ∷ 0 ∷ 0 ∷ 0 ∷ 0 ∷ 0x11 * host ∷ [] }

-- fe80::11, fe80::22 and fe80::33
abbrev pub host_address : ℕ → Addr
host_address host = record { 0 = 0xfe80 * 2 ^ 112 + 0x11 * host }

-- 02:00:00:00:00:fe and fe80::fe
abbrev pub router_mac : Mac
router_mac = record { 0 = 0x02 ∷ 0 ∷ 0 ∷ 0 ∷ 0 ∷ 0xfe ∷ [] }

abbrev pub router_address : Addr
router_address = record { 0 = 0xfe80 * 2 ^ 112 + 0xfe }

-- the Ethernet header: to the router, from this MAC address, the type of IPv6 (RFC 2464 section 3)
abbrev pub ethernet_to_router : Mac → List ℕ
ethernet_to_router mac = router_mac.0 ++ mac.0 ++ to_be_bytes w16 0x86dd

-- The IPv6 header (RFC 8200 section 3): version 6, class and flow 0; payload length 0; no next header (59, section 4.7
-- there); hop limit 64; from this source to the router.
abbrev pub header_to_router : Addr → List ℕ
header_to_router source =
    0x60 ∷ 0 ∷ 0 ∷ 0 ∷ to_be_bytes w16 0 ++ 59 ∷ 64 ∷ to_be_bytes w128 source.0 ++ to_be_bytes w128 router_address.0

-- a packet without content
unfoldable pub data_of : Mac → Addr → List ℕ
data_of mac source = ethernet_to_router mac ++ header_to_router source
