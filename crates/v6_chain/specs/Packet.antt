-- A packet by its fixed header (RFC 8200 section 3).
use Rattle.std.specs.Prelude.{◌≡◌, ◌≢◌, ℕ, ◌+◌, ◌/◌, ◌<◌, ◌≤◌, List, length, take, drop, slice_index, Result, Ok, Err}
use Rattle.byteorder.specs.Endian.{big_number}
use Rattle.savi_kinds.specs.Prefixes.{LiesIn, multicast}
use Rattle.v6_chain.specs.declared.packet.Ip.{Ip}
use Rattle.v6_chain.specs.declared.packet.IpFault.{IpFault}
use Rattle.v6_chain.specs.declared.packet.IpFault.TheVariants.{Short, Version, Truncated, Multicast}

-- the version is the high half of the first octet
abbrev pub version_of : List ℕ → ℕ
version_of payload = slice_index payload 0 / 16

-- the fields behind the version, the traffic class and the flow label
abbrev pub header_fields : List ℕ → Ip
header_fields payload = record {
  len = big_number 2 (drop 4 payload);
  next = slice_index payload 6;
  hop = slice_index payload 7;
  src = record { 0 = big_number 16 (drop 8 payload) };
  dst = record { 0 = big_number 16 (drop 24 payload) };
}

-- the octets begin with a whole packet of version 6 that has this header and whose source is one host's
pub record IsPacket (payload : List ℕ) (ip : Ip) : Type 0 where
  pub header : ip ≡ header_fields payload
  pub version : version_of payload ≡ 6
  pub whole : 40 + ip.len ≤ length payload
  pub source : LiesIn ip.src.0 multicast → ⊥

-- the first of the four faults
abbrev pub IsRefused : List ℕ → IpFault → Type 0
IsRefused payload Short = length payload < 40
IsRefused payload Version = (40 ≤ length payload) × (version_of payload ≢ 6)
IsRefused payload Truncated = (40 ≤ length payload) × (version_of payload ≡ 6) × (length payload < 40 + (header_fields payload).len)
IsRefused payload Multicast = (version_of payload ≡ 6) × (40 + (header_fields payload).len ≤ length payload) × LiesIn (header_fields payload).src.0 multicast

-- reading the octets gives this header or this fault
abbrev pub Reads : List ℕ → Result Ip IpFault → Type 0
Reads payload (Ok ip) = IsPacket payload ip
Reads payload (Err fault) = IsRefused payload fault

-- the body: what the payload length counts, without the padding behind it
abbrev pub body_of : Ip → List ℕ → List ℕ
body_of ip payload = take ip.len (drop 40 payload)
