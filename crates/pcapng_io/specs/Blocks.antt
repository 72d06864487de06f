-- The blocks of a capture (draft-ietf-opsawg-pcapng sections 3.1 and 4).
use Rattle.std.specs.Prelude.{◌≡◌, ◌≢◌, ℕ, ◌+◌, ◌-◌, ◌*◌, ◌/◌, ◌%◌, ◌^◌, ◌<◌, ◌≤◌, min, true, false, List, [], ◌∷◌, ◌++◌, length, take, drop, slice_index, Option, Some}
use Rattle.std.specs.Int.{w32}
use Rattle.pcap_io.specs.declared.kind.ByteOrder.{ByteOrder}
use Rattle.pcap_io.specs.Numbers.{octets_of, number_at}
use Rattle.pcapng_io.specs.Numbers.{half_at}
use Rattle.pcapng_io.specs.Options.{padded, HaveOptions}

pub data Block : Type 0 where
  -- a section begins, in this byte order
  Section : (order : ByteOrder) → Block
  -- an interface, with its link type and the units of a second of its stamps
  Interface : (link units : ℕ) → Block
  -- a packet of an interface, which is counted through the file, with its stamp (ms) and the octets that were captured
  Packet : (interface stamp : ℕ) (captured : List ℕ) → Block
  -- any other block, which is passed over
  Other : Block

-- Where a block begins: its place in the file, the byte order of the section that it stands in, where one has begun, how
-- many interfaces the earlier sections have, and those of this section so far, by the units of their stamps.
pub record Standing : Type 0 where
  pub place : ℕ
  pub order : Option ByteOrder
  pub earlier : ℕ
  pub units : List ℕ

-- a block may have this total length here
pub record IsTotal (place least total : ℕ) : Type 0 where
  pub words : total % 4 ≡ 0
  pub fits : least ≤ total
  pub bounded : total ≤ 1048576
  pub placed : place + total ≤ 2 ^ 62

-- type and total length, of 4 octets each, and at the end the total length again
pub record IsFramed (place least : ℕ) (order : ByteOrder) (octets : List ℕ) : Type 0 where
  pub total : IsTotal place least (length octets)
  pub named : number_at order 4 octets ≡ length octets
  pub again : number_at order (length octets - 4) octets ≡ length octets

-- what stands from a place of a block on, up to its total length at the end
abbrev pub part_from : ℕ → List ℕ → List ℕ
part_from at octets = take (length octets - 4 - at) (drop at octets)

-- the type of a section header: it reads the same in either byte order
abbrev pub section_type : List ℕ
section_type = 0x0a ∷ 0x0d ∷ 0x0d ∷ 0x0a ∷ []

-- The byte-order magic and the major version 1. The minor version and the length of the section, of 8 octets, aren't used.
pub record IsSection (order : ByteOrder) (octets : List ℕ) : Type 0 where
  pub kind : take 4 octets ≡ section_type
  pub magic : take 4 (drop 8 octets) ≡ octets_of order w32 0x1a2b3c4d
  pub major : half_at order 12 octets ≡ 1
  pub options : (units : ℕ) × HaveOptions order false units (part_from 24 octets)

-- The link type, 2 reserved octets and the snaplen, of 4 octets. A section has at most 256 interfaces, a file 65,536.
pub record IsInterface (s : Standing) (order : ByteOrder) (octets : List ℕ) (link units : ℕ) : Type 0 where
  pub kind : number_at order 0 octets ≡ 1
  pub link_is : link ≡ half_at order 8 octets
  pub options : HaveOptions order true units (part_from 16 octets)
  pub few : length s.units < 256
  pub few_in_file : s.earlier + length s.units < 65536

-- a timestamp in whole milliseconds, rounded down, up to 2^62
abbrev pub stamp_of : ℕ → ℕ → ℕ
stamp_of units ticks = min (1000 * ticks / units) (2 ^ 62)

-- the timestamp: its high and its low 32 bits
abbrev pub ticks_of : ByteOrder → List ℕ → ℕ
ticks_of order octets = 2 ^ 32 * number_at order 12 octets + number_at order 16 octets

-- An interface of this section, the timestamp, the captured and the original length, the captured octets with their
-- padding, and options. The original length is free.
pub record IsPacket (s : Standing) (order : ByteOrder) (octets : List ℕ) (interface stamp : ℕ) (captured : List ℕ) : Type 0 where
  pub kind : number_at order 0 octets ≡ 6
  pub declared : number_at order 8 octets < length s.units
  pub interface_is : interface ≡ s.earlier + number_at order 8 octets
  pub stamp_is : stamp ≡ stamp_of (slice_index s.units (number_at order 8 octets)) (ticks_of order octets)
  pub size : number_at order 20 octets ≡ length captured
  pub bounded : length captured ≤ 262144
  pub fits : 28 + padded (length captured) + 4 ≤ length octets
  pub captured_is : captured ≡ take (length captured) (drop 28 octets)
  pub options : (units : ℕ) × HaveOptions order false units (part_from (28 + padded (length captured)) octets)

-- no block of the three types above
pub record IsOther (order : ByteOrder) (octets : List ℕ) : Type 0 where
  pub no_section : take 4 octets ≢ section_type
  pub no_interface : number_at order 0 octets ≢ 1
  pub no_packet : number_at order 0 octets ≢ 6

-- These octets, all of them, are this block where it begins so. A section header has a byte order of its own.
abbrev pub IsBlock : Standing → Block → List ℕ → Type 0
IsBlock s (Section order) octets = IsFramed s.place 28 order octets × IsSection order octets
IsBlock s (Interface link units) octets =
    (order : ByteOrder) × (s.order ≡ Some order) × IsFramed s.place 20 order octets × IsInterface s order octets link units
IsBlock s (Packet interface stamp captured) octets =
    (order : ByteOrder) × (s.order ≡ Some order) × IsFramed s.place 32 order octets × IsPacket s order octets interface stamp captured
IsBlock s Other octets = (order : ByteOrder) × (s.order ≡ Some order) × IsFramed s.place 12 order octets × IsOther order octets

-- Where the next block begins, behind a block of so many octets. A section has no interface at first.
abbrev pub behind : Standing → Block → ℕ → Standing
behind s (Section order) size = record { place = s.place + size; order = Some order; earlier = s.earlier + length s.units; units = [] }
behind s (Interface link units) size = record s { place = s.place + size; units = s.units ++ units ∷ [] }
behind s (Packet interface stamp captured) size = record s { place = s.place + size }
behind s Other size = record s { place = s.place + size }
