-- The extension headers that stand at the front of a packet's body (RFC 8200 section 4).
use Rattle.std.specs.Prelude.{◌≡◌, ℕ, ◌+◌, ◌*◌, ◌/◌, Bool, true, false, List, [], ◌∷◌, ◌++◌, length, drop, slice_index, IsTrue}
use Rattle.std.specs.List.{list_any}
use Rattle.byteorder.specs.Endian.{big_number}
use Rattle.v6_chain.specs.declared.kind.Kind.{Kind}
use Rattle.v6_chain.specs.declared.kind.Kind.TheVariants.{HopByHop, Extension, Authentication, Fragment, Upper, Unknown}
use Rattle.v6_chain.specs.Kinds.{kind_of}

-- an extension header: the next-header value that names it, and its octets
pub record Header : Type 0 where
  pub value : ℕ
  pub octets : List ℕ

-- the next-header value in it, which names what stands behind it: its first octet
abbrev pub next_of : Header → ℕ
next_of header = slice_index header.octets 0

-- how many octets a header of this kind has, by its own second octet, or an upper header at least
abbrev pub size_at : Kind → List ℕ → ℕ
size_at HopByHop octets = (slice_index octets 1 + 1) * 8
size_at Extension octets = (slice_index octets 1 + 1) * 8
size_at Authentication octets = (slice_index octets 1 + 2) * 4
size_at Fragment octets = 8
size_at (Upper least) octets = least
size_at Unknown octets = 0

-- the offset in a fragment header: 13 bits from octet 2 on (RFC 8200 section 4.5)
abbrev pub offset_of : List ℕ → ℕ
offset_of octets = big_number 2 (drop 2 octets) / 8

abbrev pub is_extension : Kind → Bool
is_extension HopByHop = true
is_extension Extension = true
is_extension Authentication = true
is_extension Fragment = true
is_extension (Upper least) = false
is_extension Unknown = false

abbrev pub is_fragment : Kind → Bool
is_fragment HopByHop = false
is_fragment Extension = false
is_fragment Authentication = false
is_fragment Fragment = true
is_fragment (Upper least) = false
is_fragment Unknown = false

-- a fragment header is among them
abbrev pub has_fragment : List Header → Bool
has_fragment headers = list_any (λ header. is_fragment (kind_of header.value)) headers

-- what may stand behind these headers: hop-by-hop options in the first place alone, a fragment header once
-- (RFC 8200 section 4.1)
pub record MayStand (before : List Header) (kind : Kind) : Type 0 where
  pub hop_by_hop : kind ≡ HopByHop → before ≡ []
  pub fragment : kind ≡ Fragment → has_fragment before ≡ false

-- A header behind which the chain goes on: an extension header that may stand there and is whole. A fragment header has
-- offset 0, since only a first fragment has what stands behind it.
pub record IsPassed (before : List Header) (header : Header) : Type 0 where
  pub extension : IsTrue (is_extension (kind_of header.value))
  pub may_stand : MayStand before (kind_of header.value)
  pub whole : length header.octets ≡ size_at (kind_of header.value) header.octets
  pub first_fragment : kind_of header.value ≡ Fragment → offset_of header.octets ≡ 0

-- the value that names what stands behind these headers, the last of them first: the one in the last header, or the one
-- in the packet's fixed header
abbrev pub value_behind : ℕ → List Header → ℕ
value_behind first [] = first
value_behind first (last ∷ before) = next_of last

-- headers, the last of them first, that stand one behind the other, each named by the one before it
abbrev pub AreChained : ℕ → List Header → Type 0
AreChained first [] = Unit {0}
AreChained first (last ∷ before) = AreChained first before × (last.value ≡ value_behind first before) × IsPassed before last

-- the octets of headers, the last of them first
abbrev pub octets_of : List Header → List ℕ
octets_of [] = []
octets_of (last ∷ before) = octets_of before ++ last.octets
