-- Numbers of two octets, in the byte order of a section.
use Rattle.std.specs.Prelude.{ℕ, ◌+◌, List, [], ◌∷◌, slice_index}
use Rattle.std.specs.Int.{w16, from_le_bytes, from_be_bytes}
use Rattle.pcap_io.specs.declared.kind.ByteOrder.{ByteOrder}
use Rattle.pcap_io.specs.declared.kind.ByteOrder.TheVariants.{Little, Big}

-- the number of 16 bits in these two octets
abbrev pub half_from : ByteOrder → List ℕ → ℕ
half_from Little octets = from_le_bytes w16 octets
half_from Big octets = from_be_bytes w16 octets

-- the number of 16 bits in the two octets from a place on
abbrev pub half_at : ByteOrder → ℕ → List ℕ → ℕ
half_at order at octets = half_from order (slice_index octets at ∷ slice_index octets (at + 1) ∷ [])
