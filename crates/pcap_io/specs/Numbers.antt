-- The numbers of a capture, in the byte order of its file.
use Rattle.std.specs.Prelude.{ℕ, ◌+◌, List, [], ◌∷◌, slice_index}
use Rattle.std.specs.Int.{Width, w32, to_le_bytes, to_be_bytes, from_le_bytes, from_be_bytes}
use Rattle.pcap_io.specs.declared.kind.ByteOrder.{ByteOrder}
use Rattle.pcap_io.specs.declared.kind.ByteOrder.TheVariants.{Little, Big}

-- the octets of a number of this width
abbrev pub octets_of : ByteOrder → Width → ℕ → List ℕ
octets_of Little width n = to_le_bytes width n
octets_of Big width n = to_be_bytes width n

-- the number of 32 bits in these four octets
abbrev pub number_from : ByteOrder → List ℕ → ℕ
number_from Little octets = from_le_bytes w32 octets
number_from Big octets = from_be_bytes w32 octets

-- the number of 32 bits in the four octets from a place on
abbrev pub number_at : ByteOrder → ℕ → List ℕ → ℕ
number_at order at octets =
    number_from order (slice_index octets at ∷ slice_index octets (at + 1) ∷ slice_index octets (at + 2) ∷ slice_index octets (at + 3) ∷ [])
