-- What the bits of a MAC address say.
use Rattle.std.specs.Prelude.{◌%◌, ◌==◌, Bool, slice_index}
use Rattle.savi_kinds.specs.declared.address.Mac.{Mac}

-- the group bit: the lowest bit of the first octet (IEEE 802.3 section 3.2.3)
abbrev pub is_group : Mac → Bool
is_group mac = slice_index mac.0 0 % 2 == 1
