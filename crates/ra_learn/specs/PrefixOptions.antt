-- The prefixes that a router advertisement names (RFC 4861 section 4.6.2): which of its options count, and what they say.
use Rattle.std.specs.Prelude.{ℕ, ◌-◌, ◌%◌, ◌^◌, ◌==◌, ◌&&◌, ◌||◌, not, nat_le, Bool, if◌then◌else◌, List, drop, filter_map, Option, Some, None, slice_index, bit_and}
use Rattle.byteorder.specs.Endian.{big_number}
use Rattle.savi_kinds.specs.declared.address.Prefix.{Prefix}
use Rattle.savi_kinds.specs.Prefixes.{first_of, past_of, link_local, multicast}
use Rattle.nd_read.specs.Options.{NdOption}
use Rattle.ra_learn.specs.declared.advert.AdvertPrefix.{AdvertPrefix}

-- a prefix option is of type 3, and has a length of 4 units of 8 octets
abbrev pub is_prefix_option : NdOption → Bool
is_prefix_option option = (option.kind == 3) && (option.units == 4)

-- the option that these octets are
abbrev pub option_in : List ℕ → NdOption
option_in octets = record { kind = slice_index octets 0; units = slice_index octets 1; content = drop 2 octets }

-- Its fields. Its type and length aren't part of the content, which begins with the length of the prefix.
abbrev pub prefix_bits : NdOption → ℕ
prefix_bits option = slice_index option.content 0

-- the L flag: hosts may reach the addresses of the prefix on the link
abbrev pub is_on_link : NdOption → Bool
is_on_link option = not (bit_and (slice_index option.content 1) 0x80 == 0)

-- the valid lifetime, in seconds
abbrev pub valid_lifetime : NdOption → ℕ
valid_lifetime option = big_number 4 (drop 2 option.content)

-- the address that stands for the prefix, whose bits past the length are to be ignored
abbrev pub prefix_address : NdOption → ℕ
prefix_address option = big_number 16 (drop 14 option.content)

-- an address with the bits past this length cleared
abbrev pub cleared : ℕ → ℕ → ℕ
cleared bits address = address - address % 2 ^ (128 - bits)

-- the prefix that an option names
abbrev pub prefix_in : NdOption → Prefix
prefix_in option = record { net = record { 0 = cleared (prefix_bits option) (prefix_address option) }; len = prefix_bits option }

-- no address lies in both
abbrev pub are_apart : Prefix → Prefix → Bool
are_apart p q = nat_le (past_of p) (first_of q) || nat_le (past_of q) (first_of p)

-- a prefix that can be the link's: of 1 to 128 bits, apart from fe80::/64 and from ff00::/8
abbrev pub is_usable : Prefix → Bool
is_usable p = (nat_le 1 p.len && nat_le p.len 128) && (are_apart p link_local && are_apart p multicast)

-- an option counts where it says that a prefix that can be the link's is on the link
abbrev pub counts : NdOption → Bool
counts option = is_prefix_option option && (is_on_link option && is_usable (prefix_in option))

-- the prefix of an option that counts, with its valid lifetime
abbrev pub prefix_if_counts : NdOption → Option AdvertPrefix
prefix_if_counts option = if counts option then Some (record { prefix = prefix_in option; valid = valid_lifetime option }) else None

-- the prefixes that these options name, in their order
abbrev pub counted_prefixes : List NdOption → List AdvertPrefix
counted_prefixes options = filter_map prefix_if_counts options
