-- The options of BOOTP and DHCP (RFC 2132 section 2) as a list. They stand behind the magic cookie, up to the option 255 or
-- the end of the message. Those that option 52 moves to other fields (section 9.3) aren't read.
use Rattle.std.specs.Prelude.{ℕ, zero, suc, ◌+◌, ◌==◌, nat_le, if◌then◌else◌, List, [], ◌∷◌, length, take, drop, find, slice_index, Option, Some, None}
use Rattle.std.specs.Option.{option_map, option_and_then}
use Rattle.byteorder.specs.Endian.{big_number}

pub record BootpOption : Type 0 where
  pub code : ℕ
  pub content : List ℕ

-- the length of an option's content, by what stands behind its code: none where that isn't all there
abbrev pub content_len : List ℕ → Option ℕ
content_len [] = None
content_len (len ∷ more) = if nat_le len (length more) then Some len else None

-- this option in front of those, where they are whole
abbrev pub with_dhcp_option : BootpOption → Option (List BootpOption) → Option (List BootpOption)
with_dhcp_option option None = None
with_dhcp_option option (Some others) = Some (option ∷ others)

-- the options that these octets are, with at most so many codes: 0 is padding, 255 the end
abbrev pub dhcp_options_within : ℕ → List ℕ → Option (List BootpOption)
dhcp_options_within most [] = Some []
dhcp_options_within zero (code ∷ behind) = None
dhcp_options_within (suc most) (code ∷ behind) =
    if code == 255 then Some []
    else if code == 0 then dhcp_options_within most behind
    else option_and_then (λ len. with_dhcp_option (record { code = code; content = take len (drop 1 behind) }) (dhcp_options_within most (drop (1 + len) behind))) (content_len behind)

-- the options, or none where one of them runs over the end: there are no more than octets
abbrev pub dhcp_options : List ℕ → Option (List BootpOption)
dhcp_options octets = dhcp_options_within (length octets) octets

-- the content of the first option with a code, which is the one that counts
abbrev pub first_content : ℕ → List BootpOption → Option (List ℕ)
first_content code options = option_map (λ option. option.content) (find (λ option. option.code == code) options)

-- a number of one octet, and one of four
abbrev pub one_octet : List ℕ → Option ℕ
one_octet content = if length content == 1 then Some (slice_index content 0) else None

abbrev pub four_octets : List ℕ → Option ℕ
four_octets content = if length content == 4 then Some (big_number 4 content) else None
