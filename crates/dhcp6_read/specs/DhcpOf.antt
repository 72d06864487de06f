-- What a message reads as, as a function: options are taken off the front, one after the other. That it is the one reading
-- which `Reads` allows is a law, `a_message_has_its_reading`.
use Rattle.std.specs.Prelude.{ℕ, zero, suc, ◌+◌, ◌&&◌, nat_le, Bool, if◌then◌else◌, Result, List, [], ◌∷◌, length, take, drop}
use Rattle.byteorder.specs.Endian.{big_number}
use Rattle.dhcp6_read.specs.declared.message.Dhcp.{Dhcp}
use Rattle.dhcp6_read.specs.declared.message.DhcpFault.{DhcpFault}
use Rattle.dhcp6_read.specs.Options.{DhcpOption, OptionsRead}
use Rattle.dhcp6_read.specs.Message.{reading}

-- what an option's length says, where one stands at the front of these octets (RFC 8415 section 21.1)
abbrev pub front_len : List ℕ → ℕ
front_len octets = big_number 2 (drop 2 octets)

-- a whole option stands at the front
abbrev pub begins_whole : List ℕ → Bool
begins_whole octets = nat_le 4 (length octets) && nat_le (4 + front_len octets) (length octets)

-- the option at the front, and what stands behind it
abbrev pub front_option : List ℕ → DhcpOption
front_option octets = record { code = take 2 octets; len = take 2 (drop 2 octets); content = take (front_len octets) (drop 4 octets) }

abbrev pub behind_front : List ℕ → List ℕ
behind_front octets = drop (front_len octets) (drop 4 octets)

-- the option in front of those of a row
abbrev pub with_option : DhcpOption → OptionsRead → OptionsRead
with_option option row = record { options = option ∷ row.options; rest = row.rest }

-- a row of no option
abbrev pub no_option : List ℕ → OptionsRead
no_option octets = record { options = []; rest = octets }

-- the row of octets, with at most so many options
abbrev pub row_within : ℕ → List ℕ → OptionsRead
row_within zero octets = no_option octets
row_within (suc most) octets =
    if begins_whole octets then with_option (front_option octets) (row_within most (behind_front octets)) else no_option octets

-- the row: it has no more options than octets
unfoldable pub option_row : List ℕ → OptionsRead
option_row octets = row_within (length octets) octets

-- what reading the message gives
unfoldable pub dhcp_of : List ℕ → Result Dhcp DhcpFault
dhcp_of message = reading option_row message
