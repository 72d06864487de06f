-- A message (RFC 8415 sections 8, 9), and what reading it gives.
use Rattle.std.specs.Prelude.{◌≡◌, ℕ, ◌==◌, nat_lt, Bool, false, ◌||◌, Option, Some, None, Result, Ok, Err, List, [], ◌∷◌, length, drop, slice_index, if◌then◌else◌}
use Rattle.std.specs.List.{list_any}
use Rattle.arrayvec.specs.ArrayVec.{ArrayVec}
use Rattle.byteorder.specs.Endian.{big_number}
use Rattle.dhcp6_read.specs.declared.message.Dhcp.{Dhcp}
use Rattle.dhcp6_read.specs.declared.message.DhcpFault.{DhcpFault}
use Rattle.dhcp6_read.specs.declared.message.DhcpFault.TheVariants.{Short}
use Rattle.dhcp6_read.specs.Options.{DhcpOption, OptionsRead, option_code, GivesRows}
use Rattle.dhcp6_read.specs.Levels.{Said, row_says, in_message}

-- its type, one octet, and its transaction id, three octets (RFC 8415 section 8)
abbrev pub kind_of : List ℕ → ℕ
kind_of message = slice_index message 0

unfoldable pub tid_of : List ℕ → ℕ
tid_of message = big_number 3 (drop 1 message)

-- what relays send each other, Relay-forw and Relay-repl (RFC 8415 sections 7.3, 9)
abbrev pub is_relayed : ℕ → Bool
is_relayed kind = (kind == 12) || (kind == 13)

-- the content of the first option 1, a client's DUID (RFC 8415 section 21.2)
abbrev pub duid_in : List DhcpOption → Option (ArrayVec ℕ)
duid_in [] = None
duid_in (option ∷ options) = if option_code option == 1 then Some (record { items = option.content }) else duid_in options

-- an option 14, rapid commit, is among them (RFC 8415 section 21.14)
abbrev pub is_rapid : List DhcpOption → Bool
is_rapid options = list_any (λ option. option_code option == 14) options

-- the value where there is no fault, else the first fault
abbrev pub unless_fault : {T : Type 0} → List DhcpFault → T → Result T DhcpFault
unless_fault [] value = Ok value
unless_fault (fault ∷ faults) value = Err fault

-- a message of which only the type and the transaction id are read
abbrev pub unread : List ℕ → Dhcp
unread message = record { kind = kind_of message; tid = tid_of message; duid = None; rapid = false; leases = record { items = [] } }

-- a message with these options that say this
abbrev pub read_whole : List ℕ → List DhcpOption → Said → Dhcp
read_whole message options said = record {
  kind = kind_of message;
  tid = tid_of message;
  duid = duid_in options;
  rapid = is_rapid options;
  leases = record { items = if said.void then [] else said.leases };
}

-- what a message reads as, where its first 4 octets are there and its options are this row
abbrev pub options_read : (List ℕ → OptionsRead) → List ℕ → OptionsRead → Result Dhcp DhcpFault
options_read row_of message row =
    let said = row_says (in_message row_of (kind_of message)) row in unless_fault said.faults (read_whole message row.options said)

-- what a message reads as
abbrev pub reading : (List ℕ → OptionsRead) → List ℕ → Result Dhcp DhcpFault
reading row_of message =
    if nat_lt (length message) 4 then Err Short else (if is_relayed (kind_of message) then Ok (unread message) else options_read row_of message (row_of (drop 4 message)))

-- reading the message gives this
abbrev pub Reads : List ℕ → Result Dhcp DhcpFault → Type 0
Reads message result = (row_of : List ℕ → OptionsRead) × GivesRows row_of × (result ≡ reading row_of message)
