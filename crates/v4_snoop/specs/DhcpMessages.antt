-- Messages of DHCP over IPv4 (RFC 2131 section 2, figure 1).
use Rattle.std.specs.Prelude.{ℕ, ◌==◌, ◌&&◌, nat_le, Bool, if◌then◌else◌, List, length, drop, slice_index, Option, None}
use Rattle.std.specs.Option.{option_map, option_and_then}
use Rattle.byteorder.specs.Endian.{big_number}
use Rattle.v4_snoop.specs.declared.message.Message.{Message}
use Rattle.v4_snoop.specs.DhcpOptions.{BootpOption, dhcp_options, first_content, one_octet, four_octets}

-- the fixed part of 236 octets is there, and behind it the magic cookie (RFC 2131 section 3)
abbrev pub has_cookie : List ℕ → Bool
has_cookie payload = nat_le 240 (length payload) && (big_number 4 (drop 236 payload) == 0x63825363)

-- the type of the message: the content of option 53, which is one octet (RFC 2132 section 9.6)
abbrev pub message_type : List BootpOption → Option ℕ
message_type options = option_and_then one_octet (first_content 53 options)

-- the address that is asked for, option 50 (RFC 2132 section 9.1), and the time of the lease in seconds, option 51 (section
-- 9.2), where they are four octets
abbrev pub requested_address : List BootpOption → Option ℕ
requested_address options = option_and_then four_octets (first_content 50 options)

abbrev pub lease_time : List BootpOption → Option ℕ
lease_time options = option_and_then four_octets (first_content 51 options)

-- a message of this type, with its options
abbrev pub message_with : List ℕ → List BootpOption → ℕ → Message
message_with payload options kind = record {
  op = slice_index payload 0;
  hlen = slice_index payload 2;
  xid = big_number 4 (drop 4 payload);
  ciaddr = big_number 4 (drop 12 payload);
  yiaddr = big_number 4 (drop 16 payload);
  chaddr = big_number 6 (drop 28 payload);
  kind = kind;
  requested = requested_address options;
  seconds = lease_time options;
}

-- the message that a datagram carries, if it carries one
unfoldable pub message_of : List ℕ → Option Message
message_of payload =
    if has_cookie payload then option_and_then (λ options. option_map (message_with payload options) (message_type options)) (dhcp_options (drop 240 payload)) else None
