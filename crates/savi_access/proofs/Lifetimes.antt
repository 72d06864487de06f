-- The lifetimes that a frame of octets shows are numbers of 32 bits.
use Rattle.std.proofs.Common.{ℕ, zero, suc, ◌<◌, ◌^◌, ◌==◌, nat_lt, Bool, true, false, if◌then◌else◌, Option, Some, None, Result, Ok, Err, List, [], ◌∷◌, length, take, drop, All, arith}
use Rattle.std.specs.List.{flat_map}
use Rattle.std.specs.Result.{result_ok}
use Rattle.std.proofs.lemmas.List.Elements.{All-nil, All-cons, All-append}
use Rattle.byteorder.specs.Endian.{big_number}
use Rattle.hex.specs.Hex.{IsBytes}
use Rattle.eth_frame.specs.declared.header.Eth.{Eth}
use Rattle.eth_frame.specs.Frame.{header_of as ethernet_of, payload_of}
use Rattle.eth_frame.specs.Tags.{is_tag}
use Rattle.v6_chain.specs.declared.packet.Ip.{Ip}
use Rattle.v6_chain.specs.declared.outcome.Chain.{Chain}
use Rattle.v6_chain.specs.declared.outcome.Chain.TheVariants as chains
use Rattle.v6_chain.specs.Packet.{header_fields, body_of}
use Rattle.v6_chain.specs.Outcome.{message_of}
use Rattle.v6_chain.specs.ChainOf.{chain_of}
use Rattle.dhcp6_read.specs.declared.message.Dhcp.{Dhcp}
use Rattle.dhcp6_read.specs.declared.message.DhcpFault.{DhcpFault}
use Rattle.dhcp6_read.specs.declared.message.Lease.{Lease}
use Rattle.dhcp6_read.specs.Options.{DhcpOption, OptionsRead, option_code}
use Rattle.dhcp6_read.specs.Levels.{Said, row_says, status_says, in_address, lease_of, address_says, in_ia, ia_says, duid_says, in_message}
use Rattle.dhcp6_read.specs.Message.{read_whole, unless_fault, reading, is_relayed, kind_of as dhcp_kind}
use Rattle.dhcp6_read.specs.DhcpOf.{begins_whole, front_option, behind_front, with_option, no_option, row_within, option_row, dhcp_of}
use Rattle.frame_class.specs.declared.classes.Class.{Class}
use Rattle.frame_class.specs.declared.classes.Read.{Read}
use Rattle.frame_class.specs.declared.classes.Read.TheVariants.{Udp}
use Rattle.frame_class.specs.ClassOf.{is_packet, is_for_dhcp, dhcp_message_of, message_read_of, read_by, typed_class_of, class_of}
use Rattle.frame_class.specs.Reading.{ipv6_type, destination_port, first_of_payload, udp_payload}
use Rattle.savi_access.specs.Frames.{HasLifetimes, ShowsLifetimes, AreLifetimes}

pub bytes_drop : (n : ℕ) (xs : List ℕ) → IsBytes xs → IsBytes (drop n xs)
bytes_drop zero xs bytes = bytes
bytes_drop (suc n) [] bytes = bytes
bytes_drop (suc n) (x ∷ xs) bytes = bytes_drop n xs (λ i. bytes (suc i))

pub bytes_cons : (x : ℕ) (xs : List ℕ) → x < 256 → IsBytes xs → IsBytes (x ∷ xs)
bytes_cons x xs first rest zero = first
bytes_cons x xs first rest (suc i) = rest i

pub bytes_take : (n : ℕ) (xs : List ℕ) → IsBytes xs → IsBytes (take n xs)
bytes_take zero xs bytes = λ i. omega arith
bytes_take (suc n) [] bytes = bytes
bytes_take (suc n) (x ∷ xs) bytes = bytes_cons x (take n xs) (bytes 0) (bytes_take n xs (λ j. bytes (suc j)))

four_bytes : (xs : List ℕ) → IsBytes xs → big_number 4 xs < 2 ^ 32
four_bytes xs bytes = omega (arith, bytes 0, bytes 1, bytes 2, bytes 3)

-- options with octets for their contents
abbrev HaveBytes : List DhcpOption → Type 0
HaveBytes [] = Unit {0}
HaveBytes (option ∷ options) = IsBytes option.content × HaveBytes options

row_at : (b : Bool) (octets : List ℕ) (row : OptionsRead) → IsBytes octets → HaveBytes row.options → HaveBytes (if b then with_option (front_option octets) row else no_option octets).options
row_at true octets row bytes rest = (bytes_take (big_number 2 (drop 2 octets)) (drop 4 octets) (bytes_drop 4 octets bytes), rest)
row_at false octets row bytes rest = tt

row_bytes : (most : ℕ) (octets : List ℕ) → IsBytes octets → HaveBytes (row_within most octets).options
row_bytes zero octets bytes = tt
row_bytes (suc most) octets bytes =
    row_at (begins_whole octets) octets (row_within most (behind_front octets)) bytes
    (row_bytes most (behind_front octets) (bytes_drop (big_number 2 (drop 2 octets)) (drop 4 octets) (bytes_drop 4 octets bytes)))

abbrev AreShort : List Lease → Type 0
AreShort leases = All (λ (lease : Lease). lease.valid < 2 ^ 32) leases

abbrev Short : Said → Type 0
Short said = AreShort said.leases

no_leases : AreShort []
no_leases = All-nil (λ (lease : Lease). lease.valid < 2 ^ 32)

flat_short : (says : ℕ → List ℕ → Said) → ((code : ℕ) (content : List ℕ) → IsBytes content → Short (says code content)) → (options : List DhcpOption) → HaveBytes options
    → AreShort (flat_map (λ (option : DhcpOption). (says (option_code option) option.content).leases) options)
flat_short says short [] bytes = no_leases
flat_short says short (option ∷ options) bytes =
    All-append (λ (lease : Lease). lease.valid < 2 ^ 32) (says (option_code option) option.content).leases (flat_map (λ (o : DhcpOption). (says (option_code o) o.content).leases) options)
    (short (option_code option) option.content bytes.0) (flat_short says short options bytes.1)

none_if : (b : Bool) (leases : List Lease) → AreShort leases → AreShort (if b then [] else leases)
none_if true leases short = no_leases
none_if false leases short = short

said_if : (b : Bool) (x y : Said) → Short x → Short y → Short (if b then x else y)
said_if true x y first second = first
said_if false x y first second = second

status_short : (kind : ℕ) (content : List ℕ) → Short (status_says kind content)
status_short kind content = said_if (nat_lt (length content) 2) _ _ no_leases no_leases

lease_short : (content : List ℕ) → IsBytes content → (lease_of content).valid < 2 ^ 32
unfolding lease_of
lease_short content bytes = four_bytes (drop 20 content) (bytes_drop 20 content bytes)

module _ (row_of : List ℕ → OptionsRead) (gives : (octets : List ℕ) → IsBytes octets → HaveBytes (row_of octets).options) (kind : ℕ) where
  address_short : (content : List ℕ) → IsBytes content → Short (address_says row_of kind content)
  address_short content bytes =
      said_if (nat_lt (length content) 24) _ _ no_leases
      (none_if (row_says (in_address kind) (row_of (drop 24 content))).void (lease_of content ∷ []) (All-cons (λ (lease : Lease). lease.valid < 2 ^ 32) (lease_of content) [] (lease_short content bytes) no_leases))

  in_ia_short : (code : ℕ) (content : List ℕ) → IsBytes content → Short (in_ia row_of kind code content)
  in_ia_short code content bytes = said_if (code == 5) _ _ (address_short content bytes) (said_if (code == 13) _ _ (status_short kind content) no_leases)

  ia_short : (fixed : ℕ) (content : List ℕ) → IsBytes content → Short (ia_says row_of fixed kind content)
  ia_short fixed content bytes =
      let inner : Said = row_says (in_ia row_of kind) (row_of (drop fixed content)) in
      said_if (nat_lt (length content) fixed) _ _ no_leases
      (none_if inner.void inner.leases (flat_short (in_ia row_of kind) in_ia_short (row_of (drop fixed content)).options (gives (drop fixed content) (bytes_drop fixed content bytes))))

  duid_short : (content : List ℕ) → Short (duid_says content)
  duid_short content = said_if (nat_lt (length content) 3) _ _ no_leases (said_if (nat_lt 130 (length content)) _ _ no_leases no_leases)

  in_message_short : (code : ℕ) (content : List ℕ) → IsBytes content → Short (in_message row_of kind code content)
  in_message_short code content bytes =
      said_if (code == 1) _ _ (duid_short content)
      (said_if (code == 3) _ _ (ia_short 12 content bytes) (said_if (code == 4) _ _ (ia_short 4 content bytes) (said_if (code == 13) _ _ (status_short kind content) no_leases)))

abbrev Reads : Result Dhcp DhcpFault → Type 0
Reads (Ok dhcp) = HasLifetimes dhcp
Reads (Err fault) = Unit {0}

unless_short : (faults : List DhcpFault) (dhcp : Dhcp) → HasLifetimes dhcp → Reads (unless_fault faults dhcp)
unless_short [] dhcp has = has
unless_short (fault ∷ faults) dhcp has = tt

reads_if : (b : Bool) (x y : Result Dhcp DhcpFault) → Reads x → Reads y → Reads (if b then x else y)
reads_if true x y first second = first
reads_if false x y first second = second

reading_short : (row_of : List ℕ → OptionsRead) → ((octets : List ℕ) → IsBytes octets → HaveBytes (row_of octets).options) → (message : List ℕ) → IsBytes message → Reads (reading row_of message)
reading_short row_of gives message bytes =
    let row : OptionsRead = row_of (drop 4 message) in
    let said : Said = row_says (in_message row_of (dhcp_kind message)) row in
    reads_if (nat_lt (length message) 4) _ _ tt
    (reads_if (is_relayed (dhcp_kind message)) _ _ no_leases
    (unless_short said.faults (read_whole message row.options said)
    (none_if said.void said.leases (flat_short (in_message row_of (dhcp_kind message)) (in_message_short row_of gives (dhcp_kind message)) row.options (gives (drop 4 message) (bytes_drop 4 message bytes))))))

dhcp_short : (message : List ℕ) → IsBytes message → Reads (dhcp_of message)
unfolding dhcp_of option_row
dhcp_short message bytes = reading_short option_row (λ octets each. row_bytes (length octets) octets each) message bytes

abbrev Shows : Option Dhcp → Type 0
Shows (Some dhcp) = HasLifetimes dhcp
Shows None = Unit {0}

shown_of : (result : Result Dhcp DhcpFault) → Reads result → Shows (result_ok result)
shown_of (Ok dhcp) has = has
shown_of (Err fault) has = tt

shown_if : (b : Bool) (x : Option Dhcp) → Shows x → Shows (if b then x else None)
shown_if true x has = has
shown_if false x has = tt

udp_short : (to : ℕ) (first : Option ℕ) (fragmented : Bool) (o : Option Dhcp) → Shows o → ShowsLifetimes (Udp to first fragmented o)
udp_short to first fragmented (Some dhcp) has = has
udp_short to first fragmented None has = tt

read_if : (b : Bool) (x y : Read) → ShowsLifetimes x → ShowsLifetimes y → ShowsLifetimes (if b then x else y)
read_if true x y first second = first
read_if false x y first second = second

message_short : (ip : Ip) (proto : ℕ) (message : List ℕ) (fragmented : Bool) → IsBytes message → ShowsLifetimes (message_read_of ip proto message fragmented)
message_short ip proto message fragmented bytes =
    read_if (proto == 58) _ _ tt
    (read_if (proto == 17) _ _
    (udp_short (destination_port message) (first_of_payload message) fragmented (dhcp_message_of message fragmented)
    (shown_if (is_for_dhcp message fragmented) _ (shown_of (dhcp_of (udp_payload message)) (dhcp_short (udp_payload message) (bytes_drop 8 message bytes)))))
    tt)

read_short : (ip : Ip) (payload : List ℕ) (chain : Chain) → IsBytes payload → ShowsLifetimes (read_by ip payload chain)
read_short ip payload (chains.Bad fault) bytes = tt
read_short ip payload chains.Hidden bytes = tt
read_short ip payload (chains.Unknown value) bytes = tt
read_short ip payload chains.Later bytes = tt
read_short ip payload (chains.Upper proto at fragmented) bytes = message_short ip proto (message_of ip payload at) fragmented
    (bytes_drop at (body_of ip payload) (bytes_take ip.len (drop 40 payload) (bytes_drop 40 payload bytes)))

class_if : (b : Bool) (x y : Class) → AreLifetimes x → AreLifetimes y → AreLifetimes (if b then x else y)
class_if true x y first second = first
class_if false x y first second = second

typed_short : (eth : Eth) (payload : List ℕ) → IsBytes payload → AreLifetimes (typed_class_of eth payload)
typed_short eth payload bytes =
    class_if (is_tag eth.kind) _ _ tt
    (class_if (eth.kind == ipv6_type) _ _
    (class_if (is_packet payload) _ _ (read_short (header_fields payload) payload (chain_of (header_fields payload) payload) bytes) tt)
    tt)

-- valid lifetimes in a frame are of 32 bits
pub lifetimes : (frame : List ℕ) → IsBytes frame → AreLifetimes (class_of frame)
unfolding class_of
lifetimes frame bytes = class_if (nat_lt (length frame) 14) _ _ tt (typed_short (ethernet_of frame) (payload_of frame) (bytes_drop 14 frame bytes))
