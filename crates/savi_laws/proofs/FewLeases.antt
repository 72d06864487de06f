-- How many leases a frame may show: each takes 28 octets of it, 4 of its option and 24 of its content.
use Rattle.std.proofs.Common.{ℕ, zero, suc, ◌+◌, ◌*◌, ◌≤◌, ◌==◌, nat_lt, nat_le, Bool, true, false, if◌then◌else◌, Option, Some, None, Result, Ok, Err, List, [], ◌∷◌, length, length-append, take, drop, arith, ◌≡◌, refl}
use Rattle.std.specs.List.{flat_map}
use Rattle.std.specs.Result.{result_ok}
use Rattle.std.proofs.lemmas.Bool.{and_parts, leb-true, ltb-false}
use Rattle.std.proofs.lemmas.List.{length-take, length-drop}
use Rattle.eth_frame.specs.declared.header.Eth.{Eth}
use Rattle.eth_frame.specs.Frame.{header_of as ethernet_of, payload_of}
use Rattle.eth_frame.specs.Tags.{is_tag}
use Rattle.v6_chain.specs.declared.packet.Ip.{Ip}
use Rattle.v6_chain.specs.declared.outcome.Chain.{Chain}
use Rattle.v6_chain.specs.declared.outcome.Chain.TheVariants as chains
use Rattle.v6_chain.specs.Packet.{header_fields, body_of}
use Rattle.v6_chain.specs.Outcome.{message_of}
use Rattle.v6_chain.specs.ChainOf.{chain_of}
use Rattle.dhcp6_read.specs.declared.message.Dhcp.{Dhcp}
use Rattle.dhcp6_read.specs.declared.message.DhcpFault.{DhcpFault}
use Rattle.dhcp6_read.specs.declared.message.Lease.{Lease}
use Rattle.dhcp6_read.specs.Options.{DhcpOption, OptionsRead, option_code}
use Rattle.dhcp6_read.specs.Levels.{Said, row_says, status_says, in_address, lease_of, address_says, in_ia, ia_says, duid_says, in_message}
use Rattle.dhcp6_read.specs.Message.{read_whole, unless_fault, reading, is_relayed, kind_of as dhcp_kind}
use Rattle.dhcp6_read.specs.DhcpOf.{front_len, begins_whole, front_option, behind_front, with_option, no_option, row_within, option_row, dhcp_of}
use Rattle.frame_class.specs.declared.classes.Class.{Class}
use Rattle.frame_class.specs.declared.classes.Class.TheVariants.{Ip6}
use Rattle.frame_class.specs.declared.classes.Read.{Read}
use Rattle.frame_class.specs.declared.classes.Read.TheVariants.{Udp}
use Rattle.frame_class.specs.ClassOf.{is_packet, is_for_dhcp, dhcp_message_of, message_read_of, read_by, typed_class_of, class_of}
use Rattle.frame_class.specs.Reading.{ipv6_type, destination_port, first_of_payload, udp_payload}

-- the message has no more leases than so many octets have room for
abbrev pub AreFewIn : ℕ → Dhcp → Type 0
AreFewIn octets dhcp = 28 * length dhcp.leases.items ≤ octets

-- so has what a packet shows
abbrev pub ShowsFew : ℕ → Read → Type 0
ShowsFew octets (Udp to first fragmented (Some dhcp)) = AreFewIn octets dhcp
ShowsFew octets _ = Unit {0}

-- and a frame of this class
abbrev pub HasFew : ℕ → Class → Type 0
HasFew octets (Ip6 eth ip read) = ShowsFew octets read
HasFew octets _ = Unit {0}

-- the octets of options, with their heads
abbrev size_of : List DhcpOption → ℕ
size_of [] = 0
size_of (option ∷ options) = 4 + length option.content + size_of options

length-drop-most : (n : ℕ) (octets : List ℕ) → length (drop n octets) ≤ length octets
length-drop-most n octets = omega (arith, length-drop n octets)

length-take-most : (n : ℕ) (octets : List ℕ) → length (take n octets) ≤ length octets
length-take-most n octets = omega (arith, length-take n octets)

row_at : (b : Bool) (octets : List ℕ) (row : OptionsRead) → begins_whole octets ≡ b → size_of row.options ≤ length (behind_front octets)
    → size_of (if b then with_option (front_option octets) row else no_option octets).options ≤ length octets
row_at true octets row whole rest =
    let parts : (nat_le 4 (length octets) ≡ true) × (nat_le (4 + front_len octets) (length octets) ≡ true) = and_parts (nat_le 4 (length octets)) (nat_le (4 + front_len octets) (length octets)) whole in
    omega (arith, rest, leb-true (4 + front_len octets) (length octets) parts.1, length-take (front_len octets) (drop 4 octets), length-drop 4 octets, length-drop (front_len octets) (drop 4 octets))
row_at false octets row none rest = omega arith

row_size : (most : ℕ) (octets : List ℕ) → size_of (row_within most octets).options ≤ length octets
row_size zero octets = omega arith
row_size (suc most) octets = row_at (begins_whole octets) octets (row_within most (behind_front octets)) refl (row_size most (behind_front octets))

-- what is said has no more leases than so many octets have room for
abbrev Few : ℕ → Said → Type 0
Few octets said = 28 * length said.leases ≤ octets

flat_few : (says : ℕ → List ℕ → Said) → ((code : ℕ) (content : List ℕ) → Few (4 + length content) (says code content)) → (options : List DhcpOption)
    → 28 * length (flat_map (λ (option : DhcpOption). (says (option_code option) option.content).leases) options) ≤ size_of options
flat_few says few [] = omega arith
flat_few says few (option ∷ options) =
    omega (
      arith,
      few (option_code option) option.content,
      flat_few says few options,
      length-append (says (option_code option) option.content).leases (flat_map (λ (o : DhcpOption). (says (option_code o) o.content).leases) options),
    )

none_if : (octets : ℕ) (b : Bool) (leases : List Lease) → 28 * length leases ≤ octets → 28 * length (if b then [] else leases) ≤ octets
none_if octets true leases few = omega arith
none_if octets false leases few = few

said_if : (octets : ℕ) (b : Bool) (x y : Said) → Few octets x → Few octets y → Few octets (if b then x else y)
said_if octets true x y first second = first
said_if octets false x y first second = second

status_few : (octets kind : ℕ) (content : List ℕ) → Few octets (status_says kind content)
status_few octets kind content = said_if octets (nat_lt (length content) 2) _ _ (omega arith) (omega arith)

module _ (row_of : List ℕ → OptionsRead) (gives : (octets : List ℕ) → size_of (row_of octets).options ≤ length octets) (kind : ℕ) where
  address_at : (b : Bool) (content : List ℕ) (x y : Said) → nat_lt (length content) 24 ≡ b → length x.leases ≡ 0 → length y.leases ≤ 1
      → Few (4 + length content) (if b then x else y)
  address_at true content x y short none one = omega (arith, none)
  address_at false content x y long none one = omega (arith, one, ltb-false (length content) 24 long)

  one_if : (b : Bool) (lease : Lease) → length (if b then [] else lease ∷ []) ≤ 1
  one_if true lease = omega arith
  one_if false lease = omega arith

  address_few : (content : List ℕ) → Few (4 + length content) (address_says row_of kind content)
  address_few content =
      address_at (nat_lt (length content) 24) content _ _ refl refl
      (one_if (row_says (in_address kind) (row_of (drop 24 content))).void (lease_of content))

  in_ia_few : (code : ℕ) (content : List ℕ) → Few (4 + length content) (in_ia row_of kind code content)
  in_ia_few code content =
      said_if (4 + length content) (code == 5) _ _ (address_few content)
      (said_if (4 + length content) (code == 13) _ _ (status_few (4 + length content) kind content) (omega arith))

  ia_few : (fixed : ℕ) (content : List ℕ) → Few (4 + length content) (ia_says row_of fixed kind content)
  ia_few fixed content =
      let inner : Said = row_says (in_ia row_of kind) (row_of (drop fixed content)) in
      let few : 28 * length inner.leases ≤ size_of (row_of (drop fixed content)).options = flat_few (in_ia row_of kind) in_ia_few (row_of (drop fixed content)).options in
      said_if (4 + length content) (nat_lt (length content) fixed) _ _ (omega arith)
      (none_if (4 + length content) inner.void inner.leases (omega (arith, few, gives (drop fixed content), length-drop-most fixed content)))

  duid_few : (octets : ℕ) (content : List ℕ) → Few octets (duid_says content)
  duid_few octets content =
      said_if octets (nat_lt (length content) 3) _ _ (omega arith) (said_if octets (nat_lt 130 (length content)) _ _ (omega arith) (omega arith))

  in_message_few : (code : ℕ) (content : List ℕ) → Few (4 + length content) (in_message row_of kind code content)
  in_message_few code content =
      let octets : ℕ = 4 + length content in
      said_if octets (code == 1) _ _ (duid_few octets content)
      (said_if octets (code == 3) _ _ (ia_few 12 content)
      (said_if octets (code == 4) _ _ (ia_few 4 content) (said_if octets (code == 13) _ _ (status_few octets kind content) (omega arith))))

abbrev Reads : ℕ → Result Dhcp DhcpFault → Type 0
Reads octets (Ok dhcp) = AreFewIn octets dhcp
Reads octets (Err fault) = Unit {0}

unless_few : (octets : ℕ) (faults : List DhcpFault) (dhcp : Dhcp) → AreFewIn octets dhcp → Reads octets (unless_fault faults dhcp)
unless_few octets [] dhcp has = has
unless_few octets (fault ∷ faults) dhcp has = tt

reads_if : (octets : ℕ) (b : Bool) (x y : Result Dhcp DhcpFault) → Reads octets x → Reads octets y → Reads octets (if b then x else y)
reads_if octets true x y first second = first
reads_if octets false x y first second = second

reading_few : (row_of : List ℕ → OptionsRead) → ((octets : List ℕ) → size_of (row_of octets).options ≤ length octets) → (message : List ℕ) → Reads (length message) (reading row_of message)
reading_few row_of gives message =
    let row : OptionsRead = row_of (drop 4 message) in
    let said : Said = row_says (in_message row_of (dhcp_kind message)) row in
    let few : 28 * length said.leases ≤ size_of row.options = flat_few (in_message row_of (dhcp_kind message)) (in_message_few row_of gives (dhcp_kind message)) row.options in
    reads_if (length message) (nat_lt (length message) 4) _ _ tt
    (reads_if (length message) (is_relayed (dhcp_kind message)) _ _ (omega arith)
    (unless_few (length message) said.faults (read_whole message row.options said)
    (none_if (length message) said.void said.leases (omega (arith, few, gives (drop 4 message), length-drop-most 4 message)))))

dhcp_few : (message : List ℕ) → Reads (length message) (dhcp_of message)
unfolding dhcp_of option_row
dhcp_few message = reading_few option_row (λ octets. row_size (length octets) octets) message

abbrev pub Shows : ℕ → Option Dhcp → Type 0
Shows octets (Some dhcp) = AreFewIn octets dhcp
Shows octets None = Unit {0}

shown_of : (octets most : ℕ) (result : Result Dhcp DhcpFault) → octets ≤ most → Reads octets result → Shows most (result_ok result)
shown_of octets most (Ok dhcp) low has = omega (arith, low, has)
shown_of octets most (Err fault) low has = tt

pub shown_if : (octets : ℕ) (b : Bool) (x : Option Dhcp) → Shows octets x → Shows octets (if b then x else None)
shown_if octets true x has = has
shown_if octets false x has = tt

udp_few : (octets to : ℕ) (first : Option ℕ) (fragmented : Bool) (o : Option Dhcp) → Shows octets o → ShowsFew octets (Udp to first fragmented o)
udp_few octets to first fragmented (Some dhcp) has = has
udp_few octets to first fragmented None has = tt

read_if : (octets : ℕ) (b : Bool) (x y : Read) → ShowsFew octets x → ShowsFew octets y → ShowsFew octets (if b then x else y)
read_if octets true x y first second = first
read_if octets false x y first second = second

message_few : (octets : ℕ) (ip : Ip) (proto : ℕ) (message : List ℕ) (fragmented : Bool) → length message ≤ octets → ShowsFew octets (message_read_of ip proto message fragmented)
message_few octets ip proto message fragmented low =
    let most : length (udp_payload message) ≤ octets = omega (arith, low, length-drop-most 8 message) in
    read_if octets (proto == 58) _ _ tt
    (read_if octets (proto == 17) _ _
    (udp_few octets (destination_port message) (first_of_payload message) fragmented (dhcp_message_of message fragmented)
    (shown_if octets (is_for_dhcp message fragmented) _ (shown_of (length (udp_payload message)) octets (dhcp_of (udp_payload message)) most (dhcp_few (udp_payload message)))))
    tt)

read_few : (octets : ℕ) (ip : Ip) (payload : List ℕ) (chain : Chain) → length payload ≤ octets → ShowsFew octets (read_by ip payload chain)
read_few octets ip payload (chains.Bad fault) low = tt
read_few octets ip payload chains.Hidden low = tt
read_few octets ip payload (chains.Unknown value) low = tt
read_few octets ip payload chains.Later low = tt
read_few octets ip payload (chains.Upper proto at fragmented) low =
    message_few octets ip proto (message_of ip payload at) fragmented
    (omega (arith, low, length-drop-most at (body_of ip payload), length-take-most ip.len (drop 40 payload), length-drop-most 40 payload))

class_if : (octets : ℕ) (b : Bool) (x y : Class) → HasFew octets x → HasFew octets y → HasFew octets (if b then x else y)
class_if octets true x y first second = first
class_if octets false x y first second = second

typed_few : (octets : ℕ) (eth : Eth) (payload : List ℕ) → length payload ≤ octets → HasFew octets (typed_class_of eth payload)
typed_few octets eth payload low =
    class_if octets (is_tag eth.kind) _ _ tt
    (class_if octets (eth.kind == ipv6_type) _ _
    (class_if octets (is_packet payload) _ _ (read_few octets (header_fields payload) payload (chain_of (header_fields payload) payload) low) tt)
    tt)

-- a frame shows no more leases than it has room for
pub few_leases : (frame : List ℕ) → HasFew (length frame) (class_of frame)
unfolding class_of
few_leases frame =
    class_if (length frame) (nat_lt (length frame) 14) _ _ tt (typed_few (length frame) (ethernet_of frame) (payload_of frame) (length-drop-most 14 frame))
