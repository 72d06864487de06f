-- What packets and messages are read as.
use Rattle.std.proofs.Common.{◌≡◌, ◌≢◌, ℕ, ◌<◌, ◌==◌, ◌&&◌, not, nat_le, Bool, true, false, cond, is_some, List, length, drop, Option, Some, None, refl, sym, ◌∙◌, ap, arith, inl, inr}
use Rattle.std.specs.Option.{option_map, option_and_then}
use Rattle.std.proofs.lemmas.Bool.{cases_Bool, and_parts, eqb-true, leb-true, ne_eqb}
use Rattle.v4_snoop.specs.declared.message.Message.{Message}
use Rattle.v4_snoop.specs.declared.packet.UdpPorts.{UdpPorts}
use Rattle.v4_snoop.specs.declared.told.Told.TheVariants.{Nothing}
use Rattle.v4_snoop.specs.Packets.{ip_version, header_len, total_len, IsReadableIp, is_readable, has_datagram, udp_ports, datagram_payload}
use Rattle.v4_snoop.specs.DhcpOptions.{BootpOption, dhcp_options}
use Rattle.v4_snoop.specs.DhcpMessages.{has_cookie, message_type, message_with, message_of}
use Rattle.v4_snoop.specs.Tellings.{is_from_client, is_to_client, told_by_client, told_by_server, told_if, told_in}

-- a readable header in its parts
pub readable_parts : (packet : List ℕ) → is_readable packet ≡ true → IsReadableIp packet
readable_parts packet is =
    let first = and_parts (ip_version packet == 4) (nat_le 20 (header_len packet) && (nat_le (header_len packet) (total_len packet) && nat_le (total_len packet) (length packet))) is in
    let second = and_parts (nat_le 20 (header_len packet)) (nat_le (header_len packet) (total_len packet) && nat_le (total_len packet) (length packet)) first.1 in
    let third = and_parts (nat_le (header_len packet) (total_len packet)) (nat_le (total_len packet) (length packet)) second.1 in
    record {
      version = eqb-true (ip_version packet) 4 first.0;
      fixed = leb-true 20 (header_len packet) second.0;
      header = leb-true (header_len packet) (total_len packet) third.0;
      total = leb-true (total_len packet) (length packet) third.1;
    }

-- fewer than 20 octets have none
pub readable_short : (packet : List ℕ) → length packet < 20 → is_readable packet ≡ false
readable_short packet short =
    elim (cases_Bool (is_readable packet)) [
      | inl is ↦
          let parts : IsReadableIp packet = readable_parts packet is in
          absurd (omega (arith, short, parts.fixed, parts.header, parts.total))
      | inr isnt ↦ isnt
    ]

-- a packet that has ports of UDP has a datagram
pub ports_of_datagram : (packet : List ℕ) (ports : UdpPorts) → udp_ports packet ≡ Some ports → has_datagram packet ≡ true
ports_of_datagram packet ports is =
    elim (cases_Bool (has_datagram packet)) [
      | inl has ↦ has
      | inr hasnt ↦
          let none : udp_ports packet ≡ None = rw hasnt refl in
          let no : None ≡ Some ports = sym none ∙ is in
          cc
    ]

-- what a packet tells

pub told_unreadable : (v h : Bool) (packet : List ℕ) → is_readable packet ≡ false → told_in v h packet ≡ Nothing
unfolding told_in
told_unreadable v h packet isnt = ap (λ b. cond b (told_if v h (udp_ports packet) (message_of (datagram_payload packet))) Nothing) isnt

pub told_readable : (v h : Bool) (packet : List ℕ) (ports : Option UdpPorts) → is_readable packet ≡ true → udp_ports packet ≡ ports → told_in v h packet ≡ told_if v h ports (message_of (datagram_payload packet))
unfolding told_in
told_readable v h packet ports is found =
    ap (λ b. cond b (told_if v h (udp_ports packet) (message_of (datagram_payload packet))) Nothing) is
    ∙ ap (λ o. told_if v h o (message_of (datagram_payload packet))) found

-- a port of UDP at which neither servers nor clients listen
pub told_elsewhere : (v h : Bool) (ports : UdpPorts) (message : Option Message) → ports.to ≢ 67 → ports.to ≢ 68 → told_if v h (Some ports) message ≡ Nothing
told_elsewhere v h ports None no_server no_client = refl
told_elsewhere v h ports (Some message) no_server no_client = go v h (ports.to == 67) (ports.to == 68) (ne_eqb ports.to 67 no_server) (ne_eqb ports.to 68 no_client)
  where
    go : (v h a b : Bool) → a ≡ false → b ≡ false → cond (v && a) (cond (is_from_client message) (told_by_client message) Nothing) (cond (not h && b) (cond (is_to_client message) (told_by_server message) Nothing) Nothing) ≡ Nothing
    go true true a b first second = ap (λ c. cond c (cond (is_from_client message) (told_by_client message) Nothing) Nothing) first
    go true false a b first second =
        ap (λ c. cond c (cond (is_from_client message) (told_by_client message) Nothing) (cond b (cond (is_to_client message) (told_by_server message) Nothing) Nothing)) first
        ∙ ap (λ c. cond c (cond (is_to_client message) (told_by_server message) Nothing) Nothing) second
    go false true a b first second = refl
    go false false a b first second = ap (λ c. cond c (cond (is_to_client message) (told_by_server message) Nothing) Nothing) second

-- a message

pub message_without_cookie : (payload : List ℕ) → has_cookie payload ≡ false → message_of payload ≡ None
unfolding message_of
message_without_cookie payload isnt =
    ap (λ b. cond b (option_and_then (λ options. option_map (message_with payload options) (message_type options)) (dhcp_options (drop 240 payload))) None) isnt

pub message_with_cookie : (payload : List ℕ) → has_cookie payload ≡ true → message_of payload ≡ option_and_then (λ options. option_map (message_with payload options) (message_type options)) (dhcp_options (drop 240 payload))
unfolding message_of
message_with_cookie payload is =
    ap (λ b. cond b (option_and_then (λ options. option_map (message_with payload options) (message_type options)) (dhcp_options (drop 240 payload))) None) is

-- a message whose options run over, or have no type
pub message_cut : (payload : List ℕ) → has_cookie payload ≡ true → is_some (dhcp_options (drop 240 payload)) ≡ false → message_of payload ≡ None
message_cut payload is cut = message_with_cookie payload is ∙ go (dhcp_options (drop 240 payload)) cut
  where
    go : (options : Option (List BootpOption)) → is_some options ≡ false → option_and_then (λ read. option_map (message_with payload read) (message_type read)) options ≡ None
    go None cut = refl
    go (Some read) cut = cc

pub message_typeless : (payload : List ℕ) → has_cookie payload ≡ true → option_and_then message_type (dhcp_options (drop 240 payload)) ≡ None → message_of payload ≡ None
message_typeless payload is none = message_with_cookie payload is ∙ go (dhcp_options (drop 240 payload)) none
  where
    go : (options : Option (List BootpOption)) → option_and_then message_type options ≡ None → option_and_then (λ read. option_map (message_with payload read) (message_type read)) options ≡ None
    go None none = refl
    go (Some read) none = ap (option_map (message_with payload read)) none

-- one of a type, with what its options say
pub message_typed : (payload : List ℕ) (kind : ℕ) (message : Message) (options : Option (List BootpOption)) → has_cookie payload ≡ true → dhcp_options (drop 240 payload) ≡ options → is_some options ≡ true → option_and_then message_type options ≡ Some kind → ((read : List BootpOption) → options ≡ Some read → message ≡ message_with payload read kind) → message_of payload ≡ Some message
message_typed payload kind message None is same whole typed with = cc
message_typed payload kind message (Some read) is same whole typed with =
    message_with_cookie payload is
    ∙ ap (option_and_then (λ options. option_map (message_with payload options) (message_type options))) same
    ∙ ap (option_map (message_with payload read)) typed
    ∙ ap Some (sym (with read refl))

abbrev pub message_of_parts : ℕ → ℕ → ℕ → ℕ → ℕ → ℕ → ℕ → Option ℕ → Option ℕ → Message
message_of_parts op hlen xid ciaddr yiaddr chaddr kind requested seconds = record { op = op; hlen = hlen; xid = xid; ciaddr = ciaddr; yiaddr = yiaddr; chaddr = chaddr; kind = kind; requested = requested; seconds = seconds }

-- one reading after another
pub then_read : {A B C : Type 0} (f : B → Option C) (g : A → Option B) (o : Option A) → option_and_then (λ a. option_and_then f (g a)) o ≡ option_and_then f (option_and_then g o)
then_read f g None = refl
then_read f g (Some a) = refl

pub same_message : {op hlen xid ciaddr yiaddr chaddr op' hlen' xid' ciaddr' yiaddr' chaddr' : ℕ} (kind : ℕ) {requested seconds requested' seconds' : Option ℕ} → op ≡ op' → hlen ≡ hlen' → xid ≡ xid' → ciaddr ≡ ciaddr' → yiaddr ≡ yiaddr' → chaddr ≡ chaddr' → requested ≡ requested' → seconds ≡ seconds'
    → message_of_parts op hlen xid ciaddr yiaddr chaddr kind requested seconds ≡ message_of_parts op' hlen' xid' ciaddr' yiaddr' chaddr' kind requested' seconds'
same_message kind a b c d e f g h = rw (a, b, c, d, e, f, g, h) refl
