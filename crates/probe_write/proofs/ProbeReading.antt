-- What reading a probe gives.
use Rattle.std.proofs.Common.{◌≡◌, ℕ, ◌+◌, ◌*◌, ◌^◌, ◌<◌, true, List, [], ◌∷◌, ◌++◌, length, drop, Ok, refl, sym, ap, ◌∙◌, subst, arith}
use Rattle.std.proofs.lemmas.List.{append_assoc, drop_at, drop-drop, length-append}
use Rattle.std.proofs.lemmas.List.Elements.{All-nil}
use Rattle.std.specs.Int.{bytes_high_first}
use Rattle.std.specs.List.{flat_map}
use Rattle.byteorder.specs.Endian.{big_number}
use Rattle.byteorder.specs.Numbers.{big_number-reads_back}
use Rattle.savi_kinds.specs.declared.address.Addr.{Addr}
use Rattle.savi_kinds.specs.declared.address.Mac.{Mac}
use Rattle.savi_kinds.specs.Prefixes.{LiesIn, multicast}
use Rattle.v6_sum.specs.InternetChecksum.{checksum}
use Rattle.v6_chain.specs.declared.packet.Ip.{Ip}
use Rattle.v6_chain.specs.Packet.{IsPacket}
use Rattle.nd_read.specs.declared.message.Nd.TheVariants.{Ns}
use Rattle.nd_read.specs.declared.message.NdFault.{NdFault}
use Rattle.nd_read.specs.declared.message.NdFault.TheVariants.{HopLimit, Code, Short, Checksum, Target, Options, Unspecified, Solicited}
use Rattle.nd_read.specs.Messages.{named, target_of, IsNs, behind_fixed}
use Rattle.nd_read.specs.Options.{NdOption, AreOptions, IsWhole, HasKind, octets_of}
use Rattle.nd_read.specs.Tests.{Passes, Reads, solicited_node}
use Rattle.probe_write.specs.ProbeFrame.{no_address, solicited_node_of, group_mac_of, solicitation_with, solicitation_of, ethernet_octets, header_octets, probe_of}
use Rattle.probe_write.specs.ProbeReading.{ip_of, AsksFor}
use Rattle.probe_write.proofs.ProbeOctets.{length-solicitation, field_is}
use Rattle.v6_sum.proofs.Checksums.{checksum-filled}
use Rattle.v6_sum.proofs.WordLists.{IsBelow, below-append, below-high_first}
use Rattle.v6_sum.specs.InternetChecksum.{with_word_at}

-- the packet behind the Ethernet header
pub packet_is : (mac : Mac) (target : Addr) → length mac.0 ≡ 6 → drop 14 (probe_of mac target) ≡ header_octets target ++ solicitation_of target
unfolding probe_of
packet_is mac target six =
    let ethernet = ethernet_octets mac target in
    let len : length ethernet ≡ 14 = omega (arith, six, length-append (group_mac_of (solicited_node_of target) ++ mac.0) (134 ∷ 221 ∷ []), length-append (group_mac_of (solicited_node_of target)) mac.0) in
    ap (drop 14) (append_assoc ethernet (header_octets target) (solicitation_of target)) ∙ drop_at ethernet (header_octets target ++ solicitation_of target) 14 len

group-fits : (target : Addr) → (solicited_node_of target).0 < 256 ^ 16
unfolding solicited_node_of
group-fits target = omega arith

pub is_packet : (target : Addr) → IsPacket (header_octets target ++ solicitation_of target) (ip_of target)
is_packet target =
    let group = (solicited_node_of target).0 in
    let address : ℕ → Ip = λ n. record { src = no_address; dst = record { 0 = n }; next = 58; hop = 255; len = 24 } in
    let back : big_number 16 (bytes_high_first 16 group ++ solicitation_of target) ≡ group = big_number-reads_back 16 group (solicitation_of target) (group-fits target) in
    record {
      header = ap address (sym back);
      version = refl;
      whole = omega (arith, length-append (header_octets target) (solicitation_of target), length-solicitation target (checksum no_address (solicited_node_of target) 58 (solicitation_with target 0)));
      source = λ h. omega (arith, h.0);
    }

-- the target that is read
target-back : (target : Addr) (sum : ℕ) → target.0 < 2 ^ 128 → target_of (solicitation_with target sum) ≡ target
unfolding target_of solicitation_with
target-back target sum fits =
    let address : ℕ → Addr = λ n. record { 0 = n } in
    let back : big_number 16 (bytes_high_first 16 target.0 ++ []) ≡ target.0 = big_number-reads_back 16 target.0 [] (omega arith) in
    ap address back

named-back : (target : Addr) (sum : ℕ) → target.0 < 2 ^ 128 → Ns target true ≡ named (ip_of target) (solicitation_with target sum)
unfolding named solicitation_with
named-back target sum fits = ap (λ (t : Addr). Ns t true) (sym (target-back target sum fits))

-- no options stand behind the target
no_options : (target : Addr) (sum : ℕ) → behind_fixed (solicitation_with target sum) ≡ []
unfolding solicitation_with
no_options target sum = refl

none_named : (octets : List ℕ) (options : List NdOption) → octets ≡ [] → AreOptions octets options → HasKind 1 options → ⊥
none_named octets [] e are h = let within = h.2 in omega (arith, within)
none_named octets (o ∷ os) e are h =
    let len : length octets ≡ length (octets_of o ++ flat_map octets_of os) = ap length are.row in
    let none : length octets ≡ 0 = ap length e in
    omega (arith, len, none, length-append (octets_of o) (flat_map octets_of os))

kind-ns : (target : Addr) (sum : ℕ) → IsNs (solicitation_with target sum)
unfolding solicitation_with
kind-ns target sum = refl

group-near : (target : Addr) → LiesIn (solicited_node_of target).0 solicited_node
unfolding solicited_node_of solicited_node
group-near target = (omega arith, omega arith)

all_pass : (target : Addr) (sum : ℕ) → target.0 < 2 ^ 128 → (LiesIn target.0 multicast → ⊥) → checksum no_address (solicited_node_of target) 58 (solicitation_with target sum) ≡ 0
    → (test : NdFault) → Passes test (ip_of target) (solicitation_with target sum)
unfolding Passes solicitation_with
all_pass target sum fits single right HopLimit = refl
all_pass target sum fits single right Code = refl
all_pass target sum fits single right Short = omega arith
all_pass target sum fits single right Checksum = right
all_pass target sum fits single right Target = λ kind lies.
    let P : Addr → Type 0 = λ t. LiesIn t.0 multicast in single (subst P (target-back target sum fits) lies)
all_pass target sum fits single right Options = ([], record { whole = All-nil IsWhole; row = no_options target sum })
all_pass target sum fits single right Unspecified = λ here.
    ((λ kind names. none_named (behind_fixed (solicitation_with target sum)) names.0 (no_options target sum) names.1 names.2), (λ ns. group-near target))
all_pass target sum fits single right Solicited = λ na group. absurd (omega (arith, na, kind-ns target sum))

pub solicitation_reads : (target : Addr) (sum : ℕ) → target.0 < 2 ^ 128 → (LiesIn target.0 multicast → ⊥) → checksum no_address (solicited_node_of target) 58 (solicitation_with target sum) ≡ 0
    → Reads (ip_of target) (solicitation_with target sum) (Ok (Ns target true))
solicitation_reads target sum fits single right = (named-back target sum fits, λ tested. all_pass target sum fits single right)

-- the length of a probe is that of its source and 72 octets more
pub length-probe : (mac : Mac) (target : Addr) → length (probe_of mac target) ≡ length mac.0 + 72
unfolding probe_of
length-probe mac target =
    let ethernet = ethernet_octets mac target in
    let sol = length-solicitation target (checksum no_address (solicited_node_of target) 58 (solicitation_with target 0)) in
    omega (arith, sol, length-append (ethernet ++ header_octets target) (solicitation_of target), length-append ethernet (header_octets target), length-append (group_mac_of (solicited_node_of target) ++ mac.0) (134 ∷ 221 ∷ []), length-append (group_mac_of (solicited_node_of target)) mac.0)

octets-below : (target : Addr) → IsBelow 256 (solicitation_with target 0)
unfolding solicitation_with
octets-below target =
    below-append 256 (bytes_high_first 8 (135 * 2 ^ 56)) (bytes_high_first 16 target.0) (below-high_first 8 (135 * 2 ^ 56)) (below-high_first 16 target.0)

-- the checksum of a probe is right
pub sum_is_right : (target : Addr) → checksum no_address (solicited_node_of target) 58 (solicitation_of target) ≡ 0
sum_is_right target =
    let xs = solicitation_with target 0 in
    let group = solicited_node_of target in
    let len = length-solicitation target 0 in
    let filled : checksum no_address group 58 (with_word_at xs 2 (checksum no_address group 58 (with_word_at xs 2 0))) ≡ 0 =
    checksum-filled no_address group 58 xs 2 (omega arith) (octets-below target) refl (omega (arith, len)) in
    let zeroed : with_word_at xs 2 0 ≡ xs = field_is target 0 0 in
    let sum = checksum no_address group 58 xs in
    let field : with_word_at xs 2 sum ≡ solicitation_with target sum = field_is target 0 sum in
    rw (zeroed, field) at filled

-- the message stands behind both headers
message_is : (mac : Mac) (target : Addr) → length mac.0 ≡ 6 → drop 54 (probe_of mac target) ≡ solicitation_of target
message_is mac target six =
    sym (drop-drop 40 14 (probe_of mac target))
    ∙ ap (drop 40) (packet_is mac target six)
    ∙ drop_at (header_octets target) (solicitation_of target) 40 refl

pub asks_for : (mac : Mac) (target : Addr) → length mac.0 ≡ 6 → target.0 < 2 ^ 128 → (LiesIn target.0 multicast → ⊥) → AsksFor target (probe_of mac target)
asks_for mac target six fits single = record {
  packet = let P : List ℕ → Type 0 = λ l. IsPacket l (ip_of target) in subst P (sym (packet_is mac target six)) (is_packet target);
  message =
      let P : List ℕ → Type 0 = λ l. Reads (ip_of target) l (Ok (Ns target true)) in
      subst P (sym (message_is mac target six)) (solicitation_reads target (checksum no_address (solicited_node_of target) 58 (solicitation_with target 0)) fits single (sum_is_right target));
}
