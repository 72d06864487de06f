-- Each class has a rule or none at each port, the one that `guard_of` gives.
use Rattle.std.proofs.Common.{◌≡◌, ◌≢◌, ℕ, ◌+◌, ◌≤◌, ◌==◌, ◌&&◌, nat_le, not, Bool, true, false, IsTrue, List, [], ◌∷◌, find, Option, Some, None, is_none, refl, sym, ap, subst, inl, inr, arith}
use Rattle.std.specs.Bool.{Decides}
use Rattle.std.proofs.lemmas.Bool.{false≢true, not-true, not_from_false, cond_both, cases_lt}
use Rattle.std.proofs.lemmas.Bool.Decides.{Decides-eqb, Decides-and, Decides-or, Decides-like, not_from_Decides}
use Rattle.savi_kinds.specs.declared.plan.Role.{Role}
use Rattle.savi_kinds.specs.declared.plan.Role.TheVariants as roles
use Rattle.savi_kinds.specs.declared.verdict.Rule.{Rule}
use Rattle.savi_kinds.specs.declared.verdict.Rule.TheVariants as rules
use Rattle.savi_kinds.specs.Rules.{rule_number}
use Rattle.savi_kinds.specs.Macs.{is_group}
use Rattle.eth_frame.specs.declared.header.Eth.{Eth}
use Rattle.v6_chain.specs.declared.packet.Ip.{Ip}
use Rattle.nd_read.specs.declared.message.Nd.{Nd}
use Rattle.nd_read.specs.InPrefix.{lies_in}
use Rattle.nd_read.proofs.InPrefix.{Decides-leb, Decides-lies_in}
use Rattle.frame_class.specs.declared.classes.Class.{Class}
use Rattle.frame_class.specs.declared.classes.Class.TheVariants.{Runt, Tagged, Other, BadIp, Ip6}
use Rattle.frame_class.specs.declared.classes.Read.TheVariants.{Bad, Hidden, Unknown, Icmp, Udp}
use Rattle.ra_guard.specs.Guard.{HasEth, IsTagged, IsBad, IsHidden, IsUnknown, HasIcmp, HasUdp, IsRouterAdvert, IsDiscovery, IsValidatedType, IsFromServer, Applies, NoneBefore, IsFirst, is_reserved, link_local_unicast}
use Rattle.ra_guard.specs.GuardOf.{is_validating, is_host, is_runt, has_eth, is_tagged, is_bad, is_hidden, is_unknown, has_icmp, has_udp, is_router_advert, is_discovery, is_validated, is_octet, is_from_server, applies, message_rules, guard_of}
use Rattle.ra_guard.proofs.RuleOrder.{none_more, one_first}

never : Decides false ⊥
never = ((λ t. false≢true t), (λ h. absurd h))

always : Decides true (Unit {0})
always = ((λ t. tt), (λ h. refl))

itself : (b : Bool) → Decides b (IsTrue b)
itself b = ((λ t. t), (λ t. t))

validating_decided : (role : Role) → Decides (is_validating role) (role ≢ roles.Trusted)
validating_decided roles.Host = ((λ t h. let e : roles.Host ≡ roles.Trusted = h in cc), (λ h. refl))
validating_decided roles.Server = ((λ t h. let e : roles.Server ≡ roles.Trusted = h in cc), (λ h. refl))
validating_decided roles.Trusted = ((λ t. absurd (false≢true t)), (λ h. absurd (h refl)))

host_decided : (role : Role) → Decides (is_host role) (role ≡ roles.Host)
host_decided roles.Host = ((λ t. refl), (λ h. refl))
host_decided roles.Server = ((λ t. absurd (false≢true t)), (λ h. cc))
host_decided roles.Trusted = ((λ t. absurd (false≢true t)), (λ h. cc))

runt_decided : (class : Class) → Decides (is_runt class) (class ≡ Runt)
runt_decided Runt = ((λ t. refl), (λ h. refl))
runt_decided (Tagged eth) = ((λ t. absurd (false≢true t)), (λ h. cc))
runt_decided (Other eth) = ((λ t. absurd (false≢true t)), (λ h. cc))
runt_decided (BadIp eth) = ((λ t. absurd (false≢true t)), (λ h. cc))
runt_decided (Ip6 eth ip read) = ((λ t. absurd (false≢true t)), (λ h. cc))

eth_decided : (is : Eth → Bool) (Is : Eth → Type 0) → ((eth : Eth) → Decides (is eth) (Is eth)) → (class : Class) → Decides (has_eth is class) (HasEth Is class)
eth_decided is Is each Runt = never
eth_decided is Is each (Tagged eth) = each eth
eth_decided is Is each (Other eth) = each eth
eth_decided is Is each (BadIp eth) = each eth
eth_decided is Is each (Ip6 eth ip read) = each eth

tagged_decided : (class : Class) → Decides (is_tagged class) (IsTagged class)
tagged_decided (Tagged eth) = always
tagged_decided _ = never

bad_decided : (class : Class) → Decides (is_bad class) (IsBad class)
bad_decided (BadIp eth) = always
bad_decided (Ip6 eth ip Bad) = always
bad_decided _ = never

hidden_decided : (class : Class) → Decides (is_hidden class) (IsHidden class)
hidden_decided (Ip6 eth ip Hidden) = always
hidden_decided _ = never

unknown_decided : (class : Class) → Decides (is_unknown class) (IsUnknown class)
unknown_decided (Ip6 eth ip Unknown) = always
unknown_decided _ = never

icmp_decided : (is : Ip → ℕ → Bool → Option Nd → Bool) (Is : Ip → ℕ → Bool → Option Nd → Type 0) → ((ip : Ip) (kind : ℕ) (fragmented : Bool) (nd : Option Nd) → Decides (is ip kind fragmented nd) (Is ip kind fragmented nd)) → (class : Class) → Decides (has_icmp is class) (HasIcmp Is class)
icmp_decided is Is each (Ip6 eth ip (Icmp kind fragmented nd)) = each ip kind fragmented nd
icmp_decided is Is each _ = never

udp_decided : (is : ℕ → Option ℕ → Bool) (Is : ℕ → Option ℕ → Type 0) → ((to : ℕ) (first : Option ℕ) → Decides (is to first) (Is to first)) → (class : Class) → Decides (has_udp is class) (HasUdp Is class)
udp_decided is Is each (Ip6 eth ip (Udp to first fragmented dhcp)) = each to first
udp_decided is Is each _ = never

advert_decided : (ip : Ip) (kind : ℕ) → Decides (is_router_advert ip kind) (IsRouterAdvert ip kind)
advert_decided ip kind =
    Decides-like (is_router_advert ip kind) (λ h. (h.0, h.1.0, h.1.1)) (λ h. (h.0, (h.1, h.2)))
    (Decides-and (kind == 134) _ (Decides-eqb kind 134) (Decides-and (lies_in ip.src.0 link_local_unicast) _ (Decides-lies_in ip.src.0 link_local_unicast) (Decides-eqb ip.hop 255)))

discovery_decided : (kind : ℕ) → Decides (is_discovery kind) (IsDiscovery kind)
discovery_decided kind = Decides-and (nat_le 133 kind) _ (Decides-leb 133 kind) (Decides-leb kind 137)

validated_decided : (kind : ℕ) → Decides (is_validated kind) (IsValidatedType kind)
validated_decided kind = Decides-or (kind == 133) _ (Decides-eqb kind 133) (Decides-or (kind == 135) _ (Decides-eqb kind 135) (Decides-eqb kind 136))

fragmented_decided : (fragmented : Bool) → Decides (not fragmented) (fragmented ≡ false)
fragmented_decided fragmented = ((λ t. not-true fragmented t), (λ h. not_from_false fragmented h))

none_decided : (nd : Option Nd) → Decides (is_none nd) (nd ≡ None)
none_decided None = ((λ t. refl), (λ h. refl))
none_decided (Some nd) = ((λ t. absurd (false≢true t)), (λ h. cc))

octet_decided : (octet : ℕ) (first : Option ℕ) → Decides (is_octet octet first) (first ≡ Some octet)
octet_decided octet None = ((λ t. absurd (false≢true t)), (λ h. cc))
octet_decided octet (Some first) =
    let some : ℕ → Option ℕ = λ n. Some n in
    Decides-like (first == octet) (λ (e : first ≡ octet). ap some e) (λ (h : Some first ≡ Some octet). let e : first ≡ octet = cc in e) (Decides-eqb first octet)

server_decided : (to : ℕ) (first : Option ℕ) → Decides (is_from_server to first) (IsFromServer to first)
server_decided to first =
    Decides-or (to == 546) _ (Decides-eqb to 546)
    (Decides-and (to == 547) _ (Decides-eqb to 547) (Decides-or (is_octet 12 first) _ (octet_decided 12 first) (octet_decided 13 first)))

-- the test of each rule tells whether it applies
pub applies_decided : (role : Role) (drop_unknown : Bool) (class : Class) (rule : Rule) → Decides (applies role drop_unknown class rule) (Applies role drop_unknown class rule)
applies_decided role drop_unknown class rules.Malformed = runt_decided class
applies_decided role drop_unknown class rules.ReservedGroup =
    eth_decided (λ eth. is_reserved eth.dst) (λ eth. IsTrue (is_reserved eth.dst)) (λ eth. itself (is_reserved eth.dst)) class
applies_decided role drop_unknown class rules.SourceMac =
    eth_decided (λ eth. is_group eth.src) (λ eth. IsTrue (is_group eth.src)) (λ eth. itself (is_group eth.src)) class
applies_decided role drop_unknown class rules.Tagged =
    Decides-and (is_validating role) _ (validating_decided role) (tagged_decided class)
applies_decided role drop_unknown class rules.BadIpv6 =
    Decides-and (is_validating role) _ (validating_decided role) (bad_decided class)
applies_decided role drop_unknown class rules.HiddenUpper =
    Decides-and (is_validating role) _ (validating_decided role) (hidden_decided class)
applies_decided role drop_unknown class rules.UnknownNextHeader =
    Decides-like (applies role drop_unknown class rules.UnknownNextHeader) (λ h. (h.0, h.1.0, h.1.1)) (λ h. (h.0, (h.1, h.2)))
    (Decides-and (is_validating role) _ (validating_decided role) (Decides-and drop_unknown _ (itself drop_unknown) (unknown_decided class)))
applies_decided role drop_unknown class rules.RouterAdvert =
    Decides-and (is_validating role) _ (validating_decided role)
    (icmp_decided (λ ip kind fragmented nd. is_router_advert ip kind) (λ ip kind fragmented nd. IsRouterAdvert ip kind) (λ ip kind fragmented nd. advert_decided ip kind) class)
applies_decided role drop_unknown class rules.FragmentedNd =
    Decides-and (is_validating role) _ (validating_decided role)
    (icmp_decided (λ ip kind fragmented nd. is_discovery kind && fragmented) (λ ip kind fragmented nd. IsDiscovery kind × (fragmented ≡ true)) (λ ip kind fragmented nd. Decides-and (is_discovery kind) fragmented (discovery_decided kind) (itself fragmented)) class)
applies_decided role drop_unknown class rules.BadNd =
    Decides-and (is_validating role) _ (validating_decided role)
    (icmp_decided (λ ip kind fragmented nd. is_validated kind && (not fragmented && is_none nd)) (λ ip kind fragmented nd. IsValidatedType kind × (fragmented ≡ false) × (nd ≡ None)) (λ ip kind fragmented nd.
    Decides-like (is_validated kind && (not fragmented && is_none nd)) (λ h. (h.0, h.1.0, h.1.1)) (λ h. (h.0, (h.1, h.2)))
    (Decides-and (is_validated kind) _ (validated_decided kind) (Decides-and (not fragmented) _ (fragmented_decided fragmented) (none_decided nd)))) class)
applies_decided role drop_unknown class rules.Redirect =
    Decides-and (is_validating role) _ (validating_decided role)
    (icmp_decided (λ ip kind fragmented nd. kind == 137) (λ ip kind fragmented nd. kind ≡ 137) (λ ip kind fragmented nd. Decides-eqb kind 137) class)
applies_decided role drop_unknown class rules.DhcpServer =
    Decides-and (is_host role) _ (host_decided role) (udp_decided is_from_server IsFromServer server_decided class)
applies_decided role drop_unknown class _ = never

-- these are the rules on messages from this number on
abbrev AreFrom : ℕ → List Rule → Type 0
AreFrom number [] = number ≡ 14
AreFrom number (rule ∷ later) = (rule_number rule ≡ number) × AreFrom (number + 1) later

rules_are : AreFrom 2 message_rules
rules_are = (refl, (refl, (refl, (refl, (refl, (refl, (refl, (refl, (refl, (refl, (refl, (refl, refl))))))))))))

first_is : (Has : Rule → Type 0) (has : Rule → Bool) → ((rule : Rule) → Decides (has rule) (Has rule)) → (NoneBefore Has 14 → IsFirst Has None) → (later : List Rule) (number : ℕ) → AreFrom number later → NoneBefore Has number → IsFirst Has (find has later)
first_is Has has each all [] number from before = all (subst (NoneBefore Has) from before)
first_is Has has each all (rule ∷ later) number from before =
    let here : NoneBefore Has (rule_number rule) = subst (NoneBefore Has) (sym from.0) before in
    cond_both (has rule) (Some rule) (find has later) (IsFirst Has)
    (λ holds. ((each rule).0 holds, here))
    (λ fails.
    let more : NoneBefore Has (rule_number rule + 1) = none_more Has rule here (not_from_Decides (has rule) (each rule) fails) in
    first_is Has has each all later (number + 1) from.1 (subst (NoneBefore Has) (ap (λ (n : ℕ). n + 1) from.0) more))

before_two : (role : Role) (drop_unknown : Bool) (class : Class) → NoneBefore (Applies role drop_unknown class) 2
before_two role drop_unknown class rules.PortDown less = λ applies. applies
before_two role drop_unknown class _ less = absurd (omega (arith, less))

-- no rule from number 14 on is a rule on messages
none_later : (role : Role) (drop_unknown : Bool) (class : Class) (rule : Rule) → 14 ≤ rule_number rule → Applies role drop_unknown class rule → ⊥
none_later role drop_unknown class rules.UnspecifiedSource later = λ applies. applies
none_later role drop_unknown class rules.OffLink later = λ applies. applies
none_later role drop_unknown class rules.NotAssigned later = λ applies. applies
none_later role drop_unknown class rules.PortFull later = λ applies. applies
none_later role drop_unknown class rules.WrongPort later = λ applies. applies
none_later role drop_unknown class rules.Unverified later = λ applies. applies
none_later role drop_unknown class rules.Contested later = λ applies. applies
none_later role drop_unknown class rules.NaTarget later = λ applies. applies
none_later role drop_unknown class rules.PendingFull later = λ applies. applies
none_later role drop_unknown class rules.DhcpContested later = λ applies. applies
none_later role drop_unknown class _ later = absurd (omega (arith, later))

none_at_all : (role : Role) (drop_unknown : Bool) (class : Class) → NoneBefore (Applies role drop_unknown class) 14 → IsFirst (Applies role drop_unknown class) None
none_at_all role drop_unknown class before = λ rule.
    elim (cases_lt (rule_number rule) 14) [
      | inl less ↦ before rule less
      | inr later ↦ none_later role drop_unknown class rule later
    ]

-- `guard_of` is the rule of each class
pub guard_is : (role : Role) (drop_unknown : Bool) (class : Class) → IsFirst (Applies role drop_unknown class) (guard_of role drop_unknown class)
unfolding guard_of
guard_is role drop_unknown class =
    first_is (Applies role drop_unknown class) (applies role drop_unknown class) (applies_decided role drop_unknown class) (none_at_all role drop_unknown class) message_rules 2 rules_are (before_two role drop_unknown class)

-- and the only one
pub guard_only : (role : Role) (drop_unknown : Bool) (class : Class) (rule : Option Rule) → IsFirst (Applies role drop_unknown class) rule → rule ≡ guard_of role drop_unknown class
guard_only role drop_unknown class rule first =
    one_first (Applies role drop_unknown class) rule (guard_of role drop_unknown class) first (guard_is role drop_unknown class)
