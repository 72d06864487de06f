-- What a line of a journal's header is read as.
use Rattle.std.proofs.Common.{ℕ, ◌≡◌, ◌<◌, ◌^◌, List, ◌∷◌, ◌++◌, codes, decimal, refl, sym, ap, ◌∙◌}
use Rattle.savi_kinds.specs.declared.address.Mac.{Mac}
use Rattle.savi_kinds.specs.declared.address.Prefix.{Prefix}
use Rattle.savi_kinds.specs.declared.plan.Role.{Role}
use Rattle.savi_kinds.specs.declared.plan.Role.TheVariants as roles
use Rattle.savi_kinds.specs.declared.plan.Method.{Method}
use Rattle.savi_kinds.specs.declared.plan.Method.TheVariants as methods
use Rattle.savi_kinds.specs.declared.plan.Format.{Format}
use Rattle.savi_kinds.specs.declared.plan.Format.TheVariants as formats
use Rattle.savi_kinds.specs.declared.plan.PrefixPlan.{PrefixPlan}
use Rattle.savi_kinds.specs.declared.plan.Vlan.{Vlan}
use Rattle.savi_kinds.specs.declared.port.Port.{Port}
use Rattle.savi_kinds.specs.MacText.{mac_text, HasSixOctets, IsMacText}
use Rattle.savi_kinds.specs.PrefixText.{IsPrefixText}
use Rattle.savi_kinds.specs.Characters.{space}
use Rattle.savi_kinds.specs.Prefixes.{IsPrefix, first_of}
use Rattle.savi_kinds.specs.PlanWords.{role_word, method_word, format_word}
use Rattle.savi_kinds.proofs.MacGrammar.{written_mac, one_mac}
use Rattle.savi_kinds.proofs.PrefixGrammar.{one_prefix}
use Rattle.savi_kinds.proofs.AddrWritten.{written_prefix}
use Rattle.hist_store.specs.TextOfLines.{joined, spaced, HasNoSpace}
use Rattle.hist_store.specs.PortTexts.{port_text}
use Rattle.hist_store.specs.JournalTexts.{address_text, prefix_text_by, journal_port_line, prefix_fields}
use Rattle.hist_store.specs.VlanTexts.{port_vlan_fields, vlan_fields}
use Rattle.hist_store.proofs.Words.{word_of, word_all, word_append, word_decimal}
use Rattle.hist_store.proofs.AddressWords.{address_graphic}
use Rattle.hist_store.proofs.FieldsRead.{spaceless}
use Rattle.hist_store.proofs.LineLemmas.{joined-spaced}

pub spaceless_role : (role : Role) → HasNoSpace (role_word role)
spaceless_role roles.Host = spaceless (codes "host") (word_of (codes "host") refl)
spaceless_role roles.Server = spaceless (codes "server") (word_of (codes "server") refl)
spaceless_role roles.Trusted = spaceless (codes "trusted") (word_of (codes "trusted") refl)

pub spaceless_format : (format : Format) → HasNoSpace (format_word format)
spaceless_format formats.Pcap = spaceless (codes "pcap") (word_of (codes "pcap") refl)
spaceless_format formats.Stream = spaceless (codes "stream") (word_of (codes "stream") refl)

-- what stands behind the name of a port's line
pub port_said : (line : List ℕ) (port : Port) (role : Role) (format : Format) (vlan : Vlan) → line ≡ joined (journal_port_line port role format vlan)
    → line ≡ codes "port" ++ spaced (port_text port ∷ role_word role ∷ format_word format ∷ port_vlan_fields vlan)
port_said line port role format vlan is = is ∙ joined-spaced (codes "port") (port_text port ∷ role_word role ∷ format_word format ∷ port_vlan_fields vlan)

-- the line whose fields these are, one behind the other
pub port_read : (line : List ℕ) (port : Port) (role : Role) (format : Format) (vlan : Vlan) (named numbered roled formatted role_is format_is : List ℕ)
    → line ≡ codes "port" ++ named → named ≡ space ∷ port_text port ++ numbered → numbered ≡ space ∷ role_is ++ roled → role_is ≡ role_word role → roled ≡ space ∷ format_is ++ formatted → format_is ≡ format_word format
    → formatted ≡ spaced (port_vlan_fields vlan) → line ≡ joined (journal_port_line port role format vlan)
port_read line port role format vlan named numbered roled formatted role_is format_is a b c d e f g =
    a ∙ ap (λ (t : List ℕ). codes "port" ++ t) (b ∙ ap (λ (t : List ℕ). space ∷ port_text port ++ t) (c ∙ ap (λ (t : List ℕ). space ∷ t ++ roled) d
    ∙ ap (λ (t : List ℕ). space ∷ role_word role ++ t) (e ∙ ap (λ (t : List ℕ). space ∷ t ++ formatted) f ∙ ap (λ (t : List ℕ). space ∷ format_word format ++ t) g)))
    ∙ sym (joined-spaced (codes "port") (port_text port ∷ role_word role ∷ format_word format ∷ port_vlan_fields vlan))

-- a written MAC address is read as itself
pub mac_read : (text : List ℕ) (read mac : Mac) → HasSixOctets mac → text ≡ mac_text mac → IsMacText text read → read ≡ mac
mac_read text read mac six is reads = one_mac text read mac reads (rw is (written_mac mac six.0 six.1))

-- a written prefix is read as itself
pub prefix_read : (text : List ℕ) (read prefix : Prefix) → first_of prefix < 2 ^ 128 → IsPrefix prefix → text ≡ prefix_text_by address_text prefix → IsPrefixText text read → read ≡ prefix
prefix_read text read prefix small valid is reads = one_prefix text read prefix reads (rw is (written_prefix prefix small valid))

pub spaceless_method : (method : Method) → HasNoSpace (method_word method)
spaceless_method methods.Fcfs = spaceless (codes "fcfs") (word_of (codes "fcfs") refl)
spaceless_method methods.Dhcp = spaceless (codes "dhcp") (word_of (codes "dhcp") refl)
spaceless_method methods.Mixed = spaceless (codes "mixed") (word_of (codes "mixed") refl)

pub spaceless_prefix : (prefix : Prefix) → HasNoSpace (prefix_text_by address_text prefix)
spaceless_prefix prefix =
    let net = word_append (address_text prefix.net.0) (codes "/") (word_all (address_text prefix.net.0) (address_graphic prefix.net.0)) (word_of (codes "/") refl) in
    spaceless (prefix_text_by address_text prefix) (word_append (address_text prefix.net.0 ++ codes "/") (decimal prefix.len) net (word_decimal prefix.len))

abbrev pub the_plan : Prefix → Method → ℕ → PrefixPlan
the_plan prefix method vlan = record { prefix = prefix; method = method; vlan = vlan }

-- what stands behind the name of a prefix's line
pub prefix_said : (line : List ℕ) (plan : PrefixPlan) → line ≡ joined (prefix_fields address_text plan) → line ≡ codes "prefix" ++ spaced (prefix_text_by address_text plan.prefix ∷ method_word plan.method ∷ vlan_fields plan.vlan)
prefix_said line plan is = is ∙ joined-spaced (codes "prefix") (prefix_text_by address_text plan.prefix ∷ method_word plan.method ∷ vlan_fields plan.vlan)

-- the line whose fields these are, one behind the other
pub prefix_line_read : (line : List ℕ) (plan : PrefixPlan) (named prefix_is rest method_is behind : List ℕ)
    → line ≡ codes "prefix" ++ named → named ≡ space ∷ prefix_is ++ rest → prefix_is ≡ prefix_text_by address_text plan.prefix → rest ≡ space ∷ method_is ++ behind → method_is ≡ method_word plan.method
    → behind ≡ spaced (vlan_fields plan.vlan) → line ≡ joined (prefix_fields address_text plan)
prefix_line_read line plan named prefix_is rest method_is behind a b c d e f =
    a ∙ ap (λ (t : List ℕ). codes "prefix" ++ t) (b ∙ ap (λ (t : List ℕ). space ∷ t ++ rest) c
    ∙ ap (λ (t : List ℕ). space ∷ prefix_text_by address_text plan.prefix ++ t) (d ∙ ap (λ (t : List ℕ). space ∷ t ++ behind) e ∙ ap (λ (t : List ℕ). space ∷ method_word plan.method ++ t) f))
    ∙ sym (joined-spaced (codes "prefix") (prefix_text_by address_text plan.prefix ∷ method_word plan.method ∷ vlan_fields plan.vlan))
