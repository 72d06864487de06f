-- Each field of a journal's header is a word.
use Rattle.std.proofs.Common.{◌≡◌, ℕ, ◌/◌, ◌%◌, ◌<◌, Bool, true, false, if◌then◌else◌, List, [], ◌∷◌, ◌++◌, map, decimal, codes, refl, arith}
use Rattle.std.proofs.lemmas.Bool.Decides.{nat_tests}
use Rattle.savi_kinds.specs.declared.plan.Plan.{Plan}
use Rattle.savi_kinds.specs.declared.plan.PortPlan.{PortPlan}
use Rattle.savi_kinds.specs.declared.plan.PrefixPlan.{PrefixPlan}
use Rattle.savi_kinds.specs.declared.plan.Role.{Role}
use Rattle.savi_kinds.specs.declared.plan.Role.TheVariants.{Host, Server, Trusted}
use Rattle.savi_kinds.specs.declared.plan.Method.{Method}
use Rattle.savi_kinds.specs.declared.plan.Method.TheVariants.{Fcfs, Dhcp, Mixed}
use Rattle.savi_kinds.specs.declared.plan.Format.{Format}
use Rattle.savi_kinds.specs.declared.plan.Format.TheVariants.{Pcap, Stream}
use Rattle.savi_kinds.specs.declared.address.Mac.{Mac}
use Rattle.savi_kinds.specs.MacText.{hex_digit, hex_pair, mac_text}
use Rattle.savi_kinds.specs.PlanWords.{role_word, method_word, format_word}
use Rattle.hist_store.specs.declared.version.Version.{Version}
use Rattle.hist_store.specs.declared.version.Version.TheVariants as versions
use Rattle.hist_store.specs.JournalTexts.{prefix_text_by, journal_port_fields, prefix_fields, version_word, word_lines, limit_lines, time_lines, begin_line, header_lines, journal_end_line}
use Rattle.savi_history.specs.Journals.{IsAddressText}
use Rattle.hist_store.proofs.Words.{IsWord, is_word, IsWords, IsLine, IsLines, word_of, word_all, word_append, word_decimal, word_joined, lines_append}
use Rattle.hist_store.proofs.FieldWords.{word_port}
use Rattle.hist_store.proofs.VlanLines.{words_port_vlans, words_vlan}

words_pairs : (octets : List ℕ) → IsWords (map hex_pair octets)
words_pairs [] = tt
words_pairs (x ∷ xs) =
    let high : 32 < hex_digit (x / 16) = grind (arith, nat_tests) in
    let low : 32 < hex_digit (x % 16) = grind (arith, nat_tests) in
    ((high, (low, tt)), words_pairs xs)

pub word_mac : (mac : Mac) → IsWord (mac_text mac)
word_mac mac = word_joined 58 (map hex_pair mac.0) (omega arith) (words_pairs mac.0)

pub word_either : (b : Bool) (s t : List ℕ) → IsWord s → IsWord t → IsWord (if b then s else t)
word_either true s t p q = p
word_either false s t p q = q

word_role : (role : Role) → IsWord (role_word role)
word_role Host = word_of (codes "host") refl
word_role Server = word_of (codes "server") refl
word_role Trusted = word_of (codes "trusted") refl

word_method : (method : Method) → IsWord (method_word method)
word_method Fcfs = word_of (codes "fcfs") refl
word_method Dhcp = word_of (codes "dhcp") refl
word_method Mixed = word_of (codes "mixed") refl

word_format : (format : Format) → IsWord (format_word format)
word_format Pcap = word_of (codes "pcap") refl
word_format Stream = word_of (codes "stream") refl

lines_ports : (ports : List PortPlan) → IsLines (map journal_port_fields ports)
lines_ports [] = tt
lines_ports (p ∷ ports) = ((word_of (codes "port") refl, (word_port p.number, (word_role p.role, (word_format p.format, words_port_vlans p.vlan)))), lines_ports ports)

setting_line : (name : List ℕ) (value : ℕ) → is_word name ≡ true → IsLine (name ∷ decimal value ∷ [])
setting_line name value word = (word_of name word, (word_decimal value, tt))

word_version : (version : Version) → IsWord (version_word version)
word_version versions.One = word_of (codes "1") refl
word_version versions.Two = word_of (codes "2") refl

pub lines_begin : IsLines (begin_line ∷ [])
lines_begin = ((word_of (codes "begin") refl, tt), tt)

pub lines_end : (count : ℕ) → IsLines (journal_end_line count ∷ [])
lines_end count = (setting_line (codes "end") count refl, tt)

module _ (address_text : ℕ → List ℕ) (is : IsAddressText address_text) where
  lines_prefixes : (prefixes : List PrefixPlan) → IsLines (map (prefix_fields address_text) prefixes)
  lines_prefixes [] = tt
  lines_prefixes (p ∷ prefixes) =
      let net : IsWord (address_text p.prefix.net.0 ++ codes "/") =
      word_append (address_text p.prefix.net.0) (codes "/") (word_all (address_text p.prefix.net.0) (is.graphic p.prefix.net.0)) (word_of (codes "/") refl) in
      let prefix : IsWord (prefix_text_by address_text p.prefix) = word_append (address_text p.prefix.net.0 ++ codes "/") (decimal p.prefix.len) net (word_decimal p.prefix.len) in
      ((word_of (codes "prefix") refl, (prefix, (word_method p.method, words_vlan p.vlan))), lines_prefixes prefixes)

  pub lines_header : (version : Version) (plan : Plan) → IsLines (header_lines version address_text plan)
  lines_header version plan =
      let savi : IsWord (if plan.savi then codes "on" else codes "off") = word_either plan.savi (codes "on") (codes "off") (word_of (codes "on") refl) (word_of (codes "off") refl) in
      let unknown : IsWord (if plan.drop_unknown then codes "drop" else codes "pass") = word_either plan.drop_unknown (codes "drop") (codes "pass") (word_of (codes "drop") refl) (word_of (codes "pass") refl) in
      let words : IsLines (word_lines version plan) = (
        (word_of (codes "savi-journal") refl, (word_version version, tt)),
        (
          (word_of (codes "mac") refl, (word_mac plan.mac, tt)),
          ((word_of (codes "savi") refl, (savi, tt)), ((word_of (codes "unknown") refl, (unknown, tt)), tt)),
        ),
      ) in
      let limits : IsLines (limit_lines plan) = (
        setting_line (codes "per_port") plan.per_port refl,
        (
          setting_line (codes "depth") plan.depth refl,
          (setting_line (codes "entries") plan.entries refl, (setting_line (codes "bytes") plan.bytes refl, tt)),
        ),
      ) in
      let times : IsLines (time_lines plan) =
      (setting_line (codes "gap") plan.gap refl, (setting_line (codes "test") plan.test refl, (setting_line (codes "binding") plan.life refl, tt))) in
      let first = word_lines version plan in
      let two = lines_append first (limit_lines plan) words limits in
      let three = lines_append (first ++ limit_lines plan) (time_lines plan) two times in
      let four = lines_append (first ++ limit_lines plan ++ time_lines plan) (map journal_port_fields plan.ports) three (lines_ports plan.ports) in
      lines_append (first ++ limit_lines plan ++ time_lines plan ++ map journal_port_fields plan.ports) (map (prefix_fields address_text) plan.prefixes) four (lines_prefixes plan.prefixes)
