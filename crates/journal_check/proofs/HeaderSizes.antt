-- No line of a journal's header is longer than 3,400 octets.
use Rattle.std.proofs.Common.{◌*◌, ◌^◌, ◌<◌, ◌≤◌, ◌==◌, ℕ, Bool, true, false, if◌then◌else◌, List, [], ◌∷◌, ◌++◌, length, map, decimal, codes, All, ap, subst, arith, lit≤, length-append}
use Rattle.std.specs.List.{join_with_byte}
use Rattle.std.proofs.lemmas.Fmt.{length-decimal-le}
use Rattle.std.proofs.lemmas.List.Elements.{All-head, All-tail}
use Rattle.savi_kinds.specs.declared.plan.Plan.{Plan}
use Rattle.savi_kinds.specs.declared.plan.PortPlan.{PortPlan}
use Rattle.savi_kinds.specs.declared.plan.PrefixPlan.{PrefixPlan}
use Rattle.savi_kinds.specs.declared.plan.Role.{Role}
use Rattle.savi_kinds.specs.declared.plan.Role.TheVariants.{Host, Server, Trusted}
use Rattle.savi_kinds.specs.declared.plan.Method.{Method}
use Rattle.savi_kinds.specs.declared.plan.Method.TheVariants.{Fcfs, Dhcp, Mixed}
use Rattle.savi_kinds.specs.declared.plan.Format.{Format}
use Rattle.savi_kinds.specs.declared.plan.Format.TheVariants.{Pcap, Stream}
use Rattle.savi_kinds.specs.declared.plan.Vlan.{Vlan}
use Rattle.savi_kinds.specs.declared.plan.Vlan.TheVariants.{Access, Trunk}
use Rattle.savi_kinds.specs.declared.address.Mac.{Mac}
use Rattle.savi_kinds.specs.declared.address.Prefix.{Prefix}
use Rattle.savi_kinds.specs.Ports.{number_of}
use Rattle.savi_kinds.specs.MacText.{hex_pair, mac_text, HasSixOctets}
use Rattle.savi_kinds.specs.PlanWords.{role_word, method_word, format_word}
use Rattle.savi_kinds.specs.ValidPlan.{HasPlanVlans, IsPlanPrefix, nets_of}
use Rattle.savi_kinds.specs.Vlans.{IsVlan, numbers_of_vlan, vlans_of_ports}
use Rattle.savi_kinds.proofs.AddrWritten.{most_len}
use Rattle.hist_store.specs.TextOfLines.{joined, spaced}
use Rattle.hist_store.specs.PortTexts.{port_text}
use Rattle.hist_store.specs.VlanTexts.{port_vlan_fields, vlan_fields, vlans_text}
use Rattle.hist_store.proofs.LineLemmas.{joined-spaced}
use Rattle.hist_store.specs.declared.version.Version.{Version}
use Rattle.hist_store.specs.declared.version.Version.TheVariants.{One, Two}
use Rattle.hist_store.specs.JournalTexts.{address_text, prefix_text_by, journal_port_fields, prefix_fields, setting, version_word, word_lines, limit_lines, time_lines, begin_line}
use Rattle.hist_store.proofs.HeaderSizes.{seconds_bound}
use Rattle.journal_check.specs.Headers.{LineFields, IsPlan, ComesNext, plan_lines}
use Rattle.journal_check.proofs.FewVlans.{few_each, vlans_size}

abbrev AreShort : List LineFields → Type 0
AreShort [] = Unit {0}
AreShort (line ∷ lines) = (length (joined line) ≤ 3400) × AreShort lines

short_append : (ls ms : List LineFields) → AreShort ls → AreShort ms → AreShort (ls ++ ms)
short_append [] ms a b = b
short_append (l ∷ ls) ms a b = (a.0, short_append ls ms a.1 b)

short_behind : (ls ms : List LineFields) → AreShort (ls ++ ms) → AreShort ms
short_behind [] ms a = a
short_behind (l ∷ ls) ms a = short_behind ls ms a.1

-- lines of two fields, of three and more, and of four and more

two_short : (a b : List ℕ) → length a ≤ 100 → length b ≤ 100 → length (joined (a ∷ b ∷ [])) ≤ 3400
two_short a b low low' = let size = length-append a (32 ∷ b) in omega (arith, low, low', size)

-- behind the others stand at most two fields
abbrev IsTail : LineFields → Type 0
IsTail more = length (spaced more) ≤ 202

three_short : (a b c : List ℕ) (more : LineFields) → length a ≤ 100 → length b ≤ 100 → length c ≤ 100 → IsTail more → length (joined (a ∷ b ∷ c ∷ more)) ≤ 3400
three_short a b c more low low' low'' tail =
    let line = ap length (joined-spaced a (b ∷ c ∷ more)) in
    let size = length-append a (spaced (b ∷ c ∷ more)) in
    let second = length-append b (spaced (c ∷ more)) in
    let third = length-append c (spaced more) in
    omega (arith, low, low', low'', tail, line, size, second, third)

four_short : (a b c d : List ℕ) (more : LineFields) → length a ≤ 100 → length b ≤ 100 → length c ≤ 100 → length d ≤ 100 → IsTail more → length (joined (a ∷ b ∷ c ∷ d ∷ more)) ≤ 3400
four_short a b c d more low low' low'' low''' tail =
    let line = ap length (joined-spaced a (b ∷ c ∷ d ∷ more)) in
    let size = length-append a (spaced (b ∷ c ∷ d ∷ more)) in
    let second = length-append b (spaced (c ∷ d ∷ more)) in
    let third = length-append c (spaced (d ∷ more)) in
    let last = length-append d (spaced more) in
    omega (arith, low, low', low'', low''', tail, line, size, second, third, last)

-- fields

number_short : (n : ℕ) → n < 2 ^ 64 → length (decimal n) ≤ 100
number_short n fits =
    let digits = length-decimal-le 20 n (omega arith) (omega (arith, fits)) (omega (arith, fits)) in
    omega (arith, digits)

setting_short : (name : List ℕ) (value most : ℕ) → length name ≤ 100 → value ≤ most → most < 2 ^ 64 → length (joined (setting name value)) ≤ 3400
setting_short name value most low high fits = two_short name (decimal value) low (number_short value (omega (arith, high, fits)))

pairs_size : (octets : List ℕ) → length (join_with_byte 58 (map hex_pair octets)) ≤ 3 * length octets
pairs_size [] = omega arith
pairs_size (x ∷ []) = omega arith
pairs_size (x ∷ y ∷ octets) =
    let more = pairs_size (y ∷ octets) in
    let whole = length-append (hex_pair x) (58 ∷ join_with_byte 58 (map hex_pair (y ∷ octets))) in
    omega (arith, more, whole)

mac_short : (mac : Mac) → HasSixOctets mac → length (mac_text mac) ≤ 100
mac_short mac six = let size = pairs_size mac.0 in let count = six.0 in omega (arith, size, count)

either_short : (b : Bool) (s t : List ℕ) → length s ≤ 100 → length t ≤ 100 → length (if b then s else t) ≤ 100
either_short true s t low low' = low
either_short false s t low low' = low'

role_short : (role : Role) → length (role_word role) ≤ 100
role_short Host = lit≤ tt
role_short Server = lit≤ tt
role_short Trusted = lit≤ tt

format_short : (format : Format) → length (format_word format) ≤ 100
format_short Pcap = lit≤ tt
format_short Stream = lit≤ tt

method_short : (method : Method) → length (method_word method) ≤ 100
method_short Fcfs = lit≤ tt
method_short Dhcp = lit≤ tt
method_short Mixed = lit≤ tt

prefix_short : (prefix : Prefix) → prefix.len ≤ 128 → length (prefix_text_by address_text prefix) ≤ 100
prefix_short prefix low =
    let net = most_len prefix.net in
    let digits = length-decimal-le 3 prefix.len (omega arith) (omega (arith, low)) (omega (arith, low)) in
    let front = length-append (address_text prefix.net.0) (codes "/") in
    let whole = length-append (address_text prefix.net.0 ++ codes "/") (decimal prefix.len) in
    omega (arith, net, digits, front, whole)

-- what a line says of VLANs

two_tail : (a b : List ℕ) → length a ≤ 100 → length b ≤ 100 → IsTail (a ∷ b ∷ [])
two_tail a b low low' =
    let first = length-append a (spaced (b ∷ [])) in
    let second = length-append b [] in
    omega (arith, low, low', first, second)

vlan_tail_at : (first : Bool) (vlan : ℕ) → vlan ≤ 4094 → IsTail (if first then [] else codes "vlan" ∷ decimal vlan ∷ [])
vlan_tail_at true vlan within = lit≤ tt
vlan_tail_at false vlan within = two_tail (codes "vlan") (decimal vlan) (lit≤ tt) (number_short vlan (omega (arith, within)))

vlan_tail : (vlan : ℕ) → IsVlan vlan → IsTail (vlan_fields vlan)
vlan_tail vlan is = vlan_tail_at (vlan == 1) vlan is.1

port_vlans_tail : (vlan : Vlan) → All IsVlan (numbers_of_vlan vlan) → length (numbers_of_vlan vlan) ≤ 8 → IsTail (port_vlan_fields vlan)
port_vlans_tail (Access v) each few = vlan_tail v (All-head IsVlan v [] each)
port_vlans_tail (Trunk vs) each few =
    let size = vlans_size vs.items each in
    two_tail (codes "trunk") (vlans_text vs.items) (lit≤ tt) (omega (arith, few, size))

-- the parts of a header

port_short : (p : PortPlan) → HasPlanVlans p → length (numbers_of_vlan p.vlan) ≤ 8 → length (joined (journal_port_fields p)) ≤ 3400
port_short p has few =
    let high : number_of p.number ≤ 16 = p.number.high in
    four_short (codes "port") (port_text p.number) (role_word p.role) (format_word p.format) (port_vlan_fields p.vlan) (lit≤ tt) (number_short (number_of p.number) (omega (arith, high)))
    (role_short p.role) (format_short p.format) (port_vlans_tail p.vlan has.numbers few)

ports_short : (ports : List PortPlan) → All HasPlanVlans ports → All (λ p. length (numbers_of_vlan p.vlan) ≤ 8) ports → AreShort (map journal_port_fields ports)
ports_short [] has few = tt
ports_short (p ∷ ports) has few =
    let IsFew : PortPlan → Type 0 = λ q. length (numbers_of_vlan q.vlan) ≤ 8 in
    (port_short p (All-head HasPlanVlans p ports has) (All-head IsFew p ports few), ports_short ports (All-tail HasPlanVlans p ports has) (All-tail IsFew p ports few))

-- no port has more VLANs than the plan has
few_of_each : (ports : List PortPlan) → All HasPlanVlans ports → length (vlans_of_ports ports) ≤ 8 → All (λ p. length (numbers_of_vlan p.vlan) ≤ 8) ports
few_of_each ports has few = λ i d within. let most = few_each ports i d within (has i d within) in omega (arith, few, most)

prefixes_short : (prefixes : List PrefixPlan) → All IsPlanPrefix (nets_of prefixes) → All (λ p. IsVlan p.vlan) prefixes → AreShort (map (prefix_fields address_text) prefixes)
prefixes_short [] are vlans = tt
prefixes_short (p ∷ prefixes) are vlans =
    let in_range : PrefixPlan → Type 0 = λ q. IsVlan q.vlan in
    let first = All-head IsPlanPrefix p.prefix (nets_of prefixes) are in (
      three_short (codes "prefix") (prefix_text_by address_text p.prefix) (method_word p.method) (vlan_fields p.vlan) (lit≤ tt) (prefix_short p.prefix first.prefix.long) (method_short p.method)
          (vlan_tail p.vlan (All-head in_range p prefixes vlans)),
      prefixes_short prefixes (All-tail IsPlanPrefix p.prefix (nets_of prefixes) are) (All-tail in_range p prefixes vlans),
    )

version_short : (version : Version) → length (version_word version) ≤ 100
version_short One = lit≤ tt
version_short Two = lit≤ tt

words_short : (version : Version) (plan : Plan) → HasSixOctets plan.mac → AreShort (word_lines version plan)
words_short version plan six = (
  two_short (codes "savi-journal") (version_word version) (lit≤ tt) (version_short version),
  (
    two_short (codes "mac") (mac_text plan.mac) (lit≤ tt) (mac_short plan.mac six),
    (
      two_short (codes "savi") (if plan.savi then codes "on" else codes "off") (lit≤ tt) (either_short plan.savi (codes "on") (codes "off") (lit≤ tt) (lit≤ tt)),
      (two_short (codes "unknown") (if plan.drop_unknown then codes "drop" else codes "pass") (lit≤ tt) (either_short plan.drop_unknown (codes "drop") (codes "pass") (lit≤ tt) (lit≤ tt)), tt),
    ),
  ),
)

header_short : (version : Version) (plan : Plan) → IsPlan plan → AreShort (plan_lines version plan)
header_short version plan is =
    let valid = is.valid in
    let limits : AreShort (limit_lines plan) = (
      setting_short (codes "per_port") plan.per_port 64 (lit≤ tt) valid.per_port.1 (omega arith),
      (
        setting_short (codes "depth") plan.depth 256 (lit≤ tt) valid.depth.1 (omega arith),
        (
          setting_short (codes "entries") plan.entries 1000000 (lit≤ tt) valid.entries.1 (omega arith),
          (setting_short (codes "bytes") plan.bytes 1073741824 (lit≤ tt) valid.bytes.1 (omega arith), tt),
        ),
      ),
    ) in
    let times : AreShort (time_lines plan) = (
      setting_short (codes "gap") plan.gap 59999 (lit≤ tt) valid.gap.1 (omega arith),
      (
        setting_short (codes "test") plan.test 60000 (lit≤ tt) valid.test.1 (omega arith),
        (setting_short (codes "binding") plan.life 86400000 (lit≤ tt) (seconds_bound plan.life valid.life.0 valid.life.1 valid.life.2.1) (omega arith), tt),
      ),
    ) in
    let begin : AreShort (begin_line ∷ []) = (lit≤ tt, tt) in
    let two = short_append (word_lines version plan) (limit_lines plan) (words_short version plan is.mac) limits in
    let three = short_append (word_lines version plan ++ limit_lines plan) (time_lines plan) two times in
    let four = short_append (word_lines version plan ++ limit_lines plan ++ time_lines plan) (map journal_port_fields plan.ports) three (ports_short plan.ports valid.port_vlans (few_of_each plan.ports valid.port_vlans valid.vlan_count)) in
    let five = short_append (word_lines version plan ++ limit_lines plan ++ time_lines plan ++ map journal_port_fields plan.ports) (map (prefix_fields address_text) plan.prefixes) four (prefixes_short plan.prefixes valid.plan_prefixes valid.prefix_vlans) in
    short_append (word_lines version plan ++ limit_lines plan ++ time_lines plan ++ map journal_port_fields plan.ports ++ map (prefix_fields address_text) plan.prefixes) (begin_line ∷ []) five begin

-- no line that comes next in a header is longer
pub next_short : (lines : List LineFields) (next : LineFields) → ComesNext lines next → length (joined next) ≤ 3400
next_short lines next comes =
    let all = short_behind lines (next ∷ comes.more) (subst AreShort comes.header (header_short comes.version comes.plan comes.is_plan)) in
    all.0
