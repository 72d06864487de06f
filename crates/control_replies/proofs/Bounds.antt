-- How long the replies are.
use Rattle.std.proofs.Common.{ℕ, ◌≡◌, ◌+◌, ◌*◌, ◌<◌, ◌≤◌, ◌^◌, ◌==◌, if◌then◌else◌, List, [], ◌∷◌, ◌++◌, length, map, codes, decimal, Option, Some, None, IfSome, Bool, true, false, ap, ◌∙◌, refl, arith}
use Rattle.std.proofs.lemmas.Fmt.{length-decimal-le}
use Rattle.std.proofs.lemmas.List.{length-append}
use Rattle.std.specs.List.{AllByRecursion, join_with_byte}
use Rattle.savi_kinds.specs.declared.address.Addr.{Addr}
use Rattle.savi_kinds.specs.declared.address.Mac.{Mac}
use Rattle.savi_kinds.specs.declared.port.Port.{Port}
use Rattle.savi_kinds.specs.declared.plan.Role.{Role}
use Rattle.savi_kinds.specs.declared.plan.Role.TheVariants.{Host, Server, Trusted}
use Rattle.savi_kinds.specs.declared.verdict.Rule.{Rule}
use Rattle.savi_kinds.specs.declared.verdict.Rule.TheVariants as rules
use Rattle.savi_kinds.specs.AddrText.{addr_text}
use Rattle.savi_kinds.specs.MacText.{mac_text, HasSixOctets, hex_pair, colon}
use Rattle.savi_kinds.specs.KeyText.{key_text, mac_key_text, vlan_suffix}
use Rattle.savi_kinds.specs.PlanWords.{role_word}
use Rattle.savi_kinds.proofs.AddrWritten.{most_len}
use Rattle.fcfs_states.specs.declared.times.Times.{Times}
use Rattle.fcfs_states.specs.declared.state.Fcfs.{Fcfs}
use Rattle.fcfs_states.specs.declared.state.Fcfs.TheVariants.{NoBind, Tentative, Valid, TestLt, TestVp}
use Rattle.dhcp_states.specs.declared.bound.Bound.{Bound}
use Rattle.savi_access.specs.declared.row.Row.{Row}
use Rattle.hist_store.specs.TextOfLines.{lines_text}
use Rattle.hist_store.specs.PortTexts.{port_text}
use Rattle.hist_store.specs.VerdictTexts.{rule_name}
use Rattle.control_replies.specs.declared.refusal.Refusal.{Refusal}
use Rattle.control_replies.specs.declared.refusal.Refusal.TheVariants.{UnknownCommand, BadAddress, BadPort, NoSuchPort, TrustedPort, OffLink, PortFull, NoBinding}
use Rattle.control_replies.specs.declared.port_row.PortRow.{PortRow}
use Rattle.control_replies.specs.declared.counts.Counts.{Counts}
use Rattle.control_replies.specs.Replies.{refusal_text, end_text}
use Rattle.fcfs_states.specs.Premises.{AreMomentsBelow}
use Rattle.mix_rules.specs.Ageing.{bound_end}
use Rattle.mix_rules.specs.Premises.{IsMomentBelow}
use Rattle.control_replies.specs.Bindings.{claimant_text, until_text, binding_fields, fcfs_lines, bound_lines, state_lines, binding_lines, all_binding_lines, bindings_text, IsStored}
use Rattle.control_replies.specs.Shows.{shut_word, port_fields, port_line, ports_text, station_fields, station_line, stations_text, HasCounts, IsStation}
use Rattle.control_replies.specs.Counters.{all_rules, dropped_count, counter_fields, rule_fields, other_lines, counters_text, AreCounts}
use Rattle.control_replies.proofs.Lines.{nineteen_digits, twenty_digits, port_digits, line_size, lines_more, lines_size}

pub refusal_size : (refusal : Refusal) → length (refusal_text refusal) ≤ 23
refusal_size UnknownCommand = omega arith
refusal_size BadAddress = omega arith
refusal_size BadPort = omega arith
refusal_size NoSuchPort = omega arith
refusal_size TrustedPort = omega arith
refusal_size OffLink = omega arith
refusal_size PortFull = omega arith
refusal_size NoBinding = omega arith

claimant_size : (claimant : Option Port) → length (claimant_text claimant) ≤ 2
claimant_size (Some port) = port_digits port
claimant_size None = omega arith

until_size : (until : Option ℕ) → IfSome until (λ moment. moment < 2 ^ 65) → length (until_text until) ≤ 20
until_size (Some moment) fits = twenty_digits moment fits
until_size None fits = omega arith

-- what stands behind an address of a VLAN: nothing, or `@` and at most four digits
suffix_size_at : (first : Bool) (vlan : ℕ) → vlan ≤ 4094 → length (if first then [] else 64 ∷ decimal vlan) ≤ 5
suffix_size_at true vlan within = omega arith
suffix_size_at false vlan within =
    let digits : length (decimal vlan) ≤ 4 = length-decimal-le 4 vlan (omega arith) (omega (arith, within)) (omega (arith, within)) in
    omega (arith, digits)

suffix_size : (vlan : ℕ) → vlan ≤ 4094 → length (vlan_suffix vlan) ≤ 5
suffix_size vlan within = suffix_size_at (vlan == 1) vlan within

key_size : (vlan : ℕ) (address : Addr) → vlan ≤ 4094 → length (key_text vlan address) ≤ 44
key_size vlan address within = omega (arith, length-append (addr_text address) (vlan_suffix vlan), most_len address, suffix_size vlan within)

-- a line of an address
binding_size : (vlan : ℕ) (address : Addr) (port : Port) (state : List ℕ) (claimant : Option Port) (until : Option ℕ) → vlan ≤ 4094 → length state ≤ 10 → IfSome until (λ moment. moment < 2 ^ 65)
    → length (lines_text (binding_fields vlan address port state claimant until ∷ [])) ≤ 83
binding_size vlan address port state claimant until within short fits =
    omega (arith, line_size (key_text vlan address) (port_text port ∷ state ∷ claimant_text claimant ∷ until_text until ∷ []), key_size vlan address within, port_digits port, short, claimant_size claimant, until_size until fits)

fcfs_size : (times : Times) (vlan : ℕ) (address : Addr) (fcfs : Fcfs) → vlan ≤ 4094 → times.test < 2 ^ 64 → AreMomentsBelow (2 ^ 64) fcfs → length (lines_text (fcfs_lines times vlan address fcfs)) ≤ 83
fcfs_size times vlan address NoBind within test fits = omega arith
fcfs_size times vlan address (Tentative p since two) within test fits = binding_size vlan address p (codes "tentative") None (Some (since + times.test)) within (omega arith) (omega (arith, test, fits))
fcfs_size times vlan address (Valid p until) within test fits = binding_size vlan address p (codes "valid") None (Some until) within (omega arith) (omega (arith, fits))
fcfs_size times vlan address (TestLt p since two) within test fits = binding_size vlan address p (codes "testing-lt") None (Some (since + times.test)) within (omega arith) (omega (arith, test, fits))
fcfs_size times vlan address (TestVp p q since two) within test fits = binding_size vlan address p (codes "testing-vp") (Some q) (Some (since + times.test)) within (omega arith) (omega (arith, test, fits))

end_fits : (until : Option ℕ) → IsMomentBelow (2 ^ 64) until → IfSome until (λ moment. moment < 2 ^ 65)
end_fits (Some moment) fits = omega (arith, fits)
end_fits None fits = tt

bound_size : (vlan : ℕ) (address : Addr) (dhcp : Option Bound) → vlan ≤ 4094 → IsMomentBelow (2 ^ 64) (bound_end dhcp) → length (lines_text (bound_lines vlan address dhcp)) ≤ 83
bound_size vlan address (Some bound) within fits = binding_size vlan address bound.p (codes "bound") None bound.until within (omega arith) (end_fits bound.until fits)
bound_size vlan address None within fits = omega arith

state_size : (times : Times) (vlan : ℕ) (address : Addr) (fixed : Option Port) (fcfs : Fcfs) (dhcp : Option Bound) → vlan ≤ 4094 → times.test < 2 ^ 64 → AreMomentsBelow (2 ^ 64) fcfs → IsMomentBelow (2 ^ 64) (bound_end dhcp)
    → length (lines_text (state_lines times vlan address fixed fcfs dhcp)) ≤ 166
state_size times vlan address (Some port) fcfs dhcp within test first second = omega (arith, binding_size vlan address port (codes "static") None None within (omega arith) tt)
state_size times vlan address None fcfs dhcp within test first second =
    let both : length (lines_text (bound_lines vlan address dhcp ++ fcfs_lines times vlan address fcfs)) ≡ length (lines_text (bound_lines vlan address dhcp)) + length (lines_text (fcfs_lines times vlan address fcfs)) =
    ap length (lines_more (bound_lines vlan address dhcp) (fcfs_lines times vlan address fcfs)) ∙ length-append (lines_text (bound_lines vlan address dhcp)) (lines_text (fcfs_lines times vlan address fcfs)) in
    omega (arith, both, fcfs_size times vlan address fcfs within test first, bound_size vlan address dhcp within second)

pub row_size : (times : Times) (row : ℕ × Row) → times.test < 2 ^ 64 → IsStored row → length (binding_lines times row) ≤ 166
row_size times row test stored = state_size times row.0 row.1.address row.1.state.fixed row.1.state.fcfs row.1.state.dhcp stored.vlan test stored.fcfs stored.dhcp

pub rows_size : (times : Times) (rows : List (ℕ × Row)) → times.test < 2 ^ 64 → AllByRecursion IsStored rows → length (all_binding_lines times rows) ≤ 166 * length rows
rows_size times [] test stored = omega arith
rows_size times (row ∷ rows) test stored =
    omega (arith, length-append (binding_lines times row) (all_binding_lines times rows), row_size times row test stored.0, rows_size times rows test stored.1)

pub bindings_size : (times : Times) (rows : List (ℕ × Row)) → times.test < 2 ^ 64 → AllByRecursion IsStored rows → length rows ≤ 1024 → length (bindings_text times rows) ≤ 2097152
bindings_size times rows test stored few = omega (arith, length-append (all_binding_lines times rows) end_text, rows_size times rows test stored, few)

role_size : (role : Role) → length (role_word role) ≤ 7
role_size Host = omega arith
role_size Server = omega arith
role_size Trusted = omega arith

shut_size : (is_shut : Bool) → length (shut_word is_shut) ≤ 4
shut_size true = omega arith
shut_size false = omega arith

number_size : (n : ℕ) → n < 2 ^ 64 → length (decimal n) ≤ 20
number_size n fits = twenty_digits n (omega (arith, fits))

pub port_size : (row : PortRow) → HasCounts row → length (port_line row) ≤ 79
port_size row counts =
    omega (
      arith,
      line_size (port_text row.number) (role_word row.role ∷ shut_word row.is_shut ∷ decimal row.held ∷ decimal row.pending ∷ decimal row.queued ∷ []),
      port_digits row.number,
      role_size row.role,
      shut_size row.is_shut,
      number_size row.held counts.held,
      number_size row.pending counts.pending,
      number_size row.queued counts.queued,
    )

pub ports_size : (rows : List PortRow) → AllByRecursion HasCounts rows → length rows ≤ 16 → length (ports_text rows) ≤ 2097152
ports_size rows counts few = omega (arith, length-append (lines_text (map port_fields rows)) end_text, lines_size port_fields HasCounts 79 rows port_size counts, few)

-- two digits for each octet, and a colon between each two
pairs_size : (octet : ℕ) (octets : List ℕ) → length (join_with_byte colon (map hex_pair (octet ∷ octets))) ≡ 3 * length octets + 2
pairs_size octet [] = refl
pairs_size octet (next ∷ octets) = omega (arith, pairs_size next octets)

mac_size : (octets : List ℕ) → length octets ≡ 6 → length (join_with_byte colon (map hex_pair octets)) ≤ 17
mac_size [] six = omega arith
mac_size (octet ∷ octets) six = omega (arith, pairs_size octet octets, six)

mac_key_size : (vlan : ℕ) (mac : Mac) → vlan ≤ 4094 → HasSixOctets mac → length (mac_key_text vlan mac) ≤ 22
mac_key_size vlan mac within six = omega (arith, length-append (mac_text mac) (vlan_suffix vlan), mac_size mac.0 six.0, suffix_size vlan within)

pub station_size : (row : ℕ × Mac × Port × ℕ) → IsStation row → length (station_line row) ≤ 46
station_size row station =
    omega (arith, line_size (mac_key_text row.0 row.1) (port_text row.2 ∷ decimal row.3 ∷ []), mac_key_size row.0 row.1 station.vlan station.mac, port_digits row.2, nineteen_digits row.3 station.until)

pub stations_size : (rows : List (ℕ × Mac × Port × ℕ)) → AllByRecursion IsStation rows → length rows ≤ 32768 → length (stations_text rows) ≤ 2097152
stations_size rows stations few = omega (arith, length-append (lines_text (map station_fields rows)) end_text, lines_size station_fields IsStation 46 rows station_size stations, few)

name_size : (rule : Rule) → length (rule_name rule) ≤ 17
name_size rules.PortDown = omega arith
name_size rules.Malformed = omega arith
name_size rules.ReservedGroup = omega arith
name_size rules.SourceMac = omega arith
name_size rules.Tagged = omega arith
name_size rules.BadIpv6 = omega arith
name_size rules.HiddenUpper = omega arith
name_size rules.UnknownNextHeader = omega arith
name_size rules.RouterAdvert = omega arith
name_size rules.FragmentedNd = omega arith
name_size rules.BadNd = omega arith
name_size rules.Redirect = omega arith
name_size rules.DhcpServer = omega arith
name_size rules.UnspecifiedSource = omega arith
name_size rules.OffLink = omega arith
name_size rules.NotAssigned = omega arith
name_size rules.PortFull = omega arith
name_size rules.WrongPort = omega arith
name_size rules.Unverified = omega arith
name_size rules.Contested = omega arith
name_size rules.NaTarget = omega arith
name_size rules.PendingFull = omega arith
name_size rules.DhcpContested = omega arith

counter_size : (name : List ℕ) (count : ℕ) → length name ≤ 17 → count < 2 ^ 64 → length (lines_text (counter_fields name count ∷ [])) ≤ 39
counter_size name count short fits = omega (arith, line_size name (decimal count ∷ []), short, number_size count fits)

all_have : {A : Type 0} (P : A → Type 0) → ((x : A) → P x) → (xs : List A) → AllByRecursion P xs
all_have P each [] = tt
all_have P each (x ∷ xs) = (each x, all_have P each xs)

pub counters_size : (counts : Counts) → AreCounts counts → length (counters_text counts) ≤ 1057
counters_size counts are =
    let first : List (List (List ℕ)) = map (rule_fields counts) all_rules in
    let each = λ (rule : Rule) (fits : dropped_count counts rule < 2 ^ 64). counter_size (rule_name rule) (dropped_count counts rule) (name_size rule) fits in
    let by_rule : length (lines_text first) ≤ 39 * 23 = lines_size (rule_fields counts) (λ rule. dropped_count counts rule < 2 ^ 64) 39 all_rules each (all_have (λ rule. dropped_count counts rule < 2 ^ 64) are.by_rule all_rules) in
    let pass = counter_size (codes "Pass") counts.pass (omega arith) are.pass in
    let cut = counter_size (codes "Cut") counts.cut (omega arith) are.cut in
    let probes = counter_size (codes "Probes") counts.probes (omega arith) are.probes in
    let lost = counter_size (codes "Lost") counts.lost (omega arith) are.lost in
    let line : List ℕ → ℕ → List (List (List ℕ)) = λ name count. counter_fields name count ∷ [] in
    let more = λ (a b : List (List (List ℕ))). ap length (lines_more a b) ∙ length-append (lines_text a) (lines_text b) in
    let others : length (lines_text (other_lines counts)) ≤ 39 * 4 =
    omega (
      arith,
      pass,
      cut,
      probes,
      lost,
      more (line (codes "Pass") counts.pass) (line (codes "Cut") counts.cut ++ line (codes "Probes") counts.probes ++ line (codes "Lost") counts.lost),
      more (line (codes "Cut") counts.cut) (line (codes "Probes") counts.probes ++ line (codes "Lost") counts.lost),
      more (line (codes "Probes") counts.probes) (line (codes "Lost") counts.lost),
    ) in
    omega (arith, by_rule, others, more first (other_lines counts), length-append (lines_text (first ++ other_lines counts)) end_text)
