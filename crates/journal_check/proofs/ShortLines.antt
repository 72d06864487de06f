-- No line of a journal is longer than 3,400 octets.
use Rattle.std.proofs.Common.{◌≡◌, ◌+◌, ◌*◌, ◌^◌, ◌<◌, ◌≤◌, ℕ, zero, suc, Bool, true, false, cond, List, [], ◌∷◌, map, length, decimal, codes, Option, Some, None, refl, ap, arith, lit≤, length-append}
use Rattle.std.proofs.lemmas.Fmt.{length-decimal-le}
use Rattle.std.proofs.lemmas.List.FromFn.{length-range_with_len}
use Rattle.std.specs.List.{filter, join_with_byte, range_with_len}
use Rattle.hex.specs.Hex.{encode_with, encode_lower}
use Rattle.savi_kinds.specs.declared.port.Port.{Port}
use Rattle.savi_kinds.specs.declared.port.PortSet.{PortSet}
use Rattle.savi_kinds.specs.declared.verdict.Rule.{Rule}
use Rattle.savi_kinds.specs.declared.verdict.Rule.TheVariants as rules
use Rattle.savi_kinds.specs.declared.verdict.Scope.{Scope}
use Rattle.savi_kinds.specs.declared.verdict.Scope.TheVariants as scopes
use Rattle.savi_kinds.specs.declared.verdict.Verdict.{Verdict}
use Rattle.savi_kinds.specs.declared.verdict.Verdict.TheVariants.{Pass, Drop}
use Rattle.savi_kinds.specs.declared.entry.Entry.{Entry}
use Rattle.savi_kinds.specs.declared.entry.Act.{Act}
use Rattle.savi_kinds.specs.declared.entry.Act.TheVariants as acts
use Rattle.savi_kinds.specs.declared.entry.Who.{Who}
use Rattle.savi_kinds.specs.declared.entry.Who.TheVariants as passes
use Rattle.savi_kinds.specs.declared.entry.How.{How}
use Rattle.savi_kinds.specs.declared.entry.How.TheVariants as hows
use Rattle.savi_kinds.specs.Ports.{number_of}
use Rattle.savi_kinds.specs.PortSets.{is_member}
use Rattle.hist_store.specs.Rows.{Row}
use Rattle.hist_store.specs.TextOfLines.{joined, spaced, or_dash}
use Rattle.hist_store.specs.PortTexts.{port_text, port_numbers, members_text}
use Rattle.hist_store.specs.VerdictTexts.{rule_name, scope_text, entry_verdict_text}
use Rattle.hist_store.specs.EndTexts.{who_text, how_fields}
use Rattle.hist_store.specs.LineTexts.{hex_text, act_fields, FitsAct}
use Rattle.hist_store.specs.EntryLines.{IsHowInRange, IsActInRange, IsInRange, SaysEntry}
use Rattle.hist_store.specs.JournalTexts.{journal_end_line}
use Rattle.hist_store.proofs.LineLemmas.{joined-spaced}

-- the fields of a line, each with the space in front
abbrev size : List (List ℕ) → ℕ
size [] = 0
size (field ∷ fields) = 1 + length field + size fields

spaced_size : (fields : List (List ℕ)) → length (spaced fields) ≡ size fields
spaced_size [] = refl
spaced_size (field ∷ fields) =
    let more = spaced_size fields in
    let whole = length-append field (spaced fields) in
    omega (arith, more, whole)

joined_size : (field : List ℕ) (fields : List (List ℕ)) → length (joined (field ∷ fields)) ≡ length field + size fields
joined_size field fields =
    let whole = ap length (joined-spaced field fields) in
    let parts = length-append field (spaced fields) in
    let more = spaced_size fields in
    omega (arith, whole, parts, more)

-- numbers

pub number_size : (n : ℕ) → n < 2 ^ 64 → length (decimal n) ≤ 20
number_size n fits = length-decimal-le 20 n (omega arith) (omega (arith, fits)) (omega (arith, fits))

pub count_size : (n : ℕ) → n < 2 ^ 32 → length (decimal n) ≤ 20
count_size n fits = number_size n (omega (arith, fits))

small_size : (n : ℕ) → n < 100 → length (decimal n) ≤ 2
small_size n fits = length-decimal-le 2 n (omega arith) (omega (arith, fits)) (omega (arith, fits))

port_size : (port : Port) → length (port_text port) ≤ 20
port_size port = let high : number_of port ≤ 16 = port.high in number_size (number_of port) (omega (arith, high))

-- octets

dash_size : (t : List ℕ) → length (or_dash t) ≤ length t + 1
dash_size [] = omega arith
dash_size (x ∷ t) = omega arith

encoded_size : (octets : List ℕ) → length (encode_lower octets) ≡ 2 * length octets
unfolding encode_with
encoded_size [] = refl
encoded_size (x ∷ octets) = let more = encoded_size octets in omega (arith, more)

hex_size : (octets : List ℕ) → length octets ≤ 1518 → length (hex_text octets) ≤ 3037
hex_size octets few =
    let dash = dash_size (encode_lower octets) in
    let encoded = encoded_size octets in
    omega (arith, few, dash, encoded)

-- verdicts

rule_size : (rule : Rule) → length (rule_name rule) ≤ 17
rule_size rules.PortDown = lit≤ tt
rule_size rules.Malformed = lit≤ tt
rule_size rules.ReservedGroup = lit≤ tt
rule_size rules.SourceMac = lit≤ tt
rule_size rules.Tagged = lit≤ tt
rule_size rules.BadIpv6 = lit≤ tt
rule_size rules.HiddenUpper = lit≤ tt
rule_size rules.UnknownNextHeader = lit≤ tt
rule_size rules.RouterAdvert = lit≤ tt
rule_size rules.FragmentedNd = lit≤ tt
rule_size rules.BadNd = lit≤ tt
rule_size rules.Redirect = lit≤ tt
rule_size rules.DhcpServer = lit≤ tt
rule_size rules.UnspecifiedSource = lit≤ tt
rule_size rules.OffLink = lit≤ tt
rule_size rules.NotAssigned = lit≤ tt
rule_size rules.PortFull = lit≤ tt
rule_size rules.WrongPort = lit≤ tt
rule_size rules.Unverified = lit≤ tt
rule_size rules.Contested = lit≤ tt
rule_size rules.NaTarget = lit≤ tt
rule_size rules.PendingFull = lit≤ tt
rule_size rules.DhcpContested = lit≤ tt

scope_size : (scope : Scope) → length (scope_text scope) ≤ 28
scope_size scopes.All = lit≤ tt
scope_size scopes.TrustedOnly = lit≤ tt
scope_size (scopes.TrustedAnd port) =
    let whole = length-append (codes "trusted+") (port_text port) in
    let digits = port_size port in
    omega (arith, whole, digits)

pub verdict_size : (verdict : Option Verdict) → length (entry_verdict_text verdict) ≤ 33
verdict_size None = lit≤ tt
verdict_size (Some (Pass scope)) =
    let whole = length-append (codes "pass-") (scope_text scope) in
    let name = scope_size scope in
    omega (arith, whole, name)
verdict_size (Some (Drop rule)) =
    let whole = length-append (codes "drop-") (rule_name rule) in
    let name = rule_size rule in
    omega (arith, whole, name)

-- sets of ports

abbrev AreSmall : List ℕ → Type 0
AreSmall [] = Unit {0}
AreSmall (n ∷ ns) = (n < 100) × AreSmall ns

small_range : (first count : ℕ) → first + count ≤ 100 → AreSmall (range_with_len first count)
small_range first zero low = tt
small_range first (suc count) low = (omega (arith, low), small_range (first + 1) count (omega (arith, low)))

small_at : (b : Bool) (n : ℕ) (ns : List ℕ) → n < 100 → AreSmall ns → AreSmall (cond b (n ∷ ns) ns)
small_at true n ns low small = (low, small)
small_at false n ns low small = small

small_filter : (test : ℕ → Bool) (ns : List ℕ) → AreSmall ns → AreSmall (filter test ns)
small_filter test [] small = tt
small_filter test (n ∷ ns) small = small_at (test n) n (filter test ns) small.0 (small_filter test ns small.1)

fewer_at : (b : Bool) (n count : ℕ) (ns : List ℕ) → length ns ≤ count → length (cond b (n ∷ ns) ns) ≤ suc count
fewer_at true n count ns few = omega (arith, few)
fewer_at false n count ns few = omega (arith, few)

fewer : (test : ℕ → Bool) (ns : List ℕ) → length (filter test ns) ≤ length ns
fewer test [] = omega arith
fewer test (n ∷ ns) = fewer_at (test n) n (length ns) (filter test ns) (fewer test ns)

commas_size : (ns : List ℕ) → AreSmall ns → length (join_with_byte 44 (map decimal ns)) ≤ 3 * length ns
commas_size [] small = omega arith
commas_size (n ∷ []) small = let digits = small_size n small.0 in omega (arith, digits)
commas_size (n ∷ m ∷ ns) small =
    let digits = small_size n small.0 in
    let more = commas_size (m ∷ ns) small.1 in
    let whole = length-append (decimal n) (44 ∷ join_with_byte 44 (map decimal (m ∷ ns))) in
    omega (arith, digits, more, whole)

pub ports_size : (set : PortSet) → length (members_text set) ≤ 49
unfolding port_numbers
ports_size set =
    let numbers = range_with_len 1 16 in
    let some = filter (is_member set) numbers in
    let small : AreSmall some = small_filter (is_member set) numbers (small_range 1 16 (omega arith)) in
    let few = fewer (is_member set) numbers in
    let count = length-range_with_len 1 16 in
    let text = commas_size some small in
    let dash = dash_size (join_with_byte 44 (map decimal some)) in
    omega (arith, few, count, text, dash)

-- ends

who_size : (who : Who) → length (who_text who) ≤ 23
who_size (passes.Ingress port) =
    let whole = length-append (codes "in") (port_text port) in
    let digits = port_size port in
    omega (arith, whole, digits)
who_size passes.Control = lit≤ tt
who_size passes.Ticker = lit≤ tt
who_size (passes.Egress port) =
    let whole = length-append (codes "out") (port_text port) in
    let digits = port_size port in
    omega (arith, whole, digits)

how_size : (how : How) → IsHowInRange how → size (how_fields how) ≤ 40
how_size hows.End range = lit≤ tt
how_size hows.Quit range = lit≤ tt
how_size (hows.Malformed at) range = let digits = number_size at range in omega (arith, digits)
how_size (hows.Overlong at) range = let digits = number_size at range in omega (arith, digits)
how_size hows.Failed range = lit≤ tt
how_size hows.Unwritten range = lit≤ tt
how_size hows.Paused range = lit≤ tt

-- acts

act_size : (entry : Entry) (octets : List ℕ) (act : Act) → IsInRange entry → IsActInRange act → FitsAct entry octets act → size (act_fields entry octets act) ≤ 3300
act_size entry octets (acts.Frame port stamp at len) numbers range fits =
    let few : length octets ≤ 1518 = let counted = fits.1 in let most = fits.2 in omega (arith, counted, most) in
    let p = port_size port in
    let s = number_size stamp range.0 in
    let h = hex_size octets few in
    let v = verdict_size entry.verdict in
    let o = ports_size entry.outs in
    let c = ports_size entry.cuts in
    let q = count_size entry.probes numbers.probes in
    let l = count_size entry.lost numbers.lost in
    omega (arith, p, s, h, v, o, c, q, l)
act_size entry octets (acts.Long port stamp len) numbers range fits =
    let p = port_size port in
    let s = number_size stamp range.0 in
    let n = count_size len range.1 in
    let v = verdict_size entry.verdict in
    let q = count_size entry.probes numbers.probes in
    let l = count_size entry.lost numbers.lost in
    omega (arith, p, s, n, v, q, l)
act_size entry octets (acts.Tick stamp) numbers range fits =
    let s = number_size stamp range in
    let q = count_size entry.probes numbers.probes in
    let l = count_size entry.lost numbers.lost in
    omega (arith, s, q, l)
act_size entry octets (acts.Command stamp at len) numbers range fits =
    let few : length octets ≤ 1518 = let counted = fits.2 in let most = fits.3 in omega (arith, counted, most) in
    let s = number_size stamp range.0 in
    let h = hex_size octets few in
    let q = count_size entry.probes numbers.probes in
    let l = count_size entry.lost numbers.lost in
    omega (arith, s, h, q, l)
act_size entry octets (acts.Drain port count) numbers range fits =
    let p = port_size port in
    let n = count_size count range in
    omega (arith, p, n)
act_size entry octets (acts.End who how) numbers range fits =
    let w = who_size who in
    let h = how_size how range in
    omega (arith, w, h)

-- lines

pub line_short : (line : List ℕ) (n : ℕ) (row : Row) → SaysEntry line n row → length line ≤ 3400
line_short line n row says =
    let whole = joined_size (decimal n) (decimal row.entry.by ∷ decimal row.entry.moment ∷ act_fields row.entry row.octets row.entry.act) in
    let text = ap length says.text in
    let number = number_size n says.number in
    let by = count_size row.entry.by says.numbers.by in
    let moment = number_size row.entry.moment says.numbers.moment in
    let act = act_size row.entry row.octets row.entry.act says.numbers says.numbers.act says.fits in
    omega (arith, text, whole, number, by, moment, act)

pub end_short : (n : ℕ) → n < 2 ^ 64 → length (joined (journal_end_line n)) ≤ 3400
end_short n few =
    let whole = joined_size (codes "end") (decimal n ∷ []) in
    let digits = number_size n few in
    omega (arith, whole, digits)
