-- Each field of an entry's line is a word.
use Rattle.std.proofs.Common.{ℕ, suc, ◌+◌, ◌/◌, ◌%◌, ◌<◌, List, [], ◌∷◌, map, decimal, codes, Option, Some, None, refl, arith, All}
use Rattle.std.proofs.lemmas.List.Elements.{All-head, All-tail}
use Rattle.std.specs.List.{join_with_byte}
use Rattle.hex.specs.Hex.{IsBytes, encode_with, encode_lower, lower_digits}
use Rattle.savi_kinds.specs.declared.port.Port.{Port}
use Rattle.savi_kinds.specs.declared.port.PortSet.{PortSet}
use Rattle.savi_kinds.specs.declared.verdict.Rule.{Rule}
use Rattle.savi_kinds.specs.declared.verdict.Rule.TheVariants as rules
use Rattle.savi_kinds.specs.declared.verdict.Scope.{Scope}
use Rattle.savi_kinds.specs.declared.verdict.Scope.TheVariants as scopes
use Rattle.savi_kinds.specs.declared.verdict.Verdict.{Verdict}
use Rattle.savi_kinds.specs.declared.verdict.Verdict.TheVariants.{Pass, Drop}
use Rattle.savi_kinds.specs.declared.entry.Entry.{Entry}
use Rattle.savi_kinds.specs.declared.entry.Act.{Act}
use Rattle.savi_kinds.specs.declared.entry.Act.TheVariants as acts
use Rattle.savi_kinds.specs.declared.entry.Who.{Who}
use Rattle.savi_kinds.specs.declared.entry.Who.TheVariants as passes
use Rattle.savi_kinds.specs.declared.entry.How.{How}
use Rattle.savi_kinds.specs.declared.entry.How.TheVariants as hows
use Rattle.savi_kinds.specs.Ports.{number_of}
use Rattle.hist_store.specs.Rows.{Row}
use Rattle.hist_store.specs.TextOfLines.{or_dash}
use Rattle.hist_store.specs.PortTexts.{port_text, members, members_text}
use Rattle.hist_store.specs.VerdictTexts.{rule_name, scope_text, entry_verdict_text}
use Rattle.hist_store.specs.EndTexts.{who_text, how_fields}
use Rattle.hist_store.specs.LineTexts.{hex_text, act_fields, line_fields}
use Rattle.hist_store.specs.JournalTexts.{entry_lines}
use Rattle.hist_store.proofs.Words.{IsWord, IsWords, IsLine, IsLines, word_of, word_append, word_decimal, word_joined, word_at}

pub word_port : (port : Port) → IsWord (port_text port)
word_port port = word_decimal (number_of port)

pub word_dash : (t : List ℕ) → IsWord t → IsWord (or_dash t)
word_dash [] is = word_of (codes "-") refl
word_dash (x ∷ xs) is = is

pub words_decimal : (ns : List ℕ) → IsWords (map decimal ns)
words_decimal [] = tt
words_decimal (n ∷ ns) = (word_decimal n, words_decimal ns)

pub word_ports : (set : PortSet) → IsWord (members_text set)
word_ports set = word_dash (join_with_byte 44 (map decimal (members set))) (word_joined 44 (map decimal (members set)) (omega arith) (words_decimal (members set)))

pub word_encoded : (octets : List ℕ) → IsBytes octets → IsWord (encode_lower octets)
unfolding encode_with
word_encoded [] is = tt
word_encoded (x ∷ xs) is =
    let low : x < 256 = is 0 in
    let digits : IsWord lower_digits = word_of lower_digits refl in
    (word_at lower_digits (x / 16) digits (omega arith), (word_at lower_digits (x % 16) digits (omega arith), word_encoded xs (λ i. is (suc i))))

pub word_hex : (octets : List ℕ) → IsBytes octets → IsWord (hex_text octets)
word_hex octets is = word_dash (encode_lower octets) (word_encoded octets is)

pub word_rule : (rule : Rule) → IsWord (rule_name rule)
word_rule rules.PortDown = word_of (codes "PortDown") refl
word_rule rules.Malformed = word_of (codes "Malformed") refl
word_rule rules.ReservedGroup = word_of (codes "ReservedGroup") refl
word_rule rules.SourceMac = word_of (codes "SourceMac") refl
word_rule rules.Tagged = word_of (codes "Tagged") refl
word_rule rules.BadIpv6 = word_of (codes "BadIpv6") refl
word_rule rules.HiddenUpper = word_of (codes "HiddenUpper") refl
word_rule rules.UnknownNextHeader = word_of (codes "UnknownNextHeader") refl
word_rule rules.RouterAdvert = word_of (codes "RouterAdvert") refl
word_rule rules.FragmentedNd = word_of (codes "FragmentedNd") refl
word_rule rules.BadNd = word_of (codes "BadNd") refl
word_rule rules.Redirect = word_of (codes "Redirect") refl
word_rule rules.DhcpServer = word_of (codes "DhcpServer") refl
word_rule rules.UnspecifiedSource = word_of (codes "UnspecifiedSource") refl
word_rule rules.OffLink = word_of (codes "OffLink") refl
word_rule rules.NotAssigned = word_of (codes "NotAssigned") refl
word_rule rules.PortFull = word_of (codes "PortFull") refl
word_rule rules.WrongPort = word_of (codes "WrongPort") refl
word_rule rules.Unverified = word_of (codes "Unverified") refl
word_rule rules.Contested = word_of (codes "Contested") refl
word_rule rules.NaTarget = word_of (codes "NaTarget") refl
word_rule rules.PendingFull = word_of (codes "PendingFull") refl
word_rule rules.DhcpContested = word_of (codes "DhcpContested") refl

pub word_scope : (scope : Scope) → IsWord (scope_text scope)
word_scope scopes.All = word_of (codes "all") refl
word_scope scopes.TrustedOnly = word_of (codes "trusted") refl
word_scope (scopes.TrustedAnd port) = word_append (codes "trusted+") (port_text port) (word_of (codes "trusted+") refl) (word_port port)

pub word_verdict : (verdict : Option Verdict) → IsWord (entry_verdict_text verdict)
word_verdict None = tt
word_verdict (Some (Pass scope)) = word_append (codes "pass-") (scope_text scope) (word_of (codes "pass-") refl) (word_scope scope)
word_verdict (Some (Drop rule)) = word_append (codes "drop-") (rule_name rule) (word_of (codes "drop-") refl) (word_rule rule)

pub word_who : (who : Who) → IsWord (who_text who)
word_who (passes.Ingress port) = word_append (codes "in") (port_text port) (word_of (codes "in") refl) (word_port port)
word_who passes.Control = word_of (codes "control") refl
word_who passes.Ticker = word_of (codes "ticker") refl
word_who (passes.Egress port) = word_append (codes "out") (port_text port) (word_of (codes "out") refl) (word_port port)

pub words_how : (how : How) → IsWords (how_fields how)
words_how hows.End = (word_of (codes "end") refl, tt)
words_how hows.Quit = (word_of (codes "quit") refl, tt)
words_how (hows.Malformed at) = (word_of (codes "malformed") refl, (word_decimal at, tt))
words_how (hows.Overlong at) = (word_of (codes "overlong") refl, (word_decimal at, tt))
words_how hows.Failed = (word_of (codes "failed") refl, tt)
words_how hows.Unwritten = (word_of (codes "unwritten") refl, tt)
words_how hows.Paused = (word_of (codes "paused") refl, tt)

pub words_probes : (entry : Entry) → IsWords (decimal entry.probes ∷ decimal entry.lost ∷ [])
words_probes entry = (word_decimal entry.probes, (word_decimal entry.lost, tt))

pub words_act : (entry : Entry) (octets : List ℕ) (act : Act) → IsBytes octets → IsWords (act_fields entry octets act)
words_act entry octets (acts.Frame port stamp at len) is =
    let last = words_probes entry in
    (word_of (codes "F") refl, (word_port port, (word_decimal stamp, (word_hex octets is, (word_verdict entry.verdict, (word_ports entry.outs, (word_ports entry.cuts, last)))))))
words_act entry octets (acts.Long port stamp len) is =
    let last = words_probes entry in
    (word_of (codes "L") refl, (word_port port, (word_decimal stamp, (word_decimal len, (word_verdict entry.verdict, last)))))
words_act entry octets (acts.Tick stamp) is = let last = words_probes entry in (word_of (codes "T") refl, (word_decimal stamp, last))
words_act entry octets (acts.Command stamp at len) is =
    let last = words_probes entry in (word_of (codes "C") refl, (word_decimal stamp, (word_hex octets is, last)))
words_act entry octets (acts.Drain port count) is = (word_of (codes "D") refl, (word_port port, (word_decimal count, tt)))
words_act entry octets (acts.End who how) is = let last = words_how how in (word_of (codes "E") refl, (word_who who, last))

pub line_row : (n : ℕ) (r : Row) → IsBytes r.octets → IsLine (line_fields n r)
line_row n r is =
    let last = words_act r.entry r.octets r.entry.act is in
    (word_decimal n, (word_decimal r.entry.by, (word_decimal r.entry.moment, last)))

pub lines_rows : (n : ℕ) (rows : List Row) → All (λ r. IsBytes r.octets) rows → IsLines (entry_lines n rows)
lines_rows n [] all = tt
lines_rows n (r ∷ rows) all =
    (line_row n r (All-head (λ r. IsBytes r.octets) r rows all), lines_rows (n + 1) rows (All-tail (λ r. IsBytes r.octets) r rows all))
