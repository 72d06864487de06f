-- No line of what a history goes on from has a line feed in it.
use Rattle.std.proofs.Common.{◌≡◌, ◌≢◌, ◌+◌, ℕ, zero, suc, ◌/◌, ◌%◌, ◌==◌, Bool, true, false, if◌then◌else◌, List, [], ◌∷◌, ◌++◌, map, codes, decimal, slice_index, slice_get, Option, Some, None, unwrap_or, refl, ap, subst, arith}
use Rattle.std.specs.List.{flat_map, join_with_byte}
use Rattle.hex.specs.Hex.{encode_with, encode_lower, lower_digits}
use Rattle.savi_kinds.specs.declared.plan.Plan.{Plan}
use Rattle.savi_kinds.specs.declared.entry.Who.{Who}
use Rattle.savi_kinds.specs.declared.entry.How.{How}
use Rattle.savi_kinds.specs.declared.port.Port.{Port}
use Rattle.savi_kinds.specs.declared.verdict.Rule.{Rule}
use Rattle.savi_kinds.specs.MacText.{mac_text}
use Rattle.savi_kinds.specs.AddrText.{addr_text}
use Rattle.bridge_fdb.specs.declared.station.Station.{Station}
use Rattle.dhcp_states.specs.declared.bound.Bound.{Bound}
use Rattle.dhcp_states.specs.declared.request.Request.{Request}
use Rattle.fcfs_states.specs.declared.state.Fcfs.{Fcfs}
use Rattle.fcfs_states.specs.declared.state.Fcfs.TheVariants.{NoBind, Tentative, Valid, TestLt, TestVp}
use Rattle.savi_access.specs.declared.row.Row.{Row}
use Rattle.hist_store.specs.TextOfLines.{joined, or_dash}
use Rattle.hist_store.specs.PortTexts.{port_text}
use Rattle.hist_store.specs.VerdictTexts.{rule_name}
use Rattle.hist_store.specs.EndTexts.{how_fields}
use Rattle.hist_store.specs.LineTexts.{hex_text}
use Rattle.hist_store.proofs.Words.{IsWord, IsWords, word_all, word_append, word_avoids, word_decimal, word_joined, word_of}
use Rattle.hist_store.proofs.FieldWords.{word_dash, word_port, word_rule, word_who, words_decimal, words_how}
use Rattle.hist_store.proofs.AddressWords.{address_graphic}
use Rattle.control_replies.specs.declared.counts.Counts.{Counts}
use Rattle.control_replies.specs.Bindings.{until_text}
use Rattle.control_replies.specs.Counters.{all_rules, dropped_count, other_lines, rule_fields}
use Rattle.checkpoint.specs.Bases.{Base}
use Rattle.checkpoint.specs.Columns.{by_vlan}
use Rattle.checkpoint.specs.Orders.{requests_in_order}
use Rattle.checkpoint.specs.StateLines.{binding_base_lines, claim_base_lines, fixed_lines, text_in_vlan, state_base_lines, two_text}
use Rattle.savi_kinds.specs.Vlans.{vlans_of}
use Rattle.checkpoint.specs.BaseLines.{base_lines, base_texts, column_lines, count_lines, ended_line, head_lines, passes_of, pass_text, request_line, station_base_line}
use Rattle.savi_history.proofs.Fields.{word_either, word_mac}
use Rattle.journal_check.specs.Feeds.{HasNoFeed}
use Rattle.journal_check.specs.Headers.{LineFields}
use Rattle.journal_check.proofs.FeedPlaces.{plain_append}
use Rattle.journal_check.proofs.LineFronts.{plain_avoids}

-- fields without line feeds

abbrev ArePlain : LineFields → Type 0
ArePlain [] = Unit {0}
ArePlain (field ∷ fields) = HasNoFeed field × ArePlain fields

abbrev AllPlain : List LineFields → Type 0
AllPlain [] = Unit {0}
AllPlain (line ∷ lines) = ArePlain line × AllPlain lines

plain_joined : (fields : LineFields) → ArePlain fields → HasNoFeed (joined fields)
plain_joined [] plain = tt
plain_joined (field ∷ []) plain = plain.0
plain_joined (field ∷ other ∷ fields) plain =
    plain_append field (32 ∷ joined (other ∷ fields)) plain.0 (λ same. omega (arith, same), plain_joined (other ∷ fields) plain.1)

word_plain : (t : List ℕ) → IsWord t → HasNoFeed t
word_plain t is = plain_avoids t (word_avoids 10 t (omega arith) is)

words_plain : (ts : LineFields) → IsWords ts → ArePlain ts
words_plain [] is = tt
words_plain (t ∷ ts) is = (word_plain t is.0, words_plain ts is.1)

decimal_plain : (n : ℕ) → HasNoFeed (decimal n)
decimal_plain n = word_plain (decimal n) (word_decimal n)

port_plain : (port : Port) → HasNoFeed (port_text port)
port_plain port = word_plain (port_text port) (word_port port)

-- lines

lines_joined : (ls ms : List LineFields) → AllPlain ls → AllPlain ms → AllPlain (ls ++ ms)
lines_joined [] ms a b = b
lines_joined (l ∷ ls) ms a b = (a.0, lines_joined ls ms a.1 b)

lines_mapped : {A : Type 0} (f : A → LineFields) → ((x : A) → ArePlain (f x)) → (xs : List A) → AllPlain (map f xs)
lines_mapped f plain [] = tt
lines_mapped f plain (x ∷ xs) = (plain x, lines_mapped f plain xs)

lines_of_all : {A : Type 0} (f : A → List LineFields) → ((x : A) → AllPlain (f x)) → (xs : List A) → AllPlain (flat_map f xs)
lines_of_all f plain [] = tt
lines_of_all f plain (x ∷ xs) = lines_joined (f x) (flat_map f xs) (plain x) (lines_of_all f plain xs)

-- texts of addresses and octets

key_plain : (text : List ℕ) (vlan : ℕ) → IsWord text → HasNoFeed (text_in_vlan text vlan)
key_plain text vlan is =
    let behind : IsWord (text ++ codes "@" ++ decimal vlan) = word_append (text ++ codes "@") (decimal vlan) (word_append text (codes "@") is (word_of (codes "@") refl)) (word_decimal vlan) in
    word_plain (text_in_vlan text vlan) (word_either (vlan == 1) text (text ++ codes "@" ++ decimal vlan) is behind)

-- whatever octets are, no digit of theirs is a line feed

digit_plain : (t : List ℕ) (i : ℕ) → IsWord t → slice_index t i ≢ 10
digit_plain [] i is = λ same. omega (arith, same)
digit_plain (x ∷ t) zero is = let above = is.0 in λ same. omega (arith, same, above)
digit_plain (x ∷ t) (suc i) is = digit_plain t i is.1

encoded_plain : (octets : List ℕ) → HasNoFeed (encode_lower octets)
unfolding encode_with
encoded_plain [] = tt
encoded_plain (x ∷ octets) =
    let digits : IsWord lower_digits = word_of lower_digits refl in
    (digit_plain lower_digits (x / 16) digits, (digit_plain lower_digits (x % 16) digits, encoded_plain octets))

dash_plain : (t : List ℕ) → HasNoFeed t → HasNoFeed (or_dash t)
dash_plain [] plain = (λ same. omega (arith, same), tt)
dash_plain (x ∷ t) plain = plain

hex_plain : (octets : List ℕ) → HasNoFeed (hex_text octets)
hex_plain octets = dash_plain (encode_lower octets) (encoded_plain octets)

-- the lines of counts

named_plain : (lines : List LineFields) → AllPlain lines → AllPlain (map (λ (fields : LineFields). codes "count" ∷ fields) lines)
named_plain [] plain = tt
named_plain (line ∷ lines) plain = ((word_plain (codes "count") (word_of (codes "count") refl), plain.0), named_plain lines plain.1)

counts_plain : (counts : Counts) → AllPlain (count_lines counts)
counts_plain counts =
    let rules : AllPlain (map (rule_fields counts) all_rules) =
    lines_mapped (rule_fields counts) (λ (rule : Rule). (word_plain (rule_name rule) (word_rule rule), (decimal_plain (dropped_count counts rule), tt))) all_rules in
    let others : AllPlain (other_lines counts) = (
      (word_plain (codes "Pass") (word_of (codes "Pass") refl), (decimal_plain counts.pass, tt)),
      (
        (word_plain (codes "Cut") (word_of (codes "Cut") refl), (decimal_plain counts.cut, tt)),
        (
          (word_plain (codes "Probes") (word_of (codes "Probes") refl), (decimal_plain counts.probes, tt)),
          ((word_plain (codes "Lost") (word_of (codes "Lost") refl), (decimal_plain counts.lost, tt)), tt),
        ),
      ),
    ) in
    named_plain (map (rule_fields counts) all_rules ++ other_lines counts) (lines_joined (map (rule_fields counts) all_rules) (other_lines counts) rules others)

head_plain : (base : Base) → AllPlain (head_lines base)
head_plain base = (
  (word_plain (codes "moment") (word_of (codes "moment") refl), (decimal_plain base.moment, tt)),
  (
    (
      word_plain (codes "shut") (word_of (codes "shut") refl),
      (
        word_plain (or_dash (join_with_byte 44 (map decimal base.shut))) (word_dash (join_with_byte 44 (map decimal base.shut)) (word_joined 44 (map decimal base.shut) (omega arith) (words_decimal base.shut))),
        tt,
      ),
    ),
    counts_plain base.counts,
  ),
)

-- the lines of addresses

until_plain : (until : Option ℕ) → HasNoFeed (until_text until)
until_plain (Some moment) = decimal_plain moment
until_plain None = word_plain (codes "-") (word_of (codes "-") refl)

two_plain : (two : Bool) → HasNoFeed (two_text two)
two_plain true = word_plain (codes "yes") (word_of (codes "yes") refl)
two_plain false = word_plain (codes "no") (word_of (codes "no") refl)

fixed_plain : (key : List ℕ) (fixed : Option Port) → HasNoFeed key → AllPlain (fixed_lines key fixed)
fixed_plain key None plain = tt
fixed_plain key (Some port) plain = ((word_plain (codes "fixed") (word_of (codes "fixed") refl), (plain, (port_plain port, tt))), tt)

bound_plain : (key : List ℕ) (bound : Option Bound) → HasNoFeed key → AllPlain (binding_base_lines key bound)
bound_plain key None plain = tt
bound_plain key (Some bound) plain =
    ((word_plain (codes "bound") (word_of (codes "bound") refl), (plain, (port_plain bound.p, (until_plain bound.until, tt)))), tt)

fcfs_word : HasNoFeed (codes "fcfs")
fcfs_word = word_plain (codes "fcfs") (word_of (codes "fcfs") refl)

claim_plain : (key : List ℕ) (state : Fcfs) → HasNoFeed key → AllPlain (claim_base_lines key state)
claim_plain key NoBind plain = tt
claim_plain key (Tentative p since two) plain =
    ((fcfs_word, (plain, (word_plain (codes "tentative") (word_of (codes "tentative") refl), (port_plain p, (decimal_plain since, (two_plain two, tt)))))), tt)
claim_plain key (Valid p until) plain =
    ((fcfs_word, (plain, (word_plain (codes "valid") (word_of (codes "valid") refl), (port_plain p, (decimal_plain until, tt))))), tt)
claim_plain key (TestLt p since two) plain =
    ((fcfs_word, (plain, (word_plain (codes "testing-lt") (word_of (codes "testing-lt") refl), (port_plain p, (decimal_plain since, (two_plain two, tt)))))), tt)
claim_plain key (TestVp p q since two) plain =
    ((fcfs_word, (plain, (word_plain (codes "testing-vp") (word_of (codes "testing-vp") refl), (port_plain p, (port_plain q, (decimal_plain since, (two_plain two, tt))))))), tt)

state_plain : (p : ℕ × Row) → AllPlain (state_base_lines p)
state_plain p =
    let key = text_in_vlan (addr_text p.1.address) p.0 in
    let plain : HasNoFeed key = key_plain (addr_text p.1.address) p.0 (word_all (addr_text p.1.address) (address_graphic p.1.address.0)) in
    lines_joined (fixed_lines key p.1.state.fixed ++ binding_base_lines key p.1.state.dhcp) (claim_base_lines key p.1.state.fcfs)
    (lines_joined (fixed_lines key p.1.state.fixed) (binding_base_lines key p.1.state.dhcp) (fixed_plain key p.1.state.fixed plain) (bound_plain key p.1.state.dhcp plain))
    (claim_plain key p.1.state.fcfs plain)

-- those of requests, stations and passes

request_plain : (p : ℕ × Request) → ArePlain (request_line p)
request_plain p =
    (word_plain (codes "request") (word_of (codes "request") refl), (decimal_plain p.0, (port_plain p.1.port, (decimal_plain p.1.tid, (hex_plain p.1.duid.items, (decimal_plain (p.1.opened + 120000), tt))))))

station_plain : (p : ℕ × Station) → ArePlain (station_base_line p)
station_plain p =
    (word_plain (codes "station") (word_of (codes "station") refl), (key_plain (mac_text p.1.mac) p.0 (word_mac p.1.mac), (port_plain p.1.port, (decimal_plain p.1.last, tt))))

pass_plain : (who : Option Who) → HasNoFeed (pass_text who)
pass_plain (Some who) = word_plain (pass_text (Some who)) (word_who who)
pass_plain None = tt

ended_plain : (plan : Plan) (p : ℕ × How) → ArePlain (ended_line plan p)
ended_plain plan p =
    (word_plain (codes "ended") (word_of (codes "ended") refl), (pass_plain (slice_get (passes_of plan) p.0), words_plain (how_fields p.1) (words_how p.1)))

columns_plain : (plan : Plan) (base : Base) → AllPlain (column_lines plan base)
columns_plain plan base =
    let states = flat_map state_base_lines (by_vlan (vlans_of plan) base.rows) in
    let requests = map request_line (requests_in_order (by_vlan (vlans_of plan) base.requests)) in
    let stations = map station_base_line (by_vlan (vlans_of plan) base.stations) in
    lines_joined (states ++ requests ++ stations) (map (ended_line plan) base.ended)
    (lines_joined (states ++ requests) stations
    (lines_joined states requests (lines_of_all state_base_lines state_plain (by_vlan (vlans_of plan) base.rows)) (lines_mapped request_line request_plain (requests_in_order (by_vlan (vlans_of plan) base.requests))))
    (lines_mapped station_base_line station_plain (by_vlan (vlans_of plan) base.stations)))
    (lines_mapped (ended_line plan) (ended_plain plan) base.ended)

all_plain_at : (b : Bool) (lines : List LineFields) → AllPlain lines → AllPlain (if b then [] else lines)
all_plain_at true lines plain = tt
all_plain_at false lines plain = plain

all_plain : (plan : Plan) (base : Base) → AllPlain (base_lines plan base)
all_plain plan base = all_plain_at base.is_start (head_lines base ++ column_lines plan base) (lines_joined (head_lines base) (column_lines plan base) (head_plain base) (columns_plain plan base))

some_same : (s t : List ℕ) → Some s ≡ Some t → s ≡ t
some_same s t e = ap (λ (o : Option (List ℕ)). unwrap_or o s) e

line_plain : (lines : List LineFields) (i : ℕ) (line : List ℕ) → AllPlain lines → slice_get (map joined lines) i ≡ Some line → HasNoFeed line
line_plain [] i line plain here = let e : None ≡ Some line = here in cc
line_plain (first ∷ lines) zero line plain here = subst HasNoFeed (some_same (joined first) line here) (plain_joined first plain.0)
line_plain (first ∷ lines) (suc i) line plain here = line_plain lines i line plain.1 here

pub base_line_plain : (plan : Plan) (base : Base) (i : ℕ) (line : List ℕ) → slice_get (base_texts plan base) i ≡ Some line → HasNoFeed line
base_line_plain plan base i line here = line_plain (base_lines plan base) i line (all_plain plan base) here

pub begin_plain : HasNoFeed (codes "begin")
begin_plain = word_plain (codes "begin") (word_of (codes "begin") refl)
