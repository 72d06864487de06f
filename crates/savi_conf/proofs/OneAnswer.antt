-- A text of a configuration has one answer.
use Rattle.std.proofs.Common.{ℕ, ℤ, pos, ◌≡◌, ◌≢◌, ◌-◌, ◌*◌, ◌<◌, Bool, true, false, List, [], ◌∷◌, get_or, map, length, codes, Option, Some, None, IsSomeAnd, Result, Ok, Err, refl, sym, ap, ◌∙◌, subst₂, arith, inl, inr}
use Rattle.std.specs.Prelude.{option_map}
use Rattle.std.specs.List.{AllPairs}
use Rattle.std.specs.List.Sorted.{IsPermutation, IsStrictlyIncreasing}
use Rattle.std.proofs.lemmas.Bool.{cases_order}
use Rattle.std.proofs.lemmas.Nat.{pow_pos}
use Rattle.std.proofs.lemmas.List.Kept.{AllPairs-from_increasing}
use Rattle.std.proofs.lemmas.List.Sorted.{IsPermutation-map, IsPermutation-refl, IsPermutation-sym, IsPermutation-trans}
use lib.Signed.{mag}
use Rattle.toml.specs.Data.{Members}
use Rattle.savi_kinds.specs.declared.plan.Plan.{Plan}
use Rattle.savi_kinds.specs.declared.plan.PortPlan.{PortPlan}
use Rattle.savi_kinds.specs.declared.plan.PrefixPlan.{PrefixPlan}
use Rattle.savi_kinds.specs.declared.plan.Role.{Role}
use Rattle.savi_kinds.specs.declared.plan.Role.TheVariants.{Host, Server, Trusted}
use Rattle.savi_kinds.specs.declared.plan.Method.{Method}
use Rattle.savi_kinds.specs.declared.plan.Method.TheVariants.{Fcfs, Dhcp, Mixed}
use Rattle.savi_kinds.specs.declared.plan.Format.{Format}
use Rattle.savi_kinds.specs.declared.plan.Format.TheVariants.{Pcap, Stream}
use Rattle.savi_kinds.specs.declared.plan.Vlan.{Vlan}
use Rattle.savi_kinds.specs.declared.plan.Vlan.TheVariants.{Access, Trunk}
use Rattle.savi_kinds.specs.MacText.{IsMacText}
use Rattle.savi_kinds.specs.PrefixText.{IsPrefixText}
use Rattle.savi_kinds.specs.ValidPlan.{IsValidPlan, StandsBefore, numbers_of}
use Rattle.savi_kinds.specs.Ports.{number_of}
use Rattle.savi_kinds.specs.PlanWords.{role_word, method_word, format_word, savi_word, unknown_word}
use Rattle.savi_kinds.proofs.MacGrammar.{one_mac}
use Rattle.savi_kinds.proofs.PrefixGrammar.{one_prefix}
use Rattle.savi_kinds.proofs.PortNumbers.{port_same}
use Rattle.savi_conf.specs.declared.fault.ConfFault.{ConfFault}
use Rattle.savi_conf.specs.declared.fault.ConfFault.TheVariants.{NoMemory, NotToml, Bad}
use Rattle.savi_conf.specs.Documents.{text_at}
use Rattle.savi_conf.specs.Faults.{fault_number}
use Rattle.savi_conf.specs.Requirements.{port_tables, prefix_tables, trunk_in}
use Rattle.savi_conf.specs.PlanOf.{IsPortOf, IsPrefixOf, IsPlanOf, Lists, SaysVlan}
use Rattle.savi_conf.specs.Answers.{IsDocument, SaysPlan, HasFault, IsPlanAnswer, OfDocument, IsAnswer}
use Rattle.savi_conf.specs.Laws.{TextHasOneAnswer}
use Rattle.savi_conf.proofs.OneOrder.{order_once, said_once, AllPairs-from_map}

-- ---- words

first : List ℕ → ℕ
first text = get_or text 0 0

second : List ℕ → ℕ
second text = get_or text 1 0

role_once : (r s : Role) → role_word r ≡ role_word s → r ≡ s
unfolding first
role_once Host Host e = refl
role_once Server Server e = refl
role_once Trusted Trusted e = refl
role_once Host Server e = absurd (omega (arith, ap first e))
role_once Host Trusted e = absurd (omega (arith, ap first e))
role_once Server Host e = absurd (omega (arith, ap first e))
role_once Server Trusted e = absurd (omega (arith, ap first e))
role_once Trusted Host e = absurd (omega (arith, ap first e))
role_once Trusted Server e = absurd (omega (arith, ap first e))

method_once : (m n : Method) → method_word m ≡ method_word n → m ≡ n
unfolding first
method_once Fcfs Fcfs e = refl
method_once Dhcp Dhcp e = refl
method_once Mixed Mixed e = refl
method_once Fcfs Dhcp e = absurd (omega (arith, ap first e))
method_once Fcfs Mixed e = absurd (omega (arith, ap first e))
method_once Dhcp Fcfs e = absurd (omega (arith, ap first e))
method_once Dhcp Mixed e = absurd (omega (arith, ap first e))
method_once Mixed Fcfs e = absurd (omega (arith, ap first e))
method_once Mixed Dhcp e = absurd (omega (arith, ap first e))

format_once : (f g : Format) → format_word f ≡ format_word g → f ≡ g
unfolding first
format_once Pcap Pcap e = refl
format_once Stream Stream e = refl
format_once Pcap Stream e = absurd (omega (arith, ap first e))
format_once Stream Pcap e = absurd (omega (arith, ap first e))

savi_once : (a b : Bool) → savi_word a ≡ savi_word b → a ≡ b
unfolding second
savi_once true true e = refl
savi_once false false e = refl
savi_once true false e = absurd (omega (arith, ap second e))
savi_once false true e = absurd (omega (arith, ap second e))

unknown_once : (a b : Bool) → unknown_word a ≡ unknown_word b → a ≡ b
unfolding first
unknown_once true true e = refl
unknown_once false false e = refl
unknown_once true false e = absurd (omega (arith, ap first e))
unknown_once false true e = absurd (omega (arith, ap first e))

-- ---- ports and prefixes

some_once : {X : Type 0} (o : Option X) (x y : X) → o ≡ Some x → o ≡ Some y → x ≡ y
some_once o x y one other = let both : Some x ≡ Some y = sym one ∙ other in cc

pos_once : (m n : ℕ) → pos m ≡ pos n → m ≡ n
pos_once m n e = cc

-- the same text stands in both
both_at : {X : Type 0} (o : Option X) (P Q : X → Type 0) → IsSomeAnd o P → IsSomeAnd o Q → (x : X) × P x × Q x
both_at (Some x) P Q one other = (x, one, other)
both_at None P Q one other = absurd one

-- a list of numbers that rises is one order of them
numbers_once : (zs : List ℤ) (vs ws : List ℕ) → IsPermutation zs (map (λ v. pos v) vs) → IsPermutation zs (map (λ v. pos v) ws) → IsStrictlyIncreasing vs → IsStrictlyIncreasing ws → vs ≡ ws
numbers_once zs vs ws one other rises rises' =
    let between = IsPermutation-trans (map (λ v. pos v) vs) zs (map (λ v. pos v) ws) (IsPermutation-sym zs (map (λ v. pos v) vs) one) other in
    let natural = IsPermutation-map mag (map (λ v. pos v) vs) (map (λ v. pos v) ws) between in
    let same : IsPermutation vs ws = subst₂ (λ (a b : List ℕ). IsPermutation a b) (mags vs) (mags ws) natural in
    order_once (λ m n. m < n) (λ m n less more. omega (arith, less, more)) vs vs ws (IsPermutation-refl vs) same (AllPairs-from_increasing vs rises) (AllPairs-from_increasing ws rises')
  where
    mags : (ns : List ℕ) → map mag (map (λ (v : ℕ). pos v) ns) ≡ ns
    mags [] = refl
    mags (n ∷ ns) = ap (λ (l : List ℕ). n ∷ l) (mags ns)

trunk_once : (o : Option (List ℤ)) (vs ws : List ℕ) → IsSomeAnd o (λ zs. IsPermutation zs (map (λ v. pos v) vs)) → IsSomeAnd o (λ zs. IsPermutation zs (map (λ v. pos v) ws))
    → IsStrictlyIncreasing vs → IsStrictlyIncreasing ws → vs ≡ ws
trunk_once None vs ws one other rises rises' = absurd one
trunk_once (Some zs) vs ws one other rises rises' = numbers_once zs vs ws one other rises rises'

no_trunk : (o : Option (List ℤ)) (P : List ℤ → Type 0) → o ≡ None → IsSomeAnd o P → ⊥
no_trunk None P none some = some
no_trunk (Some zs) P none some = let e : Some zs ≡ None = none in cc

vlan_once : (t : Members) (v w : Vlan) → SaysVlan t v → SaysVlan t w → v ≡ w
vlan_once t (Access v) (Access w) one other = ap (λ (n : ℕ). Access n) (pos_once v w (sym one.1 ∙ other.1))
vlan_once t (Access v) (Trunk ws) one other = absurd (no_trunk (trunk_in t) _ one.0 other.0)
vlan_once t (Trunk vs) (Access w) one other = absurd (no_trunk (trunk_in t) _ other.0 one.0)
vlan_once t (Trunk vs) (Trunk ws) one other =
    let items = trunk_once (trunk_in t) vs.items ws.items one.0 other.0 one.1 other.1 in
    λ i. Trunk (record { items = items i })

port_once : (t : Members) (p q : PortPlan) → IsPortOf t p → IsPortOf t q → p ≡ q
port_once t p q one other =
    let number = port_same p.number q.number (pos_once _ _ (some_once _ _ _ one.number other.number)) in
    let role = role_once p.role q.role (some_once _ _ _ one.role other.role) in
    let format = format_once p.format q.format (sym one.format ∙ other.format) in
    let input : p.input ≡ q.input = some_once _ _ _ one.input other.input in
    let output : p.output ≡ q.output = some_once _ _ _ one.output other.output in
    let vlan = vlan_once t p.vlan q.vlan one.vlan other.vlan in
    λ i. record { number = number i; role = role i; format = format i; input = input i; output = output i; vlan = vlan i }

prefix_once : (t : Members) (x y : PrefixPlan) → IsPrefixOf t x → IsPrefixOf t y → x ≡ y
prefix_once t x y one other =
    let texts = both_at (text_at (codes "prefix") t) (λ text. IsPrefixText text x.prefix) (λ text. IsPrefixText text y.prefix) one.range other.range in
    let prefix = one_prefix texts.0 x.prefix y.prefix texts.1 texts.2 in
    let method = method_once x.method y.method (some_once _ _ _ one.method other.method) in
    let vlan = pos_once x.vlan y.vlan (sym one.vlan ∙ other.vlan) in
    λ i. record { prefix = prefix i; method = method i; vlan = vlan i }

list_once : {A : Type 0} (Says : Members → A → Type 0) (Before : A → A → Type 0) → ((a b : A) → Before a b → Before b a → ⊥) → ((t : Members) (a b : A) → Says t a → Says t b → a ≡ b) → (ts : List Members) (xs ys : List A) → Lists Says ts xs → Lists Says ts ys → AllPairs Before xs → AllPairs Before ys → xs ≡ ys
list_once Says Before one_way once ts xs ys one other rises rises' =
    let said = said_once Says once ts one.said other.said one.in_order other.in_order in
    order_once Before one_way one.said xs ys one.permutation (rw said other.permutation) rises rises'

abbrev PortBefore : PortPlan → PortPlan → Type 0
PortBefore p q = number_of p.number < number_of q.number

port_one_way : (p q : PortPlan) → PortBefore p q → PortBefore q p → ⊥
port_one_way p q less more = omega (arith, less, more)

prefix_one_way : (x y : PrefixPlan) → StandsBefore x y → StandsBefore y x → ⊥
prefix_one_way x y (inl less) (inl more) = omega (arith, less, more)
prefix_one_way x y (inl less) (inr more) = omega (arith, less, more.0)
prefix_one_way x y (inr less) (inl more) = omega (arith, less.0, more)
prefix_one_way x y (inr less) (inr more) = omega (arith, less.1, more.1, pow_pos (128 - x.prefix.len), pow_pos (128 - y.prefix.len))

ports_rise : (plan : Plan) → IsValidPlan plan → AllPairs PortBefore plan.ports
ports_rise plan valid = AllPairs-from_map (λ m n. m < n) (λ (p : PortPlan). number_of p.number) plan.ports (AllPairs-from_increasing (numbers_of plan.ports) valid.ports)

-- ---- plans

pair_once : {X Y : Type 0} (o : Option X) (u : Option Y) (c d : Option (X × Y)) → o ≡ option_map (λ names. names.0) c → u ≡ option_map (λ names. names.1) c → o ≡ option_map (λ names. names.0) d → u ≡ option_map (λ names. names.1) d → c ≡ d
pair_once o u None None a b a' b' = refl
pair_once o u None (Some d) a b a' b' = absurd (let same : None ≡ Some d.0 = sym a ∙ a' in cc)
pair_once o u (Some c) None a b a' b' = absurd (let same : Some c.0 ≡ None = sym a ∙ a' in cc)
pair_once o u (Some c) (Some d) a b a' b' =
    let one : c.0 ≡ d.0 = some_once o c.0 d.0 a a' in
    let other : c.1 ≡ d.1 = some_once u c.1 d.1 b b' in
    λ i. Some (one i, other i)

plan_once : (document : Members) (p q : Plan) → IsPlanOf document p → IsPlanOf document q → IsValidPlan p → IsValidPlan q → p ≡ q
plan_once document p q one other valid valid' =
    let texts = both_at (text_at (codes "mac") document) (λ text. IsMacText text p.mac) (λ text. IsMacText text q.mac) one.mac other.mac in
    let mac = one_mac texts.0 p.mac q.mac texts.1 texts.2 in
    let savi = savi_once p.savi q.savi (sym one.savi ∙ other.savi) in
    let unknown = unknown_once p.drop_unknown q.drop_unknown (sym one.unknown ∙ other.unknown) in
    let per_port = pos_once p.per_port q.per_port (sym one.per_port ∙ other.per_port) in
    let depth = pos_once p.depth q.depth (sym one.depth ∙ other.depth) in
    let entries = pos_once p.entries q.entries (sym one.entries ∙ other.entries) in
    let bytes = pos_once p.bytes q.bytes (sym one.bytes ∙ other.bytes) in
    let gap = pos_once p.gap q.gap (sym one.gap ∙ other.gap) in
    let test = pos_once p.test q.test (sym one.test ∙ other.test) in
    let seconds = pos_once one.life.0 other.life.0 (sym one.life.1 ∙ other.life.1) in
    let life : p.life ≡ q.life = one.life.2 ∙ ap (λ n. 1000 * n) seconds ∙ sym other.life.2 in
    let journal : p.journal ≡ q.journal = some_once _ _ _ one.journal other.journal in
    let control : p.control ≡ q.control = pair_once _ _ p.control q.control one.control one.control_out other.control other.control_out in
    let ports = list_once IsPortOf PortBefore port_one_way port_once (port_tables document) p.ports q.ports one.ports other.ports (ports_rise p valid) (ports_rise q valid') in
    let prefixes = list_once IsPrefixOf StandsBefore prefix_one_way prefix_once (prefix_tables document) p.prefixes q.prefixes one.prefixes other.prefixes valid.prefixes valid'.prefixes in
    λ i. record {
      mac = mac i;
      savi = savi i;
      drop_unknown = unknown i;
      per_port = per_port i;
      depth = depth i;
      entries = entries i;
      bytes = bytes i;
      gap = gap i;
      test = test i;
      life = life i;
      control = control i;
      journal = journal i;
      ports = ports i;
      prefixes = prefixes i;
    }

-- ---- answers

fault_once : (document : Members) (replay : Bool) (m n : ℕ) → HasFault document replay m → HasFault document replay n → m ≡ n
fault_once document replay m n one other =
    elim (cases_order (fault_number one.fault) (fault_number other.fault)) [
      | inl same ↦ one.number ∙ same ∙ sym other.number
      | inr (inl less) ↦ absurd (one.first.applies (other.first.first one.fault less))
      | inr (inr more) ↦ absurd (other.first.applies (one.first.first other.fault more))
    ]

no_fault : (document : Members) (replay : Bool) (plan : Plan) (n : ℕ) → SaysPlan document replay plan → HasFault document replay n → ⊥
no_fault document replay plan n says fault = fault.first.applies (says.meets fault.fault)

document_once : (text : List ℕ) (one other : Members) → IsDocument text one → IsDocument text other → one ≡ other
document_once text one other h k = some_once _ one other h.parsed k.parsed

answer_once : (document : Members) (replay : Bool) (one other : Result Plan ConfFault) → IsPlanAnswer document replay one → IsPlanAnswer document replay other → one ≢ Err NoMemory → other ≢ Err NoMemory → one ≡ other
answer_once document replay (Err NoMemory) other a b some some' = absurd (some refl)
answer_once document replay (Err NotToml) other a b some some' = absurd a
answer_once document replay (Ok p) (Err NoMemory) a b some some' = absurd (some' refl)
answer_once document replay (Ok p) (Err NotToml) a b some some' = absurd b
answer_once document replay (Ok p) (Ok q) a b some some' = ap (λ (x : Plan). Ok x) (plan_once document p q a.says b.says a.valid b.valid)
answer_once document replay (Ok p) (Err (Bad n)) a b some some' = absurd (no_fault document replay p n a b)
answer_once document replay (Err (Bad m)) (Err NoMemory) a b some some' = absurd (some' refl)
answer_once document replay (Err (Bad m)) (Err NotToml) a b some some' = absurd b
answer_once document replay (Err (Bad m)) (Ok q) a b some some' = absurd (no_fault document replay q m b a)
answer_once document replay (Err (Bad m)) (Err (Bad n)) a b some some' = ap (λ (k : ℕ). Err (Bad k)) (fault_once document replay m n a b)

-- what the text is: too long, no document, or a document that gives the answer
data Kind (text : List ℕ) (replay : Bool) (answer : Result Plan ConfFault) : Type 0 where
  Long : 65536 < length text → answer ≡ Err (Bad 1) → Kind text replay answer
  NoDocument : IsAnswer text replay (Err NotToml) → answer ≡ Err NotToml → Kind text replay answer
  Document : OfDocument text replay answer → Kind text replay answer

kind_of : (text : List ℕ) (replay : Bool) (answer : Result Plan ConfFault) → IsAnswer text replay answer → answer ≢ Err NoMemory → Kind text replay answer
kind_of text replay (Ok plan) is some = Document is
kind_of text replay (Err NoMemory) is some = absurd (some refl)
kind_of text replay (Err NotToml) is some = NoDocument is refl
kind_of text replay (Err (Bad n)) (inl long) some = Long long.1 (ap (λ (k : ℕ). Err (Bad k)) long.0)
kind_of text replay (Err (Bad n)) (inr is) some = Document is

both_kinds : (text : List ℕ) (replay : Bool) (one other : Result Plan ConfFault) → Kind text replay one → Kind text replay other → one ≢ Err NoMemory → other ≢ Err NoMemory → one ≡ other
both_kinds text replay one other (Long a is) (Long b is') some some' = is ∙ sym is'
both_kinds text replay one other (Long a is) (NoDocument b is') some some' = absurd (omega (arith, a, b.short))
both_kinds text replay one other (Long a is) (Document b) some some' = absurd (omega (arith, a, b.1.short))
both_kinds text replay one other (NoDocument a is) (Long b is') some some' = absurd (omega (arith, b, a.short))
both_kinds text replay one other (NoDocument a is) (NoDocument b is') some some' = is ∙ sym is'
both_kinds text replay one other (NoDocument a is) (Document b) some some' = absurd (let same : None ≡ Some b.0 = sym (a.refused b.1.utf8) ∙ b.1.parsed in cc)
both_kinds text replay one other (Document a) (Long b is') some some' = absurd (omega (arith, b, a.1.short))
both_kinds text replay one other (Document a) (NoDocument b is') some some' = absurd (let same : None ≡ Some a.0 = sym (b.refused a.1.utf8) ∙ a.1.parsed in cc)
both_kinds text replay one other (Document a) (Document b) some some' =
    answer_once a.0 replay one other a.2 (rw (document_once text a.0 b.0 a.1 b.1) b.2) some some'

pub one_answer : TextHasOneAnswer
one_answer text replay one other is is' some some' = both_kinds text replay one other (kind_of text replay one is some) (kind_of text replay other is' some') some some'
