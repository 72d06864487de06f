-- What the lines of ports and prefixes have of VLANs: how it is written, and as what it is read.
use Rattle.std.proofs.Common.{ℕ, zero, suc, ◌≡◌, ◌≢◌, ◌+◌, ◌^◌, ◌<◌, ◌≤◌, ◌==◌, Bool, true, false, if◌then◌else◌, List, [], ◌∷◌, ◌++◌, length, take, drop, map, get_or, decimal, codes, All, refl, sym, ap, ap₂, ◌∙◌, subst, arith, inl, inr, eq-eqb, ne_eqb, length-append}
use Rattle.std.specs.List.Sorted.{IsStrictlyIncreasing}
use Rattle.std.proofs.lemmas.Bool.{cases_eq}
use Rattle.std.proofs.lemmas.Fmt.{decimal_injective}
use Rattle.std.proofs.lemmas.List.{append-nil, append_assoc, get_or_at}
use Rattle.std.proofs.lemmas.List.Elements.{All-head, All-tail, All-nil, All-push}
use Rattle.savi_kinds.specs.declared.plan.Vlan.{Vlan}
use Rattle.savi_kinds.specs.declared.plan.Vlan.TheVariants.{Access, Trunk}
use Rattle.savi_kinds.specs.Vlans.{IsVlan, numbers_of_vlan}
use Rattle.hist_store.specs.TextOfLines.{comma}
use Rattle.hist_store.specs.VlanTexts.{vlans_text, vlan_fields, port_vlan_fields, AreVlans, BeginTrunk, ListsBehind}
use Rattle.hist_store.specs.HeaderLines.{IsAbove}
use Rattle.hist_store.proofs.FieldWords.{words_decimal}
use Rattle.hist_store.proofs.OnePort.{first_apart}
use Rattle.hist_store.proofs.PortsRead.{comma_place, tail_text, text_first, cut, behind_comma, no_tail, some_tail, tail_same}
use Rattle.hist_store.proofs.Rising.{above_of, rise_more}
use Rattle.hist_store.proofs.Words.{IsWord, IsWords, word_of, word_decimal, word_joined}

-- the text of numbers, one more

more_text : (ns : List ℕ) (j : ℕ) → suc j < length ns → vlans_text (take (suc (suc j)) ns) ≡ vlans_text (take (suc j) ns) ++ (44 ∷ decimal (get_or ns (suc j) 0))
more_text [] j h = absurd (omega arith)
more_text (n ∷ []) j h = absurd (omega arith)
more_text (n ∷ m ∷ ns) zero h = refl
more_text (n ∷ m ∷ ns) (suc j) h =
    ap (λ t. decimal n ++ (44 ∷ t)) (more_text (m ∷ ns) j (omega arith)) ∙ sym (append_assoc (decimal n) (44 ∷ vlans_text (take (suc j) (m ∷ ns))) _)

first_text : (ns : List ℕ) → 0 < length ns → vlans_text (take 1 ns) ≡ decimal (get_or ns 0 0)
first_text [] h = absurd (omega arith)
first_text (n ∷ ns) h = refl

pub first_number : (ns : List ℕ) (i : ℕ) (old before mid new : List ℕ) → i < length ns → i ≤ 0 → before ≡ old ++ vlans_text (take i ns) → mid ≡ before → new ≡ mid ++ decimal (get_or ns i 0) → new ≡ old ++ vlans_text (take (i + 1) ns)
first_number ns zero old before mid new within first e is written =
    rw (first_text ns within) (written ∙ ap (λ t. t ++ decimal (get_or ns 0 0)) (is ∙ e ∙ append-nil old))
first_number ns (suc i) old before mid new within first e is written = absurd (omega arith)

pub next_number : (ns : List ℕ) (i : ℕ) (old before mid new : List ℕ) → i < length ns → 0 < i → before ≡ old ++ vlans_text (take i ns) → mid ≡ before ++ (44 ∷ []) → new ≡ mid ++ decimal (get_or ns i 0) → new ≡ old ++ vlans_text (take (i + 1) ns)
next_number ns zero old before mid new within later e is written = absurd (omega arith)
next_number ns (suc i) old before mid new within later e is written =
    let place : suc i + 1 ≡ suc (suc i) = omega arith in
    rw (place, more_text ns i within) (rw (written, is, e) (simp append_assoc))

-- each field is a word

words_vlan_at : (first : Bool) (vlan : ℕ) → IsWords (if first then [] else codes "vlan" ∷ decimal vlan ∷ [])
words_vlan_at true vlan = tt
words_vlan_at false vlan = (word_of (codes "vlan") refl, (word_decimal vlan, tt))

pub words_vlan : (vlan : ℕ) → IsWords (vlan_fields vlan)
words_vlan vlan = words_vlan_at (vlan == 1) vlan

pub word_vlans : (numbers : List ℕ) → IsWord (vlans_text numbers)
word_vlans numbers = word_joined 44 (map decimal numbers) (omega arith) (words_decimal numbers)

pub words_port_vlans : (vlan : Vlan) → IsWords (port_vlan_fields vlan)
words_port_vlans (Access vlan) = words_vlan vlan
words_port_vlans (Trunk vlans) = (word_of (codes "trunk") refl, (word_vlans vlans.items, tt))

-- what a line says of a VLAN

pub nothing_said : (vlan : ℕ) → vlan ≡ 1 → vlan_fields vlan ≡ []
nothing_said vlan first = rw (eq-eqb vlan 1 first) refl

pub number_said : (vlan : ℕ) → vlan ≢ 1 → vlan_fields vlan ≡ codes "vlan" ∷ decimal vlan ∷ []
number_said vlan other = rw (ne_eqb vlan 1 other) refl

small : (vlan : ℕ) → IsVlan vlan → vlan < 2 ^ 64
small vlan is = omega (arith, is.1)

number_once : {v w : ℕ} → IsVlan v → IsVlan w → codes "vlan" ∷ decimal v ∷ [] ≡ codes "vlan" ∷ decimal w ∷ [] → v ≡ w
number_once {v} {w} is is' e = let text : decimal v ≡ decimal w = cc in decimal_injective v w (small v is) (small w is') text

nothing_apart : {a b : List ℕ} → [] ≡ a ∷ b ∷ [] → ⊥
nothing_apart e = cc

pub vlan_once : (v w : ℕ) → IsVlan v → IsVlan w → vlan_fields v ≡ vlan_fields w → v ≡ w
vlan_once v w is is' e =
    elim (cases_eq v 1) [
      | inl first ↦
          elim (cases_eq w 1) [
            | inl also ↦ first ∙ sym also
            | inr other ↦ absurd (nothing_apart (sym (nothing_said v first) ∙ e ∙ number_said w other))
          ]
      | inr other ↦
          elim (cases_eq w 1) [
            | inl first ↦ absurd (nothing_apart (sym (nothing_said w first) ∙ sym e ∙ number_said v other))
            | inr also ↦ number_once is is' (sym (number_said v other) ∙ e ∙ number_said w also)
          ]
    ]

-- what stands behind numbers with the same text
behind_same : (ns ms : List ℕ) → (0 < length ns → 0 < length ms → vlans_text ns ≡ vlans_text ms → ns ≡ ms) → tail_text ns ≡ tail_text ms → ns ≡ ms
behind_same [] [] same e = refl
behind_same [] (m ∷ ms) same e = cc
behind_same (n ∷ ns) [] same e = cc
behind_same (n ∷ ns) (m ∷ ms) same e = same (omega arith) (omega arith) (tail_same (n ∷ ns) (m ∷ ms) e)

-- numbers with the same text
pub vlans_once : (ns ms : List ℕ) → All IsVlan ns → All IsVlan ms → 0 < length ns → 0 < length ms → vlans_text ns ≡ vlans_text ms → ns ≡ ms
vlans_once [] ms is is' some some' e = absurd (omega (arith, some))
vlans_once (n ∷ ns) [] is is' some some' e = absurd (omega (arith, some'))
vlans_once (n ∷ ns) (m ∷ ms) is is' some some' e =
    let first = cut (vlans_text (n ∷ ns)) n ns (small n (All-head IsVlan n ns is)) refl in
    let second = cut (vlans_text (n ∷ ns)) m ms (small m (All-head IsVlan m ms is')) e in
    let text : decimal n ≡ decimal m = sym first.0 ∙ second.0 in
    let number : n ≡ m = decimal_injective n m (small n (All-head IsVlan n ns is)) (small m (All-head IsVlan m ms is')) text in
    let rest : tail_text ns ≡ tail_text ms = sym first.1 ∙ second.1 in
    ap₂ (λ (x : ℕ) (xs : List ℕ). x ∷ xs) number (behind_same ns ms (vlans_once ns ms (All-tail IsVlan n ns is) (All-tail IsVlan m ms is')) rest)

trunk_same : {a b : List ℕ} → codes "trunk" ∷ a ∷ [] ≡ codes "trunk" ∷ b ∷ [] → a ≡ b
trunk_same e = cc

trunk_apart : {a b : List ℕ} → codes "trunk" ∷ a ∷ [] ≡ codes "vlan" ∷ b ∷ [] → ⊥
trunk_apart e = first_apart (first_field e) refl
  where
    first_field : {s t : List ℕ} {l m : List (List ℕ)} → s ∷ l ≡ t ∷ m → s ≡ t
    first_field e = cc

abbrev the_trunk : List ℕ → Vlan
the_trunk numbers = Trunk (record { items = numbers })

access_apart : (v : ℕ) (text : List ℕ) → vlan_fields v ≡ codes "trunk" ∷ text ∷ [] → ⊥
access_apart v text e =
    elim (cases_eq v 1) [
      | inl first ↦ nothing_apart (sym (nothing_said v first) ∙ e)
      | inr other ↦ trunk_apart (sym e ∙ number_said v other)
    ]

-- VLANs of ports with the same fields
pub port_vlans_by : (a b : Vlan) → All IsVlan (numbers_of_vlan a) → All IsVlan (numbers_of_vlan b) → 0 < length (numbers_of_vlan a) → 0 < length (numbers_of_vlan b) → port_vlan_fields a ≡ port_vlan_fields b → a ≡ b
port_vlans_by (Access v) (Access w) is is' some some' e = ap (λ (n : ℕ). Access n) (vlan_once v w (All-head IsVlan v [] is) (All-head IsVlan w [] is') e)
port_vlans_by (Access v) (Trunk ws) is is' some some' e = absurd (access_apart v (vlans_text ws.items) e)
port_vlans_by (Trunk vs) (Access w) is is' some some' e = absurd (access_apart w (vlans_text vs.items) (sym e))
port_vlans_by (Trunk vs) (Trunk ws) is is' some some' e = ap the_trunk (vlans_once vs.items ws.items is is' some some' (trunk_same e))

-- numbers with which a trunk begins

pub none_begun : (numbers : List ℕ) → numbers ≡ [] → BeginTrunk numbers
none_begun numbers none = subst BeginTrunk (sym none) (record { vlans = All-nil IsVlan; rising = λ k within. absurd (omega (arith, within)); few = omega arith })

pub one_begun : (vlan : ℕ) → IsVlan vlan → AreVlans (Access vlan)
one_begun vlan is =
    (record { vlans = All-push IsVlan [] vlan (All-nil IsVlan) is; rising = λ k within. absurd (omega (arith, within)); few = omega arith }, omega arith)

pub more_begun : (before grown : List ℕ) (vlan : ℕ) → BeginTrunk before → IsVlan vlan → IsAbove before vlan → length before < 8 → grown ≡ before ++ vlan ∷ [] → BeginTrunk grown
more_begun before grown vlan begun is above few grown_is =
    let size = length-append before (vlan ∷ []) in
    subst BeginTrunk (sym grown_is) (record {
      vlans = All-push IsVlan before vlan begun.vlans is;
      rising = rise_more before vlan begun.rising above;
      few = omega (arith, size, few);
    })

-- the list of a trunk's numbers is read one by one

-- the first of the numbers that are listed, and how the text is cut behind it
pub record IsListCut (before whole text : List ℕ) : Type 0 where
  pub number : ℕ
  pub later : List ℕ
  pub vlan : IsVlan number
  pub above : IsAbove before number
  pub few : length before < 8
  pub whole_is : whole ≡ before ++ number ∷ later
  pub trunk : BeginTrunk whole
  pub front : take (comma_place text) text ≡ decimal number
  pub rest : drop (comma_place text) text ≡ tail_text later

list_cut_of : (before whole text more : List ℕ) → 0 < length more → text ≡ vlans_text more → whole ≡ before ++ more → BeginTrunk whole → IsListCut before whole text
list_cut_of before whole text [] some is whole_is trunk = absurd (omega (arith, some))
list_cut_of before whole text (n ∷ ns) some is whole_is trunk =
    let every : All IsVlan (before ++ n ∷ ns) = subst (λ (all : List ℕ). All IsVlan all) whole_is trunk.vlans in
    let rising : IsStrictlyIncreasing (before ++ n ∷ ns) = subst IsStrictlyIncreasing whole_is trunk.rising in
    let size = length-append before (n ∷ ns) in
    let count = ap length whole_is in
    let most = trunk.few in
    let vlan : IsVlan n = subst IsVlan (get_or_at before n ns 0 (length before) refl) (every (length before) 0 (omega (arith, size))) in
    let parts = cut text n ns (small n vlan) is in
    record {
      number = n;
      later = ns;
      vlan = vlan;
      above = above_of before n ns rising;
      few = omega (arith, size, count, most);
      whole_is = whole_is;
      trunk = trunk;
      front = parts.0;
      rest = parts.1;
    }

pub list_cut : (before whole text : List ℕ) → ListsBehind before whole text → IsListCut before whole text
list_cut before whole text lists = list_cut_of before whole text lists.more lists.some lists.text_is lists.whole_is lists.trunk

-- the last number is read
pub last_listed : (before grown text rest : List ℕ) (vlan : ℕ) → BeginTrunk grown → grown ≡ before ++ vlan ∷ [] → rest ≡ [] → text ≡ decimal vlan ++ rest → ListsBehind before grown text
last_listed before grown text rest vlan begun grown_is none is = record {
  more = vlan ∷ [];
  some = omega arith;
  text_is = is ∙ ap (λ (t : List ℕ). decimal vlan ++ t) none ∙ append-nil (decimal vlan);
  whole_is = grown_is;
  trunk = begun;
}

-- others come behind it
pub more_listed : (before grown whole text rest behind : List ℕ) (vlan : ℕ) → grown ≡ before ++ vlan ∷ [] → rest ≡ comma ∷ behind → text ≡ decimal vlan ++ rest → ListsBehind grown whole behind → ListsBehind before whole text
more_listed before grown whole text rest behind vlan grown_is comma_is is lists =
    record {
      more = vlan ∷ lists.more;
      some = omega arith;
      text_is = is ∙ ap (λ (t : List ℕ). decimal vlan ++ t) (comma_is ∙ behind_comma lists.more behind lists.text_is lists.some) ∙ sym (text_first vlan lists.more);
      whole_is = lists.whole_is ∙ ap (λ (all : List ℕ). all ++ lists.more) grown_is ∙ append_assoc before (vlan ∷ []) lists.more;
      trunk = lists.trunk;
    }

-- where nothing comes behind the number, it is the last one
pub list_ended : (before grown whole text : List ℕ) (vlan : ℕ) (one : IsListCut before whole text) → one.number ≡ vlan → grown ≡ before ++ vlan ∷ [] → drop (comma_place text) text ≡ [] → grown ≡ whole
list_ended before grown whole text vlan one same grown_is empty =
    let later : one.later ≡ [] = no_tail one.later (sym one.rest ∙ empty) in
    grown_is ∙ sym (one.whole_is ∙ ap₂ (λ (n : ℕ) (ns : List ℕ). before ++ n ∷ ns) same later)

-- where others come
pub list_went_on : (before grown whole text behind : List ℕ) (vlan : ℕ) (one : IsListCut before whole text) → one.number ≡ vlan → grown ≡ before ++ vlan ∷ [] → drop (comma_place text) text ≡ comma ∷ behind → ListsBehind grown whole behind
list_went_on before grown whole text behind vlan one same grown_is rest =
    let parts = some_tail one.later behind (sym one.rest ∙ rest) in
    record {
      more = one.later;
      some = parts.1;
      text_is = parts.0;
      whole_is = one.whole_is ∙ ap (λ (n : ℕ). before ++ n ∷ one.later) same ∙ sym (append_assoc before (vlan ∷ []) one.later) ∙ ap (λ (all : List ℕ). all ++ one.later) (sym grown_is);
      trunk = one.trunk;
    }

-- the whole list

pub list_of : (numbers text : List ℕ) → BeginTrunk numbers → 0 < length numbers → text ≡ vlans_text numbers → ListsBehind [] numbers text
list_of numbers text begun some is = record { more = numbers; some = some; text_is = is; whole_is = refl; trunk = begun }

pub of_list : (numbers text : List ℕ) → ListsBehind [] numbers text → (text ≡ vlans_text numbers) × (BeginTrunk numbers × (0 < length numbers))
of_list numbers text lists =
    let same : numbers ≡ lists.more = lists.whole_is in
    (lists.text_is ∙ ap vlans_text (sym same), (lists.trunk, subst (λ (ns : List ℕ). 0 < length ns) (sym same) lists.some))
