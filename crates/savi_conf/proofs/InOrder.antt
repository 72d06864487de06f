-- Things in the order in which tables say them, and sorted.
use Rattle.std.proofs.Common.{◌≡◌, ◌≢◌, ◌≤◌, ◌<◌, ◌+◌, ◌-◌, ℕ, ℤ, pos, Bool, true, false, List, [], ◌∷◌, ◌++◌, Some, length, take, get_or, map, sym, ap, ◌∙◌, inl, inr, arith, true≢false, lt-ltb, eq-eqb, Ordering}
use Rattle.std.specs.Cmp.{IsStrictWeakOrder}
use Rattle.std.specs.List.{All, AllPairs, Contains}
use Rattle.std.specs.List.Sorted.{IsPermutation, IsNonDecreasingBy, IsSortedBy, IsStrictlyIncreasing}
use Rattle.std.specs.Ordering.{is_lt, nat_cmp, ordering_then}
use Rattle.std.proofs.lemmas.Bool.{cases_lt, cases_order, le-ltb}
use Rattle.std.proofs.lemmas.Cmp.{nat_cmp_total, on_total, then_total}
use Rattle.std.proofs.lemmas.Map.Keys.{ge_from_not_lt}
use Rattle.std.proofs.lemmas.List.{take_more, get_or_push, get_or-map, length-map, length-append}
use Rattle.std.proofs.Math.ListN.{get_or-append}
use Rattle.std.proofs.lemmas.Nat.{pow_pos}
use Rattle.std.proofs.lemmas.List.Elements.{All-map}
use Rattle.std.proofs.lemmas.List.Sorted.{length_permutation, All-permutation, ranks_by, sorted_far}
use Rattle.toml.specs.Data.{Members}
use Rattle.savi_kinds.specs.declared.address.Prefix.{Prefix}
use Rattle.savi_kinds.specs.declared.plan.PortPlan.{PortPlan}
use Rattle.savi_kinds.specs.declared.plan.PrefixPlan.{PrefixPlan}
use Rattle.savi_kinds.specs.Ports.{number_of}
use Rattle.savi_kinds.specs.Prefixes.{AreApart, first_of, past_of}
use Rattle.savi_kinds.specs.ValidPlan.{HasPlanVlans, IsPlanPrefix, StandsBefore, nets_of, numbers_of}
use Rattle.savi_kinds.specs.Vlans.{IsVlan, numbers_of_vlan, vlans_of_ports}
use Rattle.savi_conf.specs.PlanOf.{IsPortOf, IsPrefixOf, Lists, SayInOrder}
use Rattle.savi_conf.specs.Requirements.{number_in, vlan_in, vlans_in, AreFewVlans, HasTrunkRole, TellsPlanPrefix, HaveApartRanges}
use Rattle.savi_conf.specs.Told.{CanSayPort, CanSayPrefix}
use Rattle.savi_conf.proofs.Listed.{All-unmap}
use Rattle.savi_conf.proofs.MetLemmas.{within_from}
use Rattle.savi_conf.proofs.Pairs.{EachTwo, EachTwo-from, EachTwo-permutation}
use Rattle.savi_conf.proofs.VlansSaid.{few_said, numbers_said, plan_vlans_said}
use Rattle.savi_conf.proofs.PartsLemmas.{Seen, view_of}

-- one more table and what it says
pub SayInOrder-more : {T A : Type 0} (Says : T → A → Type 0) (ts : List T) (things : List A) (i : ℕ) (t : T) (a : A) → i < length ts → t ≡ get_or ts i t → SayInOrder Says (take i ts) things → Says t a → SayInOrder Says (take (i + 1) ts) (things ++ a ∷ [])
SayInOrder-more Says ts things i t a within is before here =
    let more : take (i + 1) ts ≡ take i ts ++ t ∷ [] = rw (take_more ts i t within, ← is) in
    rw more (record {
      count = rw (length-append, length-append) (omega (arith, before.count));
      each = λ k t' a' in-as. elim (cases_lt k (length things)) [
        | inl earlier ↦ rw (get_or-append (take i ts) (t ∷ []) t' k (omega (arith, before.count)), get_or-append things (a ∷ []) a' k earlier) (before.each k t' a' earlier)
        | inr last ↦
            let len : length (things ++ a ∷ []) ≡ length things + 1 = rw length-append in
            let at : length things ≡ k = omega (arith, len) in
            let at' : length (take i ts) ≡ k = omega (arith, before.count) in
            rw (get_or_push (take i ts) t t' k at', get_or_push things a a' k at) here
      ];
    })

-- what the tables behind references say is what they say
pub SayInOrder-map : {T U A : Type 0} (Says : U → A → Type 0) (f : T → U) (ts : List T) (things : List A) → SayInOrder (λ t a. Says (f t) a) ts things → SayInOrder Says (map f ts) things
SayInOrder-map Says f [] things order = record { count = order.count; each = λ k u a within. absurd (omega (arith, order.count)) }
SayInOrder-map Says f (t ∷ ts) things order = record {
  count = order.count ∙ sym (length-map (t ∷ ts) f);
  each = λ k u a within.
      let there : k < length (t ∷ ts) = omega (arith, order.count) in
      rw (get_or-map f (t ∷ ts) k t u there) (order.each k t a within);
}

-- what follows of a thing from what holds of the table that says it
pub all_said : {T A : Type 0} (Says : T → A → Type 0) (P : T → Type 0) (Q : A → Type 0) → ((t : T) (a : A) → P t → Says t a → Q a) → (ts : List T) (things : List A) → SayInOrder Says ts things → All P ts → All Q things
all_said Says P Q step [] things order all = λ k a within. absurd (omega (arith, order.count))
all_said Says P Q step (t ∷ ts) things order all = λ k a within.
    let there : k < length (t ∷ ts) = omega (arith, order.count) in
    step (get_or (t ∷ ts) k t) (get_or things k a) (all k t there) (order.each k t a within)

pub pairs_said : {T A : Type 0} (Says : T → A → Type 0) (R : T → T → Type 0) (S : A → A → Type 0) → ((t u : T) (a b : A) → R t u → Says t a → Says u b → S a b) → (ts : List T) (things : List A) → SayInOrder Says ts things → AllPairs R ts → AllPairs S things
pairs_said Says R S step [] things order pairs = λ i j a less within. absurd (omega (arith, order.count))
pairs_said Says R S step (t ∷ ts) things order pairs = λ i j a less within.
    let there : j < length (t ∷ ts) = omega (arith, order.count) in
    let first : i < length things = omega arith in
    step (get_or (t ∷ ts) i t) (get_or (t ∷ ts) j t) (get_or things i a) (get_or things j a) (pairs i j t less there) (order.each i t a first) (order.each j t a within)

-- ---- ports

abbrev pub SaysPort : Seen → PortPlan → Type 0
SaysPort t p = IsPortOf (view_of t) p

abbrev number : PortPlan → ℕ
number p = number_of p.number

numbers_differ : (t u : Seen) (p q : PortPlan) → number_in (view_of t) ≢ number_in (view_of u) → SaysPort t p → SaysPort u q → number p ≢ number q
numbers_differ t u p q differ one other = λ same. differ (one.number ∙ ap (λ (n : ℕ). Some (pos n)) same ∙ sym other.number)

-- numbers that never fall, no two of them the same, rise
rising : (xs : List PortPlan) → IsNonDecreasingBy number xs → EachTwo (λ p q. number p ≢ number q) xs → IsStrictlyIncreasing (numbers_of xs)
rising [] order differ = λ k within. absurd (omega arith)
rising (x ∷ xs) order differ = λ k within.
    let len : length (numbers_of (x ∷ xs)) ≡ length (x ∷ xs) = length-map (x ∷ xs) number in
    let second : k + 1 < length (x ∷ xs) = omega (arith, len) in
    let first : k < length (x ∷ xs) = omega arith in
    let here : get_or (numbers_of (x ∷ xs)) k 0 ≡ number (get_or (x ∷ xs) k x) = get_or-map number (x ∷ xs) k x 0 first in
    let there : get_or (numbers_of (x ∷ xs)) (k + 1) 0 ≡ number (get_or (x ∷ xs) (k + 1) x) = get_or-map number (x ∷ xs) (k + 1) x 0 second in
    let most : number (get_or (x ∷ xs) k x) ≤ number (get_or (x ∷ xs) (k + 1) x) = order k (k + 1) x (omega arith) second in
    let apart : number (get_or (x ∷ xs) k x) ≢ number (get_or (x ∷ xs) (k + 1) x) = differ k (k + 1) x first second (omega arith) in
    rw (here, there) (omega (arith, most, apart))

pub ports_rise : (ts : List Seen) (things bs : List PortPlan) → SayInOrder SaysPort ts things → IsPermutation things bs → IsNonDecreasingBy number bs → AllPairs (λ t u. number_in (view_of t) ≢ number_in (view_of u)) ts → IsStrictlyIncreasing (numbers_of bs)
ports_rise ts things bs order permutation sorted differ =
    let R : PortPlan → PortPlan → Type 0 = λ p q. number p ≢ number q in
    let pairs = pairs_said SaysPort (λ t u. number_in (view_of t) ≢ number_in (view_of u)) R numbers_differ ts things order differ in
    rising bs sorted (EachTwo-permutation R things bs permutation (EachTwo-from R (λ p q apart same. apart (sym same)) things pairs))

pub ports_have_vlans : (ts : List Seen) (things bs : List PortPlan) → SayInOrder SaysPort ts things → IsPermutation things bs → All (λ t. CanSayPort (view_of t)) ts → All (λ t. HasTrunkRole (view_of t)) ts → All HasPlanVlans bs
ports_have_vlans ts things bs order permutation can trusted =
    let P : Seen → Type 0 = λ t. CanSayPort (view_of t) × HasTrunkRole (view_of t) in
    let each = all_said SaysPort P HasPlanVlans (λ t p here says. plan_vlans_said (view_of t) p here.0.vlans here.1 says) ts things order (λ k d within. (can k d within, trusted k d within)) in
    All-permutation HasPlanVlans things bs permutation each

pub ports_have_few : (ts : List Seen) (things bs : List PortPlan) → SayInOrder SaysPort ts things → IsPermutation things bs → AreFewVlans (map (λ t. vlans_in (view_of t)) ts) → length (vlans_of_ports bs) ≤ 8
ports_have_few ts things bs order permutation few =
    let Among : ℤ → Type 0 = λ z. Contains few.vlans z in
    let Q : PortPlan → Type 0 = λ p. All (λ (v : ℕ). Contains few.vlans (pos v)) (numbers_of_vlan p.vlan) in
    let each =
    all_said SaysPort (λ t. All Among (vlans_in (view_of t))) Q (λ t p here says. numbers_said Among (view_of t) p.vlan here says.vlan) ts things order
    (All-unmap (λ zs. All Among zs) (λ t. vlans_in (view_of t)) ts few.among) in
    few_said bs few.vlans few.few (All-permutation Q things bs permutation each)

-- ---- prefixes

abbrev pub SaysPrefix : Seen → PrefixPlan → Type 0
SaysPrefix t p = IsPrefixOf (view_of t) p

pub are_plan_prefixes : (ts : List Seen) (things bs : List PrefixPlan) → SayInOrder SaysPrefix ts things → IsPermutation things bs → All (λ t. TellsPlanPrefix (view_of t)) ts → All IsPlanPrefix (nets_of bs)
are_plan_prefixes ts things bs order permutation hosts =
    let Q : PrefixPlan → Type 0 = λ p. IsPlanPrefix p.prefix in
    let each = all_said SaysPrefix (λ t. TellsPlanPrefix (view_of t)) Q (λ t p host says. host.each p.prefix says.range) ts things order hosts in
    All-map IsPlanPrefix (λ p. p.prefix) bs (All-permutation Q things bs permutation each)

pub are_prefix_vlans : (ts : List Seen) (things bs : List PrefixPlan) → SayInOrder SaysPrefix ts things → IsPermutation things bs → All (λ t. CanSayPrefix (view_of t)) ts → All (λ (p : PrefixPlan). IsVlan p.vlan) bs
are_prefix_vlans ts things bs order permutation can =
    let Q : PrefixPlan → Type 0 = λ p. IsVlan p.vlan in
    let each = all_said SaysPrefix (λ t. CanSayPrefix (view_of t)) Q (λ t p here says. within_from 1 4094 p.vlan _ (sym says.vlan) here.vlan) ts things order can in
    All-permutation Q things bs permutation each

-- no address of one VLAN lies in both
abbrev Apart : PrefixPlan → PrefixPlan → Type 0
Apart p q = p.vlan ≡ q.vlan → AreApart p.prefix q.prefix

turned : (p q : PrefixPlan) → Apart p q → Apart q p
turned p q apart same =
    elim (apart (sym same)) [
      | inl before ↦ inr before
      | inr behind ↦ inl behind
    ]

-- of two prefixes that are apart the one that begins first ends before the other begins
ends_first : (p q : Prefix) → first_of p ≤ first_of q → AreApart p q → past_of p ≤ first_of q
ends_first p q first (inl before) = before
ends_first p q first (inr behind) = absurd (omega (arith, behind, pow_pos (128 - q.len)))

-- the order by VLAN and address
abbrev pub place : PrefixPlan → ℕ × ℕ
place p = (p.vlan, first_of p.prefix)

abbrev pub place_cmp : ℕ × ℕ → ℕ × ℕ → Ordering
place_cmp x y = ordering_then (nat_cmp x.0 y.0) (nat_cmp x.1 y.1)

abbrev pub is_lower : PrefixPlan → PrefixPlan → Bool
is_lower p q = is_lt (place_cmp (place p) (place q))

places_order : IsStrictWeakOrder is_lower
places_order = ranks_by (then_total (on_total (λ (x : ℕ × ℕ). x.0) nat_cmp_total) (on_total (λ (x : ℕ × ℕ). x.1) nat_cmp_total)) place

stands_before : (p q : PrefixPlan) → is_lower q p ≡ false → Apart p q → StandsBefore p q
stands_before p q not apart =
    elim (cases_order p.vlan q.vlan) [
      | inl same ↦
          let lower : is_lt (nat_cmp (first_of q.prefix) (first_of p.prefix)) ≡ false = rw (le-ltb q.vlan p.vlan (omega (arith, same)), eq-eqb q.vlan p.vlan (sym same)) at not in
          inr (same, ends_first p.prefix q.prefix (ge_from_not_lt (first_of q.prefix) (first_of p.prefix) lower) (apart same))
      | inr (inl less) ↦ inl less
      | inr (inr more) ↦ let first : true ≡ false = rw (lt-ltb q.vlan p.vlan more) at not in absurd (true≢false first)
    ]

vlans_said : (t u : Seen) (p q : PrefixPlan) → IsPrefixOf (view_of t) p → IsPrefixOf (view_of u) q → p.vlan ≡ q.vlan → vlan_in (view_of t) ≡ vlan_in (view_of u)
vlans_said t u p q one other same = one.vlan ∙ ap (λ (n : ℕ). pos n) same ∙ sym other.vlan

pub prefixes_in_order : (ts : List Seen) (things bs : List PrefixPlan) → SayInOrder SaysPrefix ts things → IsPermutation things bs → IsSortedBy is_lower bs → AllPairs (λ t u. HaveApartRanges (view_of t) (view_of u)) ts → AllPairs StandsBefore bs
prefixes_in_order ts things bs order permutation sorted apart =
    let pairs =
    pairs_said SaysPrefix (λ t u. HaveApartRanges (view_of t) (view_of u)) Apart
    (λ t u p q ranges one other same. ranges.each (vlans_said t u p q one other same) p.prefix q.prefix one.range other.range) ts things order apart in
    let each = EachTwo-permutation Apart things bs permutation (EachTwo-from Apart turned things pairs) in
    λ i j d less within.
    stands_before (get_or bs i d) (get_or bs j d) (sorted_far is_lower places_order bs sorted i j d (omega (arith, less)) within) (each i j d (omega arith) within (omega arith))

-- as many things are listed as there are tables
pub listed_count : {A : Type 0} (Says : Members → A → Type 0) (tables : List Members) (things : List A) → Lists Says tables things → length things ≡ length tables
listed_count Says tables things lists = length_permutation lists.said things lists.permutation ∙ lists.in_order.count
