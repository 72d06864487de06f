-- The VLANs of the ports that tables say.
use Rattle.std.proofs.Common.{ℕ, ℤ, pos, ◌≡◌, ◌≢◌, ◌≤◌, ◌<◌, ◌+◌, true, List, [], ◌∷◌, Option, Some, None, IsSome, IsSomeAnd, map, length, get_or, unwrap_or, refl, sym, ap, ◌∙◌, subst, arith}
use Rattle.std.specs.List.{All, AllPairs, Contains}
use Rattle.std.specs.List.Sorted.{IsNonDecreasing, IsPermutation, IsStrictlyIncreasing}
use Rattle.std.proofs.lemmas.Bool.{false≢true}
use Rattle.std.proofs.lemmas.List.{length-map}
use Rattle.std.proofs.lemmas.List.Elements.{All-nil, All-cons, All-head, All-map}
use Rattle.std.proofs.lemmas.List.Kept.{AllPairs-from_increasing}
use Rattle.std.proofs.lemmas.List.Sorted.{length_permutation, All-permutation, IsPermutation-map}
use Rattle.toml.specs.Data.{Members}
use Rattle.savi_kinds.specs.declared.plan.PortPlan.{PortPlan}
use Rattle.savi_kinds.specs.declared.plan.Role.{Role}
use Rattle.savi_kinds.specs.declared.plan.Role.TheVariants.{Host, Server, Trusted}
use Rattle.savi_kinds.specs.declared.plan.Vlan.{Vlan}
use Rattle.savi_kinds.specs.declared.plan.Vlan.TheVariants.{Access, Trunk}
use Rattle.savi_kinds.specs.PlanWords.{role_word}
use Rattle.savi_kinds.specs.ValidPlan.{HasPlanVlans}
use Rattle.savi_kinds.specs.Vlans.{IsVlan, is_trunk, numbers_of_vlan, vlans_of_ports}
use Rattle.savi_kinds.proofs.VlanSets.{vlans_all, vlans_rise}
use Rattle.savi_conf.specs.PlanOf.{IsPortOf, SaysVlan}
use Rattle.savi_conf.specs.Requirements.{AreVlanNumbers, HasTrunkRole, IsBetween, trunk_in, vlan_in, vlans_in}
use Rattle.savi_conf.proofs.Distinct.{different_among}
use Rattle.savi_conf.proofs.Listed.{All-unmap, AllPairs-map, AllPairs-unmap}
use Rattle.savi_conf.proofs.MetLemmas.{within_from}
use Rattle.savi_conf.proofs.Pairs.{EachTwo-from, EachTwo-permutation}

-- the number of a VLAN as an integer
abbrev pub number_of_vlan : ℕ → ℤ
number_of_vlan v = pos v

-- what holds of each number that a table has for its port's VLANs holds of those that it says
of_trunk : (P : ℤ → Type 0) (o : Option (List ℤ)) (others : List ℤ) (vs : List ℕ) → All P (unwrap_or o others) → IsSomeAnd o (λ zs. IsPermutation zs (map number_of_vlan vs)) → All (λ v. P (number_of_vlan v)) vs
of_trunk P None others vs each said = absurd said
of_trunk P (Some zs) others vs each said = All-unmap P number_of_vlan vs (All-permutation P zs (map number_of_vlan vs) said each)

pub numbers_said : (P : ℤ → Type 0) (t : Members) (vlan : Vlan) → All P (vlans_in t) → SaysVlan t vlan → All (λ v. P (number_of_vlan v)) (numbers_of_vlan vlan)
numbers_said P t (Access v) each said =
    let one : vlans_in t ≡ vlan_in t ∷ [] = ap (λ (o : Option (List ℤ)). unwrap_or o (vlan_in t ∷ [])) said.0 in
    let first : P (vlan_in t) = All-head P (vlan_in t) [] (subst (λ (zs : List ℤ). All P zs) one each) in
    All-cons (λ (n : ℕ). P (number_of_vlan n)) v [] (subst P said.1 first) (All-nil (λ (n : ℕ). P (number_of_vlan n)))
numbers_said P t (Trunk vs) each said = of_trunk P (trunk_in t) (vlan_in t ∷ []) vs.items each said.0

-- the numbers of a table with a trunk, and of one without
pub trunk_numbers : (t : Members) (zs : List ℤ) → Some zs ≡ trunk_in t → vlans_in t ≡ zs
trunk_numbers t zs told = ap (λ (o : Option (List ℤ)). unwrap_or o (vlan_in t ∷ [])) (sym told)

pub access_numbers : (t : Members) → None ≡ trunk_in t → vlans_in t ≡ vlan_in t ∷ []
access_numbers t told = ap (λ (o : Option (List ℤ)). unwrap_or o (vlan_in t ∷ [])) (sym told)

pub says_trunk : (o : Option (List ℤ)) (zs : List ℤ) (P : List ℤ → Type 0) → Some zs ≡ o → P zs → IsSomeAnd o P
says_trunk o zs P told holds = subst (λ (x : Option (List ℤ)). IsSomeAnd x P) told holds

-- and there are as many
count_of_trunk : (o : Option (List ℤ)) (others : List ℤ) (vs : List ℕ) → IsSomeAnd o (λ zs. IsPermutation zs (map number_of_vlan vs)) → length (unwrap_or o others) ≡ length vs
count_of_trunk None others vs said = absurd said
count_of_trunk (Some zs) others vs said = sym (sym (length-map vs number_of_vlan) ∙ length_permutation zs (map number_of_vlan vs) said)

some_said : (t : Members) (vlan : Vlan) → 1 ≤ length (vlans_in t) → SaysVlan t vlan → 1 ≤ length (numbers_of_vlan vlan)
some_said t (Access v) some said = omega arith
some_said t (Trunk vs) some said = omega (arith, some, count_of_trunk (trunk_in t) (vlan_in t ∷ []) vs.items said.0)

rising_said : (t : Members) (vlan : Vlan) → SaysVlan t vlan → IsStrictlyIncreasing (numbers_of_vlan vlan)
rising_said t (Access v) said = λ k within. absurd (omega (arith, within))
rising_said t (Trunk vs) said = said.1

is_vlan : (v : ℕ) → IsBetween 1 4094 (number_of_vlan v) → IsVlan v
is_vlan v between = within_from 1 4094 v (number_of_vlan v) refl between

-- ---- trunks are trusted

first : List ℕ → ℕ
first text = get_or text 0 0

trusted_word : (role : Role) → role_word role ≡ role_word Trusted → role ≡ Trusted
unfolding first
trusted_word Host e = absurd (omega (arith, ap first e))
trusted_word Server e = absurd (omega (arith, ap first e))
trusted_word Trusted e = refl

is_told : (o : Option (List ℤ)) (P : List ℤ → Type 0) → IsSomeAnd o P → IsSome o
is_told None P some = absurd some
is_told (Some zs) P some = refl

trunk_told : (t : Members) (vlan : Vlan) → SaysVlan t vlan → is_trunk vlan ≡ true → IsSome (trunk_in t)
trunk_told t (Access v) said trunk = absurd (false≢true trunk)
trunk_told t (Trunk vs) said trunk = is_told (trunk_in t) (λ zs. IsPermutation zs (map number_of_vlan vs.items)) said.0

role_said : (t : Members) (p : PortPlan) → HasTrunkRole t → IsPortOf t p → is_trunk p.vlan ≡ true → p.role ≡ Trusted
role_said t p role says trunk =
    let both : Some (role_word p.role) ≡ Some (role_word Trusted) = sym says.role ∙ role.trusted (trunk_told t p.vlan says.vlan trunk) in
    let same : role_word p.role ≡ role_word Trusted = cc in
    trusted_word p.role same

pub plan_vlans_said : (t : Members) (p : PortPlan) → AreVlanNumbers (vlans_in t) → HasTrunkRole t → IsPortOf t p → HasPlanVlans p
plan_vlans_said t p numbers role says = record {
  numbers = λ k d within. is_vlan (get_or (numbers_of_vlan p.vlan) k d) (numbers_said (IsBetween 1 4094) t p.vlan numbers.range says.vlan k d within);
  some = some_said t p.vlan numbers.some says.vlan;
  rising = rising_said t p.vlan says.vlan;
  trusted = role_said t p role says;
}

-- ---- the numbers of a trunk, sorted

pub numbers_sorted : (zs : List ℤ) (vs ws : List ℕ) → map number_of_vlan vs ≡ zs → IsPermutation vs ws → IsPermutation zs (map number_of_vlan ws)
numbers_sorted zs vs ws are sorted = subst (λ (ys : List ℤ). IsPermutation ys (map number_of_vlan ws)) are (IsPermutation-map number_of_vlan vs ws sorted)

numbers_apart : (zs : List ℤ) (vs : List ℕ) → map number_of_vlan vs ≡ zs → AllPairs (λ y z. y ≢ z) zs → AllPairs (λ m n. m ≢ n) vs
numbers_apart zs vs are different =
    let images = AllPairs-unmap (λ y z. y ≢ z) number_of_vlan vs (subst (λ (ys : List ℤ). AllPairs (λ y z. y ≢ z) ys) (sym are) different) in
    λ i j d less within same. images i j d less within (ap number_of_vlan same)

pub numbers_rise : (zs : List ℤ) (vs ws : List ℕ) → map number_of_vlan vs ≡ zs → AllPairs (λ y z. y ≢ z) zs → IsPermutation vs ws → IsNonDecreasing ws → IsStrictlyIncreasing ws
numbers_rise zs vs ws are different sorted order =
    let apart = EachTwo-permutation (λ m n. m ≢ n) vs ws sorted (EachTwo-from (λ m n. m ≢ n) (λ m n other same. other (sym same)) vs (numbers_apart zs vs are different)) in
    λ k within.
    let most : get_or ws k 0 ≤ get_or ws (k + 1) 0 = order k (k + 1) 0 (omega arith) within in
    let other : get_or ws k 0 ≢ get_or ws (k + 1) 0 = apart k (k + 1) 0 (omega (arith, within)) within (omega arith) in
    omega (arith, most, other)

-- ---- the VLANs of all ports are few

pos_apart : (m n : ℕ) → m < n → number_of_vlan m ≢ number_of_vlan n
pos_apart m n less same = let e : m ≡ n = cc in omega (arith, less, e)

pub few_said : (ports : List PortPlan) (vlans : List ℤ) → length vlans ≤ 8 → All (λ (p : PortPlan). All (λ v. Contains vlans (number_of_vlan v)) (numbers_of_vlan p.vlan)) ports → length (vlans_of_ports ports) ≤ 8
few_said ports vlans few among =
    let all = vlans_of_ports ports in
    let each : All (Contains vlans) (map number_of_vlan all) = All-map (Contains vlans) number_of_vlan all (vlans_all (λ v. Contains vlans (number_of_vlan v)) ports among) in
    let rising = AllPairs-from_increasing all (vlans_rise ports) in
    let different : AllPairs (λ y z. y ≢ z) (map number_of_vlan all) =
    AllPairs-map (λ y z. y ≢ z) number_of_vlan all (λ i j d less within. pos_apart (get_or all i d) (get_or all j d) (rising i j d less within)) in
    omega (arith, few, different_among (map number_of_vlan all) vlans different each, length-map all number_of_vlan)
