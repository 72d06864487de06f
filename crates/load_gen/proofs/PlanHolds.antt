-- The plan of a load is within the limits.
use Rattle.std.proofs.Common.{◌≡◌, ℕ, suc, zero, ◌<◌, ◌≤◌, List, [], ◌∷◌, length, map, replicate, refl, inl, inr, ap, sym, ◌∙◌, arith, subst, lit≤, lit<, All}
use Rattle.std.proofs.lemmas.List.{length-map}
use Rattle.std.proofs.lemmas.Simd.{map-map}
use Rattle.std.proofs.lemmas.List.Elements.{All-nil, All-cons}
use Rattle.std.proofs.lemmas.List.Kept.{AllPairs-cons}
use Rattle.std.specs.List.{AllPairs, flat_map, fold}
use Rattle.std.specs.List.Sorted.{IsStrictlyIncreasing}
use Rattle.std.specs.Ordering.{nat_cmp}
use Rattle.std.specs.BTreeSet.{insert_key}
use Rattle.std.proofs.lemmas.Bool.{false≢true}
use Rattle.savi_kinds.specs.declared.plan.Plan.{Plan}
use Rattle.savi_kinds.specs.declared.plan.PortPlan.{PortPlan}
use Rattle.savi_kinds.specs.declared.plan.PrefixPlan.{PrefixPlan}
use Rattle.savi_kinds.specs.declared.plan.Method.{Method}
use Rattle.savi_kinds.specs.declared.plan.Method.TheVariants.{Fcfs, Dhcp, Mixed}
use Rattle.savi_kinds.specs.declared.plan.Vlan.{Vlan}
use Rattle.savi_kinds.specs.declared.plan.Vlan.TheVariants.{Access}
use Rattle.savi_kinds.specs.declared.address.Prefix.{Prefix}
use Rattle.savi_kinds.specs.Macs.{is_group}
use Rattle.savi_kinds.specs.ValidPlan.{HasPlanVlans, IsValidPlan, IsPlanPrefix, StandsBefore, numbers_of, nets_of}
use Rattle.savi_kinds.specs.Vlans.{IsVlan, is_trunk, numbers_of_vlan, vlans_of_ports}
use Rattle.savi_kinds.proofs.VlanSets.{vlans_by}
use Rattle.load_gen.specs.LoadPlan.{IsLoadPlan, SaidPort, said, load_ports, load_prefixes, site}

numbers_are : (ports : List PortPlan) → map said ports ≡ load_ports → numbers_of ports ≡ 1 ∷ 2 ∷ 3 ∷ 4 ∷ 5 ∷ []
numbers_are ports are = sym (map-map (λ (s : SaidPort). s.number) said ports) ∙ ap (map (λ (s : SaidPort). s.number)) are

rising : IsStrictlyIncreasing (1 ∷ 2 ∷ 3 ∷ 4 ∷ 5 ∷ [])
rising zero within = lit< tt
rising (suc zero) within = lit< tt
rising (suc (suc zero)) within = lit< tt
rising (suc (suc (suc zero))) within = lit< tt
rising (suc (suc (suc (suc n)))) within = absurd (omega (arith, within))

-- each port is an access port of VLAN 1
vlans_are : (ports : List PortPlan) → map said ports ≡ load_ports → map (λ (p : PortPlan). p.vlan) ports ≡ replicate 5 (Access 1)
vlans_are ports are = sym (map-map (λ (s : SaidPort). s.vlan) said ports) ∙ ap (map (λ (s : SaidPort). s.vlan)) are

access_holds : (p : PortPlan) → p.vlan ≡ Access 1 → HasPlanVlans p
access_holds p is = record {
  numbers = subst (λ (vlan : Vlan). All IsVlan (numbers_of_vlan vlan)) (sym is) (All-cons IsVlan 1 [] (lit≤ tt, lit≤ tt) (All-nil IsVlan));
  some = subst (λ (vlan : Vlan). 1 ≤ length (numbers_of_vlan vlan)) (sym is) (lit≤ tt);
  rising = subst (λ (vlan : Vlan). IsStrictlyIncreasing (numbers_of_vlan vlan)) (sym is) (λ k within. absurd (omega (arith, within)));
  trusted = λ trunk. absurd (false≢true (sym (ap is_trunk is) ∙ trunk));
}

heads_same : (x y : Vlan) (xs ys : List Vlan) → x ∷ xs ≡ y ∷ ys → (x ≡ y) × (xs ≡ ys)
heads_same x y xs ys same = (cc, cc)

accesses_hold : (ports : List PortPlan) (n : ℕ) → map (λ (p : PortPlan). p.vlan) ports ≡ replicate n (Access 1) → All HasPlanVlans ports
accesses_hold [] n are = All-nil HasPlanVlans
accesses_hold (p ∷ ports) zero are = absurd (let none : p.vlan ∷ map (λ (q : PortPlan). q.vlan) ports ≡ [] = are in cc)
accesses_hold (p ∷ ports) (suc n) are =
    let both = heads_same p.vlan (Access 1) (map (λ (q : PortPlan). q.vlan) ports) (replicate n (Access 1)) are in
    All-cons HasPlanVlans p ports (access_holds p both.0) (accesses_hold ports n both.1)

one_vlan : (ports : List PortPlan) → map (λ (p : PortPlan). p.vlan) ports ≡ replicate 5 (Access 1) → vlans_of_ports ports ≡ 1 ∷ []
one_vlan ports are = vlans_by ports ∙ ap (λ (vlans : List Vlan). fold (insert_key nat_cmp) [] (flat_map numbers_of_vlan vlans)) are

site_holds : (n : ℕ) (method : Method) → n < 100 → IsPlanPrefix (site n method).prefix
site_holds n method small = record {
  prefix = record { short = lit≤ tt; long = lit≤ tt; net = omega (arith, small) };
  not_link_local = inl (omega (arith, small));
  not_multicast = inl (omega (arith, small));
  not_unspecified = λ lies. omega (arith, lies.0);
  not_loopback = λ lies. omega (arith, lies.0);
}

abbrev one : Prefix
one = (site 1 Fcfs).prefix

abbrev two : Prefix
two = (site 2 Dhcp).prefix

abbrev three : Prefix
three = (site 3 Mixed).prefix

each_holds : All IsPlanPrefix (one ∷ two ∷ three ∷ [])
each_holds =
    All-cons IsPlanPrefix one (two ∷ three ∷ []) (site_holds 1 Fcfs (lit< tt))
    (All-cons IsPlanPrefix two (three ∷ []) (site_holds 2 Dhcp (lit< tt))
    (All-cons IsPlanPrefix three [] (site_holds 3 Mixed (lit< tt)) (All-nil IsPlanPrefix)))

abbrev IsInVlan : PrefixPlan → Type 0
IsInVlan p = IsVlan p.vlan

each_in_vlan : All IsInVlan load_prefixes
each_in_vlan =
    All-cons IsInVlan (site 1 Fcfs) (site 2 Dhcp ∷ site 3 Mixed ∷ []) (lit≤ tt, lit≤ tt)
    (All-cons IsInVlan (site 2 Dhcp) (site 3 Mixed ∷ []) (lit≤ tt, lit≤ tt)
    (All-cons IsInVlan (site 3 Mixed) [] (lit≤ tt, lit≤ tt) (All-nil IsInVlan)))

no_pairs : AllPairs StandsBefore []
no_pairs i j d first within = absurd (omega (arith, within))

in_order : AllPairs StandsBefore load_prefixes
in_order =
    AllPairs-cons StandsBefore (site 1 Fcfs) (site 2 Dhcp ∷ site 3 Mixed ∷ [])
    (All-cons (StandsBefore (site 1 Fcfs)) (site 2 Dhcp) (site 3 Mixed ∷ []) (inr (refl, lit≤ tt)) (All-cons (StandsBefore (site 1 Fcfs)) (site 3 Mixed) [] (inr (refl, lit≤ tt)) (All-nil (StandsBefore (site 1 Fcfs)))))
    (AllPairs-cons StandsBefore (site 2 Dhcp) (site 3 Mixed ∷ [])
    (All-cons (StandsBefore (site 2 Dhcp)) (site 3 Mixed) [] (inr (refl, lit≤ tt)) (All-nil (StandsBefore (site 2 Dhcp))))
    (AllPairs-cons StandsBefore (site 3 Mixed) [] (All-nil (StandsBefore (site 3 Mixed))) no_pairs))

pub load_plan_holds : (plan : Plan) → IsLoadPlan plan → IsValidPlan plan
load_plan_holds plan is =
    let numbers = numbers_are plan.ports is.ports in
    let vlans = vlans_are plan.ports is.ports in
    let size : length plan.ports ≡ 5 = sym (length-map plan.ports said) ∙ ap length is.ports in
    record {
      unicast = ap is_group is.mac;
      per_port = rw is.per_port (lit≤ tt, lit≤ tt);
      depth = rw is.depth (lit≤ tt, lit≤ tt);
      entries = rw is.entries (lit≤ tt, lit≤ tt);
      bytes = rw is.bytes (lit≤ tt, lit≤ tt);
      gap = rw is.gap (lit≤ tt, lit≤ tt);
      test = rw is.test (lit≤ tt, lit≤ tt);
      gap_first = rw (is.gap, is.test) (lit< tt);
      life = (300, is.life, (lit≤ tt, lit≤ tt));
      port_count = rw size (lit≤ tt, lit≤ tt);
      ports = subst (λ (xs : List ℕ). IsStrictlyIncreasing xs) (sym numbers) rising;
      port_vlans = accesses_hold plan.ports 5 vlans;
      vlan_count = subst (λ (vs : List ℕ). length vs ≤ 8) (sym (one_vlan plan.ports vlans)) (lit≤ tt);
      prefix_count = rw is.prefixes (lit≤ tt);
      plan_prefixes = subst (λ (ps : List PrefixPlan). All IsPlanPrefix (nets_of ps)) (sym is.prefixes) each_holds;
      prefix_vlans = subst (λ (ps : List PrefixPlan). All IsInVlan ps) (sym is.prefixes) each_in_vlan;
      prefixes = subst (λ (ps : List PrefixPlan). AllPairs StandsBefore ps) (sym is.prefixes) in_order;
    }
