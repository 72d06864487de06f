-- A table of the places of ports, by their numbers.
use Rattle.std.proofs.Common.{ℕ, zero, suc, replicate, ◌≡◌, ◌≢◌, ◌+◌, ◌<◌, ◌≤◌, ◌==◌, true, false, Option, Some, None, IfSome, IfNone, Bor, List, [], ◌∷◌, length, get_or, set, inl, inr, refl, sym, ap, ◌∙◌, arith, length-set, get_or-set_same, get_or-set_other}
use Rattle.std.specs.List.{list_any}
use Rattle.std.proofs.lemmas.List.Folds.{list_any_at}
use Rattle.std.proofs.lemmas.Bool.{cases_Bool, cases_eq, eq-eqb, false≢true, cond-true, cond-false, le-ltb, lt-ltb}
use Rattle.std.specs.Slice.{IsItemAt}
use Rattle.savi_kinds.specs.declared.plan.Plan.{Plan}
use Rattle.savi_kinds.specs.declared.plan.PortPlan.{PortPlan}
use Rattle.savi_kinds.specs.Ports.{number_of}
use Rattle.savi_kinds.specs.Vlans.{vlan_among}
use Rattle.savi_kinds.specs.ValidPlan.{numbers_of}
use Rattle.savi_history.specs.Passes.{has_port, place_among, place_of, role_among, role_of}
use Rattle.savi_history.proofs.PortPlaces.{placed_among}
use Rattle.savi_core.proofs.Places.{absent, has_port-place}

-- the places of the first of these numbers stand in the table, and at all others how many numbers there are
pub record HasPlaces (ns : List ℕ) (count : ℕ) (places : List ℕ) : Type 0 where
  pub size : length places ≡ 17
  pub done : (k : ℕ) → k < count → get_or places (get_or ns k 0) 0 ≡ k
  pub others : (n : ℕ) → n < 17 → ((k : ℕ) → k < count → get_or ns k 0 ≢ n) → get_or places n 0 ≡ length ns

full : (size n c : ℕ) → n < size → get_or (replicate size c) n 0 ≡ c
full zero n c within = absurd (omega (arith, within))
full (suc size) zero c within = refl
full (suc size) (suc n) c within = full size n c (omega (arith, within))

pub no_places : (ns : List ℕ) (count : ℕ) → count ≡ length ns → HasPlaces ns 0 (replicate 17 count)
no_places ns count all = record {
  size = refl;
  done = λ k below. absurd (omega (arith, below));
  others = λ n within none. full 17 n count within ∙ all;
}

pub place_put : (ns : List ℕ) (i n : ℕ) (places : List ℕ) → i < length ns → get_or ns i 0 ≡ n → n ≤ 16 → ((j k : ℕ) → j < length ns → k < length ns → j ≢ k → get_or ns j 0 ≢ get_or ns k 0) → HasPlaces ns i places → HasPlaces ns (i + 1) (set places n i)
place_put ns i n places within number_is small apart was = record {
  size = length-set places n i ∙ was.size;
  done = λ k below. elim (cases_eq k i) [
    | inl same ↦
        ap (λ (j : ℕ). get_or (set places n i) (get_or ns j 0) 0) same ∙ ap (λ (m : ℕ). get_or (set places n i) m 0) number_is
        ∙ get_or-set_same places n i 0 (omega (arith, was.size, small)) ∙ sym same
    | inr other ↦
        let before : k < i = omega (arith, below, other) in
        get_or-set_other places n (get_or ns k 0) i 0 (λ same. apart k i (omega (arith, before, within)) within other (same ∙ sym number_is)) ∙ was.done k before
  ];
  others = λ m inside none.
      get_or-set_other places n m i 0 (λ same. none i (omega arith) (number_is ∙ sym same)) ∙ was.others m inside (λ k below. none k (omega (arith, below)));
}

-- so each number finds its place there
pub place_read : (ns : List ℕ) (places : List ℕ) (number : ℕ) → number ≤ 16 → HasPlaces ns (length ns) places → get_or places number 0 ≡ place_among ns number
place_read ns places number small all =
    elim (cases_Bool (list_any (λ n. n == number) ns)) [
      | inl known ↦
          let place = placed_among ns number known in
          ap (λ (n : ℕ). get_or places n 0) (sym place.number_is) ∙ all.done (place_among ns number) place.within
      | inr unknown ↦
          all.others number (omega arith) (λ k below same. false≢true (sym unknown ∙ list_any_at (λ n. n == number) ns k 0 below (eq-eqb (get_or ns k 0) number same)))
          ∙ sym (absent ns number unknown)
    ]

-- a place is at most as many as there are
pub place_most : (ns : List ℕ) (number : ℕ) → place_among ns number ≤ length ns
place_most [] number = omega arith
place_most (n ∷ ns) number =
    elim (cases_Bool (n == number)) [
      | inl here ↦ let e : place_among (n ∷ ns) number ≡ 0 = cond-true (n == number) 0 (suc (place_among ns number)) here in omega arith
      | inr other ↦ let e : place_among (n ∷ ns) number ≡ suc (place_among ns number) = cond-false (n == number) 0 (suc (place_among ns number)) other in omega (arith, place_most ns number)
    ]

-- the role of the port at its place
pub role_at : (ports : List PortPlan) (number : ℕ) (d : PortPlan) → place_among (numbers_of ports) number < length ports → (get_or ports (place_among (numbers_of ports) number) d).role ≡ role_among ports number
role_at [] number d within = absurd (omega (arith, within))
role_at (p ∷ ports) number d within =
    elim (cases_Bool (number_of p.number == number)) [
      | inl here ↦
          let e : place_among (numbers_of (p ∷ ports)) number ≡ 0 = cond-true (number_of p.number == number) 0 (suc (place_among (numbers_of ports) number)) here in
          ap (λ (k : ℕ). (get_or (p ∷ ports) k d).role) e ∙ sym (cond-true (number_of p.number == number) p.role (role_among ports number) here)
      | inr other ↦
          let e : place_among (numbers_of (p ∷ ports)) number ≡ suc (place_among (numbers_of ports) number) = cond-false (number_of p.number == number) 0 (suc (place_among (numbers_of ports) number)) other in
          ap (λ (k : ℕ). (get_or (p ∷ ports) k d).role) e ∙ role_at ports number d (omega (arith, within, e)) ∙ sym (cond-false (number_of p.number == number) p.role (role_among ports number) other)
    ]

-- the VLANs of the port at its place
pub vlan_at : (ports : List PortPlan) (number : ℕ) (d : PortPlan) → place_among (numbers_of ports) number < length ports → Some (get_or ports (place_among (numbers_of ports) number) d).vlan ≡ vlan_among ports number
vlan_at [] number d within = absurd (omega (arith, within))
vlan_at (p ∷ ports) number d within =
    elim (cases_Bool (number_of p.number == number)) [
      | inl here ↦
          let e : place_among (numbers_of (p ∷ ports)) number ≡ 0 = cond-true (number_of p.number == number) 0 (suc (place_among (numbers_of ports) number)) here in
          ap (λ (k : ℕ). Some (get_or (p ∷ ports) k d).vlan) e ∙ sym (cond-true (number_of p.number == number) (Some p.vlan) (vlan_among ports number) here)
      | inr other ↦
          let e : place_among (numbers_of (p ∷ ports)) number ≡ suc (place_among (numbers_of ports) number) = cond-false (number_of p.number == number) 0 (suc (place_among (numbers_of ports) number)) other in
          ap (λ (k : ℕ). Some (get_or (p ∷ ports) k d).vlan) e ∙ vlan_at ports number d (omega (arith, within, e)) ∙ sym (cond-false (number_of p.number == number) (Some p.vlan) (vlan_among ports number) other)
    ]

pub vlan_none : (ports : List PortPlan) (number : ℕ) → length ports ≤ place_among (numbers_of ports) number → None ≡ vlan_among ports number
vlan_none [] number past = refl
vlan_none (p ∷ ports) number past =
    elim (cases_Bool (number_of p.number == number)) [
      | inl here ↦
          let e : place_among (numbers_of (p ∷ ports)) number ≡ 0 = cond-true (number_of p.number == number) 0 (suc (place_among (numbers_of ports) number)) here in
          absurd (omega (arith, past, e))
      | inr other ↦
          let e : place_among (numbers_of (p ∷ ports)) number ≡ suc (place_among (numbers_of ports) number) = cond-false (number_of p.number == number) 0 (suc (place_among (numbers_of ports) number)) other in
          vlan_none ports number (omega (arith, past, e)) ∙ sym (cond-false (number_of p.number == number) (Some p.vlan) (vlan_among ports number) other)
    ]

-- what is read at the place of a port

pub found_role : (plan : Plan) (number : ℕ) (own : Option (Bor PortPlan)) → IsItemAt plan.ports (place_of plan number) own → IfSome own (λ p. (has_port plan number ≡ true) × (p.now.role ≡ role_of plan number))
found_role plan number None at = tt
found_role plan number (Some own) at =
    let within : place_of plan number < length plan.ports = at.3.0 in
    (sym (has_port-place plan number) ∙ lt-ltb (place_of plan number) (length plan.ports) within, ap (λ (p : PortPlan). p.role) at.1 ∙ role_at plan.ports number own.now within)

pub found_vlan : (plan : Plan) (number : ℕ) (own : Option (Bor PortPlan)) → IsItemAt plan.ports (place_of plan number) own → IfSome own (λ p. vlan_among plan.ports number ≡ Some p.now.vlan)
found_vlan plan number None at = tt
found_vlan plan number (Some own) at = sym (ap (λ (p : PortPlan). Some p.vlan) at.1 ∙ vlan_at plan.ports number own.now at.3.0)

pub found_none : (plan : Plan) (number : ℕ) (own : Option (Bor PortPlan)) → IsItemAt plan.ports (place_of plan number) own → IfNone own ((has_port plan number ≡ false) × (vlan_among plan.ports number ≡ None))
found_none plan number None at = (sym (has_port-place plan number) ∙ le-ltb (place_of plan number) (length plan.ports) at.3, sym (vlan_none plan.ports number at.3))
found_none plan number (Some own) at = tt
