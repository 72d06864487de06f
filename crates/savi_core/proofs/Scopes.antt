-- The members of a VLAN that are in a scope, as sets.
use Rattle.std.proofs.Common.{ℕ, ◌≡◌, ◌≤◌, ◌==◌, ◌&&◌, ◌||◌, not, Bool, true, false, List, refl, sym, ap, ◌∙◌, arith}
use Rattle.std.specs.List.{filter, list_any}
use Rattle.std.proofs.lemmas.List.{length-map}
use Rattle.std.proofs.lemmas.Bool.{eqb-true, and_parts}
use Rattle.savi_kinds.specs.declared.plan.PortPlan.{PortPlan}
use Rattle.savi_kinds.specs.declared.port.Port.{Port}
use Rattle.savi_kinds.specs.declared.port.PortSet.{PortSet}
use Rattle.savi_kinds.specs.declared.verdict.Scope.{Scope}
use Rattle.savi_kinds.specs.declared.verdict.Scope.TheVariants.{All, TrustedOnly, TrustedAnd}
use Rattle.savi_kinds.specs.Ports.{number_of}
use Rattle.savi_kinds.specs.PortSets.{is_member, set_of}
use Rattle.savi_kinds.specs.ValidPlan.{numbers_of}
use Rattle.savi_kinds.specs.Vlans.{is_member_of}
use Rattle.savi_history.specs.Outs.{is_in_scope}
use Rattle.savi_history.proofs.PortMembers.{least}
use Rattle.savi_core.specs.PortTables.{members_among}
use Rattle.savi_core.proofs.Members.{AreLow, same_members, chosen_both, chosen_either, chosen_known}

abbrev pub number : PortPlan → ℕ
number q = number_of q.number

pub low : (ports : List PortPlan) → AreLow (numbers_of ports)
low ports = λ k within. least ports k (omega (arith, within, length-map ports number))

-- a port of a VLAN and a scope
abbrev pub is_inside : ℕ → Scope → PortPlan → Bool
is_inside vlan scope q = is_member_of vlan q && is_in_scope scope q

and_both : (m s x : Bool) → (m && (s && x)) ≡ ((m && s) && x)
and_both true s x = refl
and_both false s x = refl

and_either : (m t e : Bool) → (m && (t || e)) ≡ ((m && t) || (m && e))
and_either true t e = refl
and_either false t e = refl

and_all : (m e : Bool) → (m && e) ≡ ((m && true) && e)
and_all true e = refl
and_all false e = refl

-- without one
pub others_are : (vlan : ℕ) (ports : List PortPlan) (scope : Scope) (port : ℕ) (set inside : PortSet) → inside ≡ members_among vlan ports scope → ((n : ℕ) → 1 ≤ n → is_member set n ≡ (is_member inside n && not (n == port)))
    → set ≡ set_of (numbers_of (filter (λ q. is_member_of vlan q && (is_in_scope scope q && not (number_of q.number == port))) ports))
others_are vlan ports scope port set inside inside_is members =
    let both : PortPlan → Bool = λ q. is_member_of vlan q && (is_in_scope scope q && not (number_of q.number == port)) in
    same_members set (set_of (numbers_of (filter both ports)))
    (λ n low_n. members n low_n ∙ ap (λ (s : PortSet). is_member s n && not (n == port)) inside_is
    ∙ sym (chosen_both number (is_inside vlan scope) both (λ m. not (m == port)) ports n (λ q. and_both (is_member_of vlan q) (is_in_scope scope q) (not (number_of q.number == port))) (low ports) low_n))

-- each of them is a port of the plan
pub others_known : (vlan : ℕ) (ports : List PortPlan) (scope : Scope) (port : ℕ) (set inside : PortSet) → inside ≡ members_among vlan ports scope → ((n : ℕ) → 1 ≤ n → is_member set n ≡ (is_member inside n && not (n == port)))
    → (n : ℕ) → 1 ≤ n → is_member set n ≡ true → list_any (λ m. m == n) (numbers_of ports) ≡ true
others_known vlan ports scope port set inside inside_is members n low_n there =
    chosen_known number (is_inside vlan scope) ports n (low ports) low_n
    (ap (λ (s : PortSet). is_member s n) (sym inside_is) ∙ (and_parts (is_member inside n) (not (n == port)) (sym (members n low_n) ∙ there)).0)

added_at : (e t a : Bool) → (e ≡ true → a ≡ true) → (e || t) ≡ (t || (a && e))
added_at true true a all = refl
added_at true false a all = rw (all refl) refl
added_at false true a all = refl
added_at false false true all = refl
added_at false false false all = refl

kept_at : (e t a : Bool) → (e ≡ true → a ≡ false) → t ≡ (t || (a && e))
kept_at e true a none = refl
kept_at true false a none = rw (none refl) refl
kept_at false false true none = refl
kept_at false false false none = refl

module _ (vlan : ℕ) (ports : List PortPlan) (port : Port) (all trusted : PortSet) (all_is : all ≡ members_among vlan ports All) (trusted_is : trusted ≡ members_among vlan ports TrustedOnly) where
  with_one : (n : ℕ) → 1 ≤ n → is_member (members_among vlan ports (TrustedAnd port)) n ≡ (is_member trusted n || (is_member all n && (n == number_of port)))
  with_one n low_n =
      let one : PortPlan → Bool = λ q. is_member_of vlan q && (number_of q.number == number_of port) in
      chosen_either number (is_inside vlan TrustedOnly) one (is_inside vlan (TrustedAnd port)) ports n (λ q. and_either (is_member_of vlan q) (is_in_scope TrustedOnly q) (number_of q.number == number_of port)) (low ports) low_n
      ∙ ap (λ (b : Bool). is_member (members_among vlan ports TrustedOnly) n || b)
      (chosen_both number (is_inside vlan All) one (λ m. m == number_of port) ports n (λ q. and_all (is_member_of vlan q) (number_of q.number == number_of port)) (low ports) low_n)
      ∙ ap (λ (s : PortSet). is_member s n || (is_member (members_among vlan ports All) n && (n == number_of port))) (sym trusted_is)
      ∙ ap (λ (s : PortSet). is_member trusted n || (is_member s n && (n == number_of port))) (sym all_is)

  -- the trusted ports and one of the plan
  pub trusted_with : (set : PortSet) → is_member all (number_of port) ≡ true → ((n : ℕ) → 1 ≤ n → is_member set n ≡ (n == number_of port || is_member trusted n)) → set ≡ members_among vlan ports (TrustedAnd port)
  trusted_with set there members =
      same_members set (members_among vlan ports (TrustedAnd port))
      (λ n low_n. members n low_n
      ∙ added_at (n == number_of port) (is_member trusted n) (is_member all n) (λ same. ap (is_member all) (eqb-true n (number_of port) same) ∙ there)
      ∙ sym (with_one n low_n))

  -- and one that is none of the plan's
  pub trusted_alone : is_member all (number_of port) ≡ false → trusted ≡ members_among vlan ports (TrustedAnd port)
  trusted_alone absent =
      same_members trusted (members_among vlan ports (TrustedAnd port))
      (λ n low_n. kept_at (n == number_of port) (is_member trusted n) (is_member all n) (λ same. ap (is_member all) (eqb-true n (number_of port) same) ∙ absent)
      ∙ sym (with_one n low_n))
