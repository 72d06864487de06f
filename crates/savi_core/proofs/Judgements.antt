-- What a judgement leaves: what is told in one VLAN stands in the set of that VLAN, and is nothing to the others.
use Rattle.std.proofs.Common.{◌≡◌, ◌≢◌, ℕ, ◌<◌, ◌≤◌, true, false, Option, Some, None, List, [], ◌∷◌, ◌++◌, length, get_or, set, fold, refl, sym, ap, subst, ◌∙◌, inl, inr, arith, IfSome, length-set, get_or-set_same, get_or-set_other, append-nil}
use Rattle.std.specs.List.Sorted.{IsStrictlyIncreasing}
use Rattle.std.proofs.lemmas.Bool.{cases_eq, ne_eqb}
use Rattle.std.proofs.lemmas.List.{get_or-map, length-map}
use Rattle.std.proofs.lemmas.List.Elements.{All-set}
use Rattle.std.proofs.lemmas.List.Sums.{fold-append}
use Rattle.savi_kinds.specs.declared.plan.Plan.{Plan}
use Rattle.savi_kinds.specs.declared.port.Port.{Port}
use Rattle.savi_kinds.specs.declared.verdict.Rule.{Rule}
use Rattle.savi_kinds.specs.declared.verdict.Rule.TheVariants.{PortDown}
use Rattle.savi_kinds.specs.declared.verdict.Verdict.TheVariants.{Drop}
use Rattle.savi_kinds.specs.declared.plan.Role.TheVariants.{Trusted}
use Rattle.savi_kinds.specs.Ports.{number_of}
use Rattle.savi_kinds.specs.Vlans.{access_vlan, vlans_of}
use Rattle.savi_kinds.proofs.VlanSets.{vlans_rise}
use Rattle.frame_class.specs.declared.classes.Class.{Class}
use Rattle.ra_guard.specs.GuardOf.{guard_of}
use Rattle.savi_access.specs.declared.sent.SentProbe.{SentProbe}
use Rattle.savi_access.specs.Rules.{AccessRules, AccessBase}
use Rattle.savi_access.specs.Legal.{AreMarks}
use Rattle.savi_access.specs.Plans.{rules_of}
use Rattle.savi_access.specs.Marks.{Mark, newest_moment}
use Rattle.savi_access.specs.Judged.{Judged, drops, judged}
use Rattle.savi_access.specs.VlanMarks.{in_vlan}
use Rattle.savi_access.proofs.OtherVlans.{leaves_judged}
use Rattle.savi_access.proofs.OwnVlan.{open_same, rows_same}
use Rattle.access_table.specs.declared.judgement.Judgement.{Judgement}
use Rattle.access_table.specs.Kept.{IsAgedTo, Kept, Represents}
use Rattle.access_table.specs.Steps.{ComesTo, FollowsStep}
use Rattle.savi_history.specs.Marks.{untold}
use Rattle.savi_history.specs.Offers.{Offer, in_answer, offer_of}
use Rattle.savi_history.specs.Passes.{role_of}
use Rattle.savi_core.specs.declared.vlan_set.VlanSet.{VlanSet}
use Rattle.savi_core.specs.declared.ports.Origin.{Origin}
use Rattle.savi_core.specs.Origins.{IsOrigin}
use Rattle.savi_core.specs.VlanSets.{AllRepresent, AreAgedTo, stations_of_sets, vlan_at_place, vlans_of_sets}
use Rattle.savi_core.specs.Judges.{Ages, Judges, due_between}
use Rattle.savi_core.specs.Rings.{Rings, rings_after_probe, uncounted}
use Rattle.savi_core.proofs.Places.{apart}
use Rattle.savi_core.proofs.SetLoops.{stations_at}
use Rattle.savi_core.proofs.Together.{same_vlans}

-- a table of which VLAN nothing more was told stands for the new marks
others_stand : (r : AccessRules) (base : AccessBase) (past new : List Mark) (port : Port) (t : ℕ) (kept : Kept) → in_vlan kept.vlan new ≡ in_vlan kept.vlan past → AreMarks r base new → newest_moment base new ≤ t → Represents r base past t kept → Represents r base new t kept
others_stand r base past new port t kept same legal last is = record {
  base_is = is.base_is;
  marks = legal;
  last = last;
  rows = is.rows ∙ sym (rows_same r base kept.vlan port t new past same);
  requests = is.requests ∙ open_same r base kept.vlan port t past new (sym same);
  times = is.times;
  per_port = is.per_port;
}

-- so do all sets, where that of the VLAN of which more was told stands for it
pub all_stand : (r : AccessRules) (base : AccessBase) (past new : List Mark) (port : Port) (t : ℕ) (sets : List VlanSet) (place : ℕ) (one : VlanSet) → place < length sets → IsStrictlyIncreasing (vlans_of_sets sets) → AllRepresent r base past t sets
    → Represents r base new t one.access → ((other : ℕ) → get_or (vlans_of_sets sets) place 0 ≢ other → in_vlan other new ≡ in_vlan other past) → AllRepresent r base new t (set sets place one)
all_stand r base past new port t sets place one within rising all stands aside = λ n d inside. at n d (omega (arith, inside, length-set sets place one))
  where
    at : (n : ℕ) (d : VlanSet) → n < length sets → Represents r base new t (get_or (set sets place one) n d).access
    at n d inside =
        elim (cases_eq place n) [
          | inl same ↦
              subst (λ (m : ℕ). Represents r base new t (get_or (set sets place one) m d).access) same
              (subst (λ (s : VlanSet). Represents r base new t s.access) (sym (get_or-set_same sets place one d within)) stands)
          | inr other ↦
              let vlan : VlanSet → ℕ = λ (s : VlanSet). s.access.vlan in
              let here : get_or (vlans_of_sets sets) n 0 ≡ (get_or sets n d).access.vlan = get_or-map vlan sets n d 0 inside in
              let size : length (vlans_of_sets sets) ≡ length sets = length-map sets vlan in
              let away : get_or (vlans_of_sets sets) place 0 ≢ (get_or sets n d).access.vlan =
              (λ same. apart (vlans_of_sets sets) place n rising (omega (arith, within, size)) (omega (arith, inside, size)) other (same ∙ sym here)) in
              subst (λ (s : VlanSet). Represents r base new t s.access) (sym (get_or-set_other sets place n one d (λ equal. other (sym equal))))
              (others_stand r base past new port t (get_or sets n d).access (aside (get_or sets n d).access.vlan away) stands.marks stands.last (all n d inside))
        ]

-- what a frame of a VLAN tells is nothing to another one
pub frame_aside : (r : AccessRules) (base : AccessBase) (vlan : ℕ) (port : Port) (t : ℕ) (past : List Mark) (class : Class) (other : ℕ) → vlan ≢ other → in_vlan other (judged r base vlan port t past class).marks ≡ in_vlan other past
frame_aside r base vlan port t past class other away = leaves_judged r base vlan other (ne_eqb vlan other away) port t past class

-- what was aged by the plan of a table is aged by the same plan
pub ages_by : (p q : Plan) (from t : ℕ) (old sets : List VlanSet) (rings rings' : Rings) → p ≡ q → ((base : AccessBase) (past : List Mark) → AllRepresent (rules_of p) base past from old → from ≤ t → Ages (rules_of p) from t sets rings rings' base past)
    → (base : AccessBase) (past : List Mark) → AllRepresent (rules_of q) base past from old → from ≤ t → Ages (rules_of q) from t sets rings rings' base past
ages_by p q from t old sets rings rings' same aged =
    subst (λ (plan : Plan). (base : AccessBase) (past : List Mark) → AllRepresent (rules_of plan) base past from old → from ≤ t → Ages (rules_of plan) from t sets rings rings' base past) same aged

-- no probe behind the others, or one

none_more : (rings : Rings) (offers : List Offer) (more : List Offer) → more ≡ [] → fold rings_after_probe rings offers ≡ fold rings_after_probe rings (offers ++ more)
none_more rings offers more none =
    ap (λ (all : List Offer). fold rings_after_probe rings all) (sym (append-nil offers)) ∙ ap (λ (l : List Offer). fold rings_after_probe rings (offers ++ l)) (sym none)

one_more : (rings : Rings) (offers : List Offer) (more : List Offer) (offer : Offer) → more ≡ offer ∷ [] → rings_after_probe (fold rings_after_probe rings offers) offer ≡ fold rings_after_probe rings (offers ++ more)
one_more rings offers more offer one =
    sym (fold-append rings_after_probe rings offers (offer ∷ [])) ∙ ap (λ (l : List Offer). fold rings_after_probe rings (offers ++ l)) (sym one)

module _ (r : AccessRules) (from t : ℕ) (port : Port) (class : Class) (sets : List VlanSet) (old new : Rings) (base : AccessBase) (past : List Mark) (aged : Ages r from t sets old new base past) where
  abbrev due : List Offer
  due = due_between r base past from t (vlans_of_sets sets)

  -- at a port that is shut
  pub judged_shut : (vlan : Option ℕ) → Judges r from t true port vlan class sets old new (Drop PortDown) base past
  judged_shut vlan = record {
    verdict_is = refl;
    states = aged.states;
    probes = aged.probes ∙ none_more (uncounted old) due (in_answer vlan None) (no_answer vlan);
  }
    where
      no_answer : (v : Option ℕ) → in_answer v None ≡ []
      no_answer None = refl
      no_answer (Some v) = refl

  -- of a frame without a VLAN
  pub judged_untold : (rule : Rule) → untold past (guard_of Trusted r.drop_unknown class) ≡ drops rule past → Judges r from t false port None class sets old new (Drop rule) base past
  judged_untold rule is = record {
    verdict_is = ap (λ (j : Judged). j.verdict) (sym is);
    states = subst (λ (j : Judged). AllRepresent r base j.marks t sets) (sym is) aged.states;
    probes = aged.probes ∙ none_more (uncounted old) due (in_answer None (untold past (guard_of Trusted r.drop_unknown class)).probe) refl;
  }

  -- of a frame of the VLAN at a place
  module _ (vlan place : ℕ) (one : VlanSet) (within : place < length sets) (rising : IsStrictlyIncreasing (vlans_of_sets sets)) (is : get_or (vlans_of_sets sets) place 0 ≡ vlan) (same : vlans_of_sets (set sets place one) ≡ vlans_of_sets sets) (result : Judgement)
      (comes : ComesTo r base t one.access result (judged r base vlan port t past class)) where
    states_then : AllRepresent r base (judged r base vlan port t past class).marks t (set sets place one)
    states_then =
        all_stand r base past (judged r base vlan port t past class).marks port t sets place one within rising aged.states comes.kept
        (λ other away. frame_aside r base vlan port t past class other (λ equal. away (is ∙ equal)))

    due_then : due_between r base past from t (vlans_of_sets sets) ≡ due_between r base past from t (vlans_of_sets (set sets place one))
    due_then = ap (λ (vs : List ℕ). due_between r base past from t vs) (sym same)

    abbrev answer : List Offer
    answer = in_answer (Some vlan) (judged r base vlan port t past class).probe

    more_due : fold rings_after_probe (uncounted old) (due ++ answer) ≡ fold rings_after_probe (uncounted old) (due_between r base past from t (vlans_of_sets (set sets place one)) ++ answer)
    more_due = ap (λ (offers : List Offer). fold rings_after_probe (uncounted old) (offers ++ answer)) due_then

    pub judged_unasked : result.probe ≡ None → Judges r from t false port (Some vlan) class (set sets place one) old new result.verdict base past
    judged_unasked none = record {
      verdict_is = comes.verdict;
      states = states_then;
      probes = aged.probes ∙ none_more (uncounted old) due answer (ap (in_answer (Some vlan)) (sym comes.probe ∙ none)) ∙ more_due;
    }

    pub judged_asked : (sent : SentProbe) (newer : Rings) → result.probe ≡ Some sent → newer ≡ rings_after_probe new (offer_of vlan sent) → Judges r from t false port (Some vlan) class (set sets place one) old newer result.verdict base past
    judged_asked sent newer some newer_is = record {
      verdict_is = comes.verdict;
      states = states_then;
      probes =
          newer_is
          ∙ ap (λ (rings : Rings). rings_after_probe rings (offer_of vlan sent)) aged.probes
          ∙ one_more (uncounted old) due answer (offer_of vlan sent) (ap (in_answer (Some vlan)) (sym comes.probe ∙ some))
          ∙ more_due;
    }

-- what holds of the set at the place of a frame's VLAN, in sets of the plan's VLANs
module _ (plan : Plan) (sets : List VlanSet) (vlans : vlans_of_sets sets ≡ vlans_of plan) (place : ℕ) (within : place < length (vlans_of plan)) (here : VlanSet) (is : here ≡ get_or sets place here) where
  pub inside_sets : place < length sets
  inside_sets = omega (arith, within, ap length vlans, length-map sets (λ (s : VlanSet). s.access.vlan))

  pub vlan_here : here.access.vlan ≡ vlan_at_place plan place
  vlan_here =
      ap (λ (s : VlanSet). s.access.vlan) is ∙ sym (get_or-map (λ (s : VlanSet). s.access.vlan) sets place here 0 inside_sets)
      ∙ ap (λ (vs : List ℕ). get_or vs place 0) vlans

  -- where sources are validated it is the VLAN of the port
  pub own_here : (lent : Plan) (origin : Origin) → lent ≡ plan → IsOrigin plan origin → origin.set ≡ Some place → role_of lent (number_of origin.port) ≢ Trusted → access_vlan lent (number_of origin.port) ≡ Some here.access.vlan
  own_here lent origin same given set_is host =
      let own : IfSome origin.set (λ s. access_vlan plan (number_of origin.port) ≡ Some (vlan_at_place plan s)) =
      given.own (λ trusted. host (ap (λ (p : Plan). role_of p (number_of origin.port)) same ∙ trusted)) in
      ap (λ (p : Plan). access_vlan p (number_of origin.port)) same
      ∙ subst (λ (o : Option ℕ). IfSome o (λ s. access_vlan plan (number_of origin.port) ≡ Some (vlan_at_place plan s))) set_is own
      ∙ ap (λ (v : ℕ). Some v) (sym vlan_here)

  -- a frame of it was judged
  module _ (lent : Plan) (port : Port) (class : Class) (t : ℕ) (same : lent ≡ plan) (now : Kept) (vlan_same : now.vlan ≡ here.access.vlan) (result : Judgement)
      (follows : FollowsStep (rules_of lent) t here.access now result (λ base past. judged (rules_of lent) base here.access.vlan port t past class)) where
    pub comes_here : (base : AccessBase) (past : List Mark) → AllRepresent (rules_of plan) base past t sets → ComesTo (rules_of plan) base t now result (judged (rules_of plan) base (vlan_at_place plan place) port t past class)
    comes_here base past all =
        subst (λ (v : ℕ). ComesTo (rules_of plan) base t now result (judged (rules_of plan) base v port t past class)) vlan_here
        (subst (λ (p : Plan). FollowsStep (rules_of p) t here.access now result (λ base past. judged (rules_of p) base here.access.vlan port t past class)) same follows base past
        (subst (λ (s : VlanSet). Represents (rules_of plan) base past t s.access) (sym is) (all place here inside_sets)))

    abbrev pub then_here : VlanSet
    then_here = record here { access = now }

    pub stations_then : stations_of_sets (set sets place then_here) ≡ stations_of_sets sets
    stations_then = stations_at sets place here then_here is vlan_same refl

    pub ready_then : IsAgedTo (rules_of lent) t now → AreAgedTo (rules_of lent) t sets → AreAgedTo (rules_of plan) t (set sets place then_here)
    ready_then one all = subst (λ (p : Plan). AreAgedTo (rules_of p) t (set sets place then_here)) same (All-set (λ (s : VlanSet). IsAgedTo (rules_of lent) t s.access) sets place then_here one all)

    module _ (from : ℕ) (old new : Rings) (base : AccessBase) (past : List Mark) (aged : Ages (rules_of plan) from t sets old new base past) where
      rising : IsStrictlyIncreasing (vlans_of_sets sets)
      rising = subst (λ (vs : List ℕ). IsStrictlyIncreasing vs) (sym vlans) (vlans_rise plan.ports)

      vlan_there : get_or (vlans_of_sets sets) place 0 ≡ vlan_at_place plan place
      vlan_there = ap (λ (vs : List ℕ). get_or vs place 0) vlans

      vlans_then : vlans_of_sets (set sets place then_here) ≡ vlans_of_sets sets
      vlans_then = same_vlans sets (set sets place then_here) stations_then

      -- without a probe that answers it, or with one

      pub unasked_here : result.probe ≡ None → Judges (rules_of plan) from t false port (Some (vlan_at_place plan place)) class (set sets place then_here) old new result.verdict base past
      unasked_here none =
          judged_unasked (rules_of plan) from t port class sets old new base past aged (vlan_at_place plan place) place then_here inside_sets rising vlan_there vlans_then result (comes_here base past aged.states) none

      pub asked_here : (sent : SentProbe) (newer : Rings) → result.probe ≡ Some sent → newer ≡ rings_after_probe new (offer_of now.vlan sent) → Judges (rules_of plan) from t false port (Some (vlan_at_place plan place)) class (set sets place then_here) old newer result.verdict base past
      asked_here sent newer some newer_is =
          judged_asked (rules_of plan) from t port class sets old new base past aged (vlan_at_place plan place) place then_here inside_sets rising vlan_there vlans_then result (comes_here base past aged.states) sent newer some
          (newer_is ∙ ap (λ (v : ℕ). rings_after_probe new (offer_of v sent)) (vlan_same ∙ vlan_here))
