-- What is kept of a history's end is the base that the history leaves.
use Rattle.std.proofs.Common.{◌≡◌, ℕ, ◌+◌, ◌<◌, ◌≤◌, ◌==◌, ◌||◌, Bool, true, false, Option, None, List, [], ◌∷◌, ◌++◌, filter, length, get_or, map, refl, sym, ap, ◌∙◌, subst, inl, inr, arith}
use Rattle.std.specs.Prelude.{slice_index_or}
use Rattle.std.proofs.lemmas.Bool.{cases_eq, cases_Bool, eq-eqb, ne_eqb, false≢true}
use Rattle.std.proofs.lemmas.List.{append-nil, map-append}
use Rattle.std.proofs.lemmas.List.Elements.{filter-append}
use Rattle.savi_kinds.specs.declared.plan.Plan.{Plan}
use Rattle.savi_kinds.specs.declared.plan.PortPlan.{PortPlan}
use Rattle.savi_kinds.specs.declared.entry.How.{How}
use Rattle.savi_kinds.specs.declared.port.PortSet.{PortSet}
use Rattle.savi_kinds.specs.Ports.{number_of}
use Rattle.savi_kinds.specs.PortSets.{is_member, no_ports}
use Rattle.savi_kinds.specs.ValidPlan.{IsValidPlan, numbers_of}
use Rattle.savi_kinds.specs.Vlans.{vlans_of}
use Rattle.savi_kinds.proofs.VlanSets.{vlans_rise}
use Rattle.hist_store.specs.Rows.{Row as Entered}
use Rattle.hist_store.specs.PortTexts.{port_numbers, members}
use Rattle.checkpoint.specs.Bases.{Base, empty}
use Rattle.savi_history.specs.Passes.{has_port, pass_count}
use Rattle.savi_history.specs.ShutPorts.{is_shut}
use Rattle.savi_history.specs.Moments.{last_moment}
use Rattle.savi_history.specs.Limits.{IsWithinLimits}
use Rattle.control_replies.specs.Counting.{nothing_counted}
use Rattle.savi_history.specs.Shown.{counts_of}
use Rattle.savi_segments.specs.Checkpoints.{up_to, end_of, ends_of, after}
use Rattle.savi_segments.proofs.Passing.{is_in, in_below, same_ends, same_filtered, none_pass}
use Rattle.savi_segments.proofs.Elsewhere.{after_elsewhere}
use Rattle.checkpoint.specs.Columns.{Columns, by_vlan, of_vlan, kept_base, nothing_before}
use Rattle.checkpoint.specs.BaseLines.{HasNothingElsewhere, has_vlan}
use Rattle.savi_core.proofs.Members.{none_in}
use Rattle.savi_core.proofs.Rising.{AreFrom, none_below, filtered_from, in_behind, increasing_from}

-- what a column has of a VLAN, where each VLAN has what is its own

same_vlan : (vlan : ℕ) → (vlan == vlan) ≡ true
same_vlan vlan = eq-eqb vlan vlan refl

here : {A : Type 0} (vlan : ℕ) (all : List A) → of_vlan vlan (map (λ a. (vlan, a)) all) ≡ all
here vlan [] = refl
here {A} vlan (x ∷ all) = rw (same_vlan vlan) (ap (λ (l : List A). x ∷ l) (here vlan all))

away : {A : Type 0} (vlan other : ℕ) (all : List A) → (vlan == other) ≡ false → of_vlan other (map (λ a. (vlan, a)) all) ≡ []
away vlan other [] apart = refl
away vlan other (x ∷ all) apart = rw apart (away vlan other all apart)

of_both : {A : Type 0} (vlan : ℕ) (first more : List (ℕ × A)) → of_vlan vlan (first ++ more) ≡ of_vlan vlan first ++ of_vlan vlan more
of_both {A} vlan first more =
    ap (map (λ (p : ℕ × A). p.1)) (filter-append (λ (p : ℕ × A). p.0 == vlan) first more)
    ∙ map-append (λ (p : ℕ × A). p.1) (filter (λ (p : ℕ × A). p.0 == vlan) first) (filter (λ (p : ℕ × A). p.0 == vlan) more)

or_parts : (x y : Bool) → (x || y) ≡ false → (x ≡ false) × (y ≡ false)
or_parts true y none = absurd (false≢true (sym none))
or_parts false y none = (refl, none)

-- nothing of a VLAN that is none of these
none_of : {A : Type 0} (has : ℕ → List A) (vlan : ℕ) (vlans : List ℕ) → is_in vlan vlans ≡ false → of_vlan vlan (by_vlan vlans has) ≡ []
none_of has vlan [] none = refl
none_of {A} has vlan (v ∷ vlans) none =
    let parts = or_parts (v == vlan) (is_in vlan vlans) none in
    of_both vlan (map (λ a. (v, a)) (has v)) (by_vlan vlans has)
    ∙ ap (λ (l : List A). l ++ of_vlan vlan (by_vlan vlans has)) (away v vlan (has v) parts.0)
    ∙ none_of has vlan vlans parts.1

-- all that one of them has
one_of : {A : Type 0} (has : ℕ → List A) (vlan from : ℕ) (vlans : List ℕ) → AreFrom from vlans → is_in vlan vlans ≡ true → of_vlan vlan (by_vlan vlans has) ≡ has vlan
one_of has vlan from [] rising there = absurd (false≢true there)
one_of {A} has vlan from (v ∷ vlans) rising there =
    of_both vlan (map (λ a. (v, a)) (has v)) (by_vlan vlans has)
    ∙ (elim (cases_eq v vlan) [
      | inl same ↦
          subst (λ (w : ℕ). of_vlan w (map (λ a. (v, a)) (has v)) ++ of_vlan w (by_vlan vlans has) ≡ has w) same
          (ap (λ (l : List A). l ++ of_vlan v (by_vlan vlans has)) (here v (has v))
          ∙ ap (λ (l : List A). has v ++ l) (none_of has v vlans (none_below (v + 1) v vlans rising.1 (omega arith)))
          ∙ append-nil (has v))
      | inr other ↦
          ap (λ (l : List A). l ++ of_vlan vlan (by_vlan vlans has)) (away v vlan (has v) (ne_eqb v vlan other))
          ∙ one_of has vlan (v + 1) vlans rising.1 (in_behind v vlan vlans other there)
    ])

module _ (plan : Plan) (valid : IsValidPlan plan) (base : Base) (within : IsWithinLimits plan base) (past : List Entered) where
  abbrev left : Base
  left = after plan base past

  -- at a VLAN that the plan hasn't nothing is left
  bare : HasNothingElsewhere plan left
  bare = after_elsewhere plan base within.elsewhere past

  vlans_from : AreFrom 0 (vlans_of plan)
  vlans_from = increasing_from 0 (vlans_of plan) (vlans_rise plan.ports) (λ some. omega arith)

  -- where a column has what is left of the plan's VLANs, it has what is left of each
  in_each : {A : Type 0} (has : ℕ → List A) → ((vlan : ℕ) → has_vlan plan vlan ≡ false → has vlan ≡ []) → (column : List (ℕ × A)) → column ≡ by_vlan (vlans_of plan) has → (vlan : ℕ) → of_vlan vlan column ≡ has vlan
  in_each {A} has none column are vlan =
      ap (λ (c : List (ℕ × A)). of_vlan vlan c) are
      ∙ (elim (cases_Bool (is_in vlan (vlans_of plan))) [
        | inl there ↦ one_of has vlan 0 (vlans_of plan) vlans_from there
        | inr missing ↦ none_of has vlan (vlans_of plan) missing ∙ sym (none vlan missing)
      ])

  -- a port of the plan has a number from 1 to 16
  low_port : (ports : List PortPlan) (n : ℕ) → is_in n (numbers_of ports) ≡ true → n < 1 + 16
  low_port [] n there = absurd (false≢true there)
  low_port (p ∷ ports) n there =
      elim (cases_eq (number_of p.number) n) [
        | inl here ↦ omega (arith, p.number.high, here)
        | inr other ↦ low_port ports n (in_behind (number_of p.number) n (numbers_of ports) other there)
      ]

  first_port : (ports : List PortPlan) → 0 < length (numbers_of ports) → 1 ≤ get_or (numbers_of ports) 0 0
  first_port [] some = absurd (omega (arith, some))
  first_port (p ∷ ports) some = p.number.low

  shut_left : (set : PortSet) → ((n : ℕ) → has_port plan n ≡ true → is_member set n ≡ is_shut plan base n past) → ((n : ℕ) → 1 ≤ n → is_member set n ≡ true → has_port plan n ≡ true) → members set ≡ left.shut
  unfolding port_numbers
  shut_left set is inside =
      filtered_from (is_member set) 16 1 (numbers_of plan.ports) (increasing_from 1 (numbers_of plan.ports) valid.ports (first_port plan.ports)) (low_port plan.ports) inside
      ∙ same_filtered (is_member set) (λ number. is_shut plan base number past) (numbers_of plan.ports) is

  -- what is kept agrees with the history in each part
  pub record IsLeft (kept : Columns) : Type 0 where
    pub goes_on : kept.is_start ≡ false
    pub moment : kept.moment ≡ last_moment base past
    pub ended : kept.ended ≡ left.ended
    pub shut : (n : ℕ) → has_port plan n ≡ true → is_member kept.shut n ≡ is_shut plan base n past
    pub inside : (n : ℕ) → 1 ≤ n → is_member kept.shut n ≡ true → has_port plan n ≡ true
    pub counts : kept.counts ≡ counts_of base past
    pub stations : kept.stations ≡ by_vlan (vlans_of plan) left.stations
    pub rows : kept.rows ≡ by_vlan (vlans_of plan) left.rows
    pub requests : kept.requests ≡ by_vlan (vlans_of plan) left.requests

  pub left_is : (kept : Columns) → IsLeft kept → kept_base kept ≡ left
  left_is kept is =
      let goes_on = is.goes_on in
      let moment = is.moment in
      let ended = is.ended in
      let shut : members kept.shut ≡ left.shut = shut_left kept.shut is.shut is.inside in
      let counts = is.counts in
      λ i. record {
        is_start = goes_on i;
        moment = moment i;
        ended = ended i;
        shut = shut i;
        stations = λ vlan. in_each left.stations bare.stations kept.stations is.stations vlan i;
        rows = λ vlan. in_each left.rows bare.rows kept.rows is.rows vlan i;
        requests = λ vlan. in_each left.requests bare.requests kept.requests is.requests vlan i;
        counts = counts i;
      }

-- where the ends that a core keeps are those of the history, so are those that are kept of them
pub ended_left : (plan : Plan) (base : Base) (past : List Entered) (ends : List (Option How)) → ((pass : ℕ) → pass < pass_count plan → slice_index_or ends pass None ≡ end_of base pass past)
    → ends_of (λ pass. slice_index_or ends pass None) (up_to (pass_count plan)) ≡ (after plan base past).ended
ended_left plan base past ends are =
    same_ends (λ pass. slice_index_or ends pass None) (λ pass. end_of base pass past) (up_to (pass_count plan)) (λ pass there. are pass (in_below (pass_count plan) pass there))

-- at the start of a switch nothing came before

pub start_is : (row_room station_room : ℕ) → kept_base (nothing_before row_room station_room) ≡ empty
start_is row_room station_room =
    let shut : members no_ports ≡ [] = none_pass (is_member no_ports) port_numbers none_in in
    λ i. record {
      is_start = true;
      moment = 0;
      ended = [];
      shut = shut i;
      stations = λ vlan. [];
      rows = λ vlan. [];
      requests = λ vlan. [];
      counts = nothing_counted;
    }
