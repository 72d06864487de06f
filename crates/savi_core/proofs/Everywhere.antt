-- How much all VLANs have together.
use Rattle.std.proofs.Common.{◌≡◌, ◌≢◌, ℕ, ◌+◌, ◌*◌, ◌<◌, ◌≤◌, ◌==◌, Bool, false, cond, Option, Some, None, List, [], ◌∷◌, length, map, All, count_by, sum_by, refl, sym, ap, subst, ◌∙◌, inl, inr, arith}
use Rattle.std.specs.Prelude.{reverse}
use Rattle.std.specs.List.{flat_map}
use Rattle.std.specs.List.Sorted.{IsStrictlyIncreasing}
use Rattle.std.proofs.lemmas.Bool.{cases_Bool, cases_eq, eqb-true, ne_eqb}
use Rattle.std.proofs.lemmas.Option.{none-some, same_Some}
use Rattle.std.proofs.lemmas.List.{length-append, length-map}
use Rattle.std.proofs.lemmas.List.Elements.{All-head, All-tail, All-weaker}
use Rattle.std.proofs.lemmas.List.Sums.{sum_by-append, sum_by-cons}
use Rattle.savi_kinds.specs.declared.plan.Plan.{Plan}
use Rattle.savi_kinds.specs.declared.plan.PortPlan.{PortPlan}
use Rattle.savi_kinds.specs.Ports.{number_of}
use Rattle.savi_kinds.specs.ValidPlan.{HasPlanVlans}
use Rattle.savi_kinds.specs.Vlans.{IsVlan, numbers_of_vlan, vlans_of}
use Rattle.savi_kinds.proofs.PortCounts.{length-by_port}
use Rattle.savi_kinds.proofs.VlanSets.{some_vlan, vlans_all, vlans_rise}
use Rattle.dhcp_states.specs.declared.request.Request.{Request}
use Rattle.dhcp_states.specs.Limits.{IsWithinLimits as AreFew}
use Rattle.dhcp_states.specs.Requests.{is_at, open_at, requests_at_port}
use Rattle.bridge_fdb.specs.declared.station.Station.{Station}
use Rattle.bridge_fdb.specs.Stations.{live_at}
use Rattle.savi_access.specs.declared.row.Row.{Row as AddressRow}
use Rattle.savi_access.specs.Tables.{AreDifferent, rows_at}
use Rattle.savi_access.specs.Rules.{AccessRules, IsRequestOf}
use Rattle.savi_access.specs.Marks.{open_requests, told}
use Rattle.savi_access.specs.Plans.{rules_of}
use Rattle.savi_access.proofs.RowCounts.{few_rows_everywhere}
use Rattle.savi_access.proofs.States.{told_before, told_past}
use Rattle.checkpoint.specs.Bases.{Base, access_of}
use Rattle.checkpoint.specs.Columns.{by_vlan}
use Rattle.savi_history.specs.Limits.{IsWithinLimits}
use Rattle.savi_history.specs.Marks.{marks}
use Rattle.savi_history.specs.Moments.{last_moment}
use Rattle.savi_segments.specs.Checkpoints.{after}
use Rattle.savi_core.specs.declared.vlan_set.VlanSet.{VlanSet}
use Rattle.savi_core.specs.Machines.{station_room}
use Rattle.savi_core.specs.VlanSets.{of_sets, vlans_of_sets}
use Rattle.savi_core.specs.Remembers.{CoreState, Remembers}
use Rattle.savi_core.specs.Tells.{Tells, TellOfAll}
use Rattle.savi_core.proofs.Knowing.{from_map}
use Rattle.savi_core.proofs.Rising.{AreFrom, increasing_from}
use Rattle.savi_core.proofs.Shown.{few_stations}
use Rattle.savi_core.proofs.Telling.{first_of, states_now}
use Rattle.savi_core.proofs.Turned.{sets_by}

by_vlan_size : {A : Type 0} (of : ℕ → List A) (vs : List ℕ) → length (by_vlan vs of) ≡ sum_by (λ v. length (of v)) vs
by_vlan_size of [] = refl
by_vlan_size {A} of (v ∷ vs) =
    omega (
      arith,
      length-append (map (λ (a : A). (v, a)) (of v)) (by_vlan vs of),
      length-map {B = ℕ × A} (of v) (λ (a : A). (v, a)),
      by_vlan_size of vs,
      sum_by-cons (λ (u : ℕ). length (of u)) v vs,
    )

-- the VLANs of a plan rise, and none comes twice

pub vlans_from : (plan : Plan) → AreFrom 0 (vlans_of plan)
vlans_from plan = increasing_from 0 (vlans_of plan) (vlans_rise plan.ports) (λ some. omega arith)

abbrev one_if : Bool → ℕ
one_if b = cond b 1 0

not_below : (from n : ℕ) (ns : List ℕ) → AreFrom from ns → n < from → count_by (λ m. m == n) ns ≡ 0
not_below from n [] are low = refl
not_below from n (m ∷ ns) are low =
    let here : one_if (m == n) ≡ 0 = ap one_if (ne_eqb m n (λ same. absurd (omega (arith, are.0, low, same)))) in
    omega (arith, sum_by-cons (λ (k : ℕ). one_if (k == n)) m ns, here, not_below (m + 1) n ns are.1 (omega (arith, are.0, low)))

once : (from n : ℕ) (ns : List ℕ) → AreFrom from ns → count_by (λ m. m == n) ns ≤ 1
once from n [] are = omega arith
once from n (m ∷ ns) are =
    elim (cases_Bool (m == n)) [
      | inl same ↦
          let here : one_if (m == n) ≡ 1 = ap one_if same in
          omega (arith, sum_by-cons (λ (k : ℕ). one_if (k == n)) m ns, here, not_below (m + 1) n ns are.1 (omega (arith, eqb-true m n same)))
      | inr other ↦
          let here : one_if (m == n) ≡ 0 = ap one_if other in
          omega (arith, sum_by-cons (λ (k : ℕ). one_if (k == n)) m ns, here, once (m + 1) n ns are.1)
    ]

different : (plan : Plan) → AreDifferent (vlans_of plan)
different plan n = once 0 n (vlans_of plan) (vlans_from plan)

-- the requests of all VLANs, where those of each are of its ports
module _ (r : AccessRules) (moment : ℕ) (asked : ℕ → List Request) (limits : (vlan : ℕ) → AreFew (asked vlan)) (own : (vlan : ℕ) → All (IsRequestOf r vlan moment) (asked vlan)) where
  none_of : (n vlan : ℕ) → r.addresses.vlan_of n ≢ Some vlan → (l : List Request) → All (IsRequestOf r vlan moment) l → requests_at_port n l ≡ 0
  none_of n vlan other [] all = refl
  none_of n vlan other (q ∷ l) all =
      let here : IsRequestOf r vlan moment q = All-head (IsRequestOf r vlan moment) q l all in
      let not : (number_of q.port == n) ≡ false = ne_eqb (number_of q.port) n (λ same. other (ap r.addresses.vlan_of (sym same) ∙ here.port)) in
      let none : one_if (is_at n q) ≡ 0 = ap one_if not in
      omega (arith, sum_by-cons (λ (x : Request). one_if (is_at n x)) q l, none, none_of n vlan other l (All-tail (IsRequestOf r vlan moment) q l all))

  abbrev joined : List ℕ → List Request
  joined vs = flat_map asked vs

  joined_more : (n v : ℕ) (vs : List ℕ) → requests_at_port n (joined (v ∷ vs)) ≡ requests_at_port n (asked v) + requests_at_port n (joined vs)
  joined_more n v vs = sum_by-append (λ (x : Request). one_if (is_at n x)) (asked v) (joined vs)

  none_joined : (n from : ℕ) (vs : List ℕ) → AreFrom from vs → ((v : ℕ) → from ≤ v → r.addresses.vlan_of n ≢ Some v) → requests_at_port n (joined vs) ≡ 0
  none_joined n from [] are apart = refl
  none_joined n from (v ∷ vs) are apart =
      omega (arith, joined_more n v vs, none_of n v (apart v are.0) (asked v) (own v), none_joined n (v + 1) vs are.1 (λ u low. apart u (omega (arith, low, are.0))))

  few_at : (n from : ℕ) (vs : List ℕ) → AreFrom from vs → requests_at_port n (joined vs) ≤ 16
  few_at n from [] are = omega arith
  few_at n from (v ∷ vs) are = by (r.addresses.vlan_of n) refl (few_at n (v + 1) vs are.1)
    where
      by : (o : Option ℕ) → r.addresses.vlan_of n ≡ o → requests_at_port n (joined vs) ≤ 16 → requests_at_port n (joined (v ∷ vs)) ≤ 16
      by None is few = omega (arith, none_joined n from (v ∷ vs) are (λ u low there. none-some u (sym is ∙ there)))
      by (Some w) is few =
          elim (cases_eq w v) [
            | inl same ↦
                let rest : requests_at_port n (joined vs) ≡ 0 = none_joined n (v + 1) vs are.1 (λ u low there. absurd (omega (arith, same, same_Some w u (sym is ∙ there), low))) in
                let own_few : AreFew (asked v) = limits v in
                omega (arith, joined_more n v vs, own_few.room n, rest)
            | inr other ↦
                omega (arith, joined_more n v vs, none_of n v (λ there. other (same_Some w v (sym is ∙ there))) (asked v) (own v), few)
          ]

  joined_size : (vs : List ℕ) → length (joined vs) ≡ sum_by (λ v. length (asked v)) vs
  joined_size [] = refl
  joined_size (v ∷ vs) = omega (arith, length-append (asked v) (joined vs), joined_size vs, sum_by-cons (λ (u : ℕ). length (asked u)) v vs)

  few_asked : (vs : List ℕ) → AreFrom 0 vs → length (by_vlan vs asked) ≤ 256
  few_asked vs are =
      omega (arith, by_vlan_size asked vs, joined_size vs, length-by_port (λ (q : Request). q.port) 16 (joined vs) (λ n. few_at n 0 vs are))

-- the stations of all VLANs
few_known : (known : ℕ → List Station) → ((vlan : ℕ) → length (known vlan) ≤ 4096) → (vs : List ℕ) → sum_by (λ v. length (known v)) vs ≤ 4096 * length vs
few_known known few [] = omega arith
few_known known few (v ∷ vs) = omega (arith, few v, few_known known few vs, sum_by-cons (λ (u : ℕ). length (known u)) v vs)

module _ {k : CoreState} (was : Remembers k) (sets : List VlanSet) (tells : TellOfAll k.plan k.base (reverse k.rows) k.moment sets) where
  abbrev TellsNow : VlanSet → Type 0
  TellsNow set = Tells k.plan k.base (reverse k.rows) k.moment set.access

  abbrev left : Base
  left = after k.plan k.base (reverse k.rows)

  pub sets_rise : IsStrictlyIncreasing (vlans_of_sets sets)
  sets_rise = subst IsStrictlyIncreasing (sym tells.vlans) (vlans_rise k.plan.ports)

  -- there are at most 8, each of a VLAN with a number up to 4,094

  pub sets_few : length sets ≤ 8
  sets_few = omega (arith, ap length tells.vlans, length-map sets (λ (set : VlanSet). set.access.vlan), was.valid.vlan_count)

  pub sets_low : All (λ (set : VlanSet). set.access.vlan ≤ 4094) sets
  sets_low =
      let numbers : All IsVlan (vlans_of k.plan) =
      vlans_all IsVlan k.plan.ports (All-weaker HasPlanVlans (λ (p : PortPlan). All IsVlan (numbers_of_vlan p.vlan)) (λ p has. has.numbers) k.plan.ports was.valid.port_vlans) in
      All-weaker (λ (set : VlanSet). IsVlan set.access.vlan) (λ (set : VlanSet). set.access.vlan ≤ 4094) (λ set is. is.1) sets
      (from_map (λ (set : VlanSet). set.access.vlan) IsVlan sets (subst (λ (vs : List ℕ). All IsVlan vs) (sym tells.vlans) numbers))

  -- the addresses that have a state
  pub rows_few : length (of_sets (λ set. set.access.addresses.rows) sets) ≤ 16 * k.plan.per_port
  rows_few =
      let r = (rules_of k.plan).addresses in
      let all = marks k.plan k.base (reverse k.rows) in
      let from = last_moment k.base (reverse k.rows) in
      let of : ℕ → List AddressRow = λ vlan. rows_at (rules_of k.plan).addresses (access_of k.base).addresses (told (marks k.plan k.base (reverse k.rows))) (last_moment k.base (reverse k.rows)) vlan in
      let some : 1 ≤ length sets = omega (arith, ap length tells.vlans, length-map sets (λ (set : VlanSet). set.access.vlan), some_vlan k.plan.ports was.valid.port_count.0 was.valid.port_vlans) in
      let one : (set : VlanSet) × Tells k.plan k.base (reverse k.rows) k.moment set.access = first_of sets some tells.tell in
      let now = states_now was one.0.access one.1 in
      let same : of_sets (λ set. set.access.addresses.rows) sets ≡ by_vlan (vlans_of k.plan) of =
      sets_by (λ set. set.access.addresses.rows) of sets
      (All-weaker TellsNow (λ (set : VlanSet). set.access.addresses.rows ≡ of set.access.vlan) (λ set tell. (states_now was set.access tell).rows) sets tells.tell)
      ∙ ap (λ (vs : List ℕ). by_vlan vs of) tells.vlans in
      omega (
        arith,
        ap length same,
        by_vlan_size of (vlans_of k.plan),
        few_rows_everywhere r (access_of k.base).addresses was.within.access.addresses (told all) from
            (told_past (rules_of k.plan) (access_of k.base) all now.marks) (told_before (rules_of k.plan) (access_of k.base) all from now.marks now.last) (vlans_of k.plan) (different k.plan),
      )

  module _ (within : IsWithinLimits k.plan left) where
    -- the requests that are open
    pub requests_few : length (of_sets (λ set. open_at k.moment set.access.requests) sets) ≤ 256
    requests_few =
        let asked : ℕ → List Request = (after k.plan k.base (reverse k.rows)).requests in
        let same : of_sets (λ set. open_at k.moment set.access.requests) sets ≡ by_vlan (vlans_of k.plan) asked =
        sets_by (λ set. open_at k.moment set.access.requests) asked sets
        (All-weaker TellsNow (λ (set : VlanSet). open_at k.moment set.access.requests ≡ asked set.access.vlan)
        (λ set tell. tell.states.requests ∙ ap (λ (t : ℕ). open_requests (access_of k.base) set.access.vlan (marks k.plan k.base (reverse k.rows)) t) was.last) sets tells.tell)
        ∙ ap (λ (vs : List ℕ). by_vlan vs asked) tells.vlans in
        omega (arith, ap length same, few_asked (rules_of k.plan) left.moment asked within.access.limits within.access.requests (vlans_of k.plan) (vlans_from k.plan))

    -- the stations that are live
    pub stations_few : length (of_sets (λ set. live_at k.moment set.fdb) sets) ≤ station_room k.plan
    stations_few =
        let known : ℕ → List Station = (after k.plan k.base (reverse k.rows)).stations in
        let same : of_sets (λ set. live_at k.moment set.fdb) sets ≡ by_vlan (vlans_of k.plan) known =
        sets_by (λ set. live_at k.moment set.fdb) known sets tells.know ∙ ap (λ (vs : List ℕ). by_vlan vs known) tells.vlans in
        omega (arith, ap length same, by_vlan_size known (vlans_of k.plan), few_known known (λ vlan. few_stations (known vlan) (within.stations vlan).limits) (vlans_of k.plan))
