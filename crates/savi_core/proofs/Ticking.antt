-- Whether a tick is due, by the states of addresses that a core keeps.
use Rattle.std.proofs.Common.{◌≡◌, ◌≢◌, ◌↔◌, ℕ, ◌≤◌, List, [], ◌∷◌, map, refl, sym, ap, ◌∙◌, zero, suc, ◌==◌, ◌||◌, Bool, false, All, IsSomeAnd, slice_get, subst, inl, inr}
use Rattle.std.specs.List.{AllByRecursion}
use Rattle.std.specs.Prelude.{reverse}
use Rattle.fcfs_states.specs.declared.times.Times.{Times}
use Rattle.savi_access.specs.declared.row.Row.{Row as AddressRow}
use Rattle.savi_access.specs.Ages.{aged_rows}
use Rattle.savi_access.specs.Sends.{sends}
use Rattle.savi_access.specs.Tables.{rows_at}
use Rattle.savi_access.proofs.StatesKept.{base_times, base_tables}
use Rattle.savi_access.proofs.TablesOf.{changes, rows-later}
use Rattle.savi_access.specs.Marks.{told}
use Rattle.savi_access.specs.Plans.{rules_of}
use Rattle.access_table.specs.Kept.{Kept as Table}
use Rattle.access_table.proofs.Standing.{sent_between}
use Rattle.checkpoint.specs.Bases.{Base, access_of}
use Rattle.savi_kinds.specs.declared.plan.Plan.{Plan}
use Rattle.savi_access.specs.declared.sent.SentProbe.{SentProbe}
use Rattle.savi_access.specs.Probes.{HasChanged}
use Rattle.hist_store.specs.Rows.{Row}
use Rattle.savi_history.specs.Merges.{merge, merged}
use Rattle.savi_history.specs.Moments.{last_moment}
use Rattle.savi_history.specs.Marks.{marks}
use Rattle.savi_history.specs.Offers.{Offer, due_by, due_in, offer_of}
use Rattle.savi_history.specs.Ticks.{HasChangedBy}
use Rattle.savi_core.specs.Remembers.{CoreState, Remembers}
use Rattle.savi_core.specs.Tells.{Tells, TellOfAll}
use Rattle.savi_core.proofs.Telling.{states_now}
use Rattle.std.specs.List.{list_any}
use Rattle.std.proofs.lemmas.Bool.{cases_Bool, eqb-true}
use Rattle.std.proofs.lemmas.List.Elements.{All-head, All-tail}
use Rattle.savi_kinds.specs.Vlans.{vlans_of}
use Rattle.checkpoint.specs.BaseLines.{has_vlan}
use Rattle.savi_segments.proofs.Elsewhere.{after_elsewhere}
use Rattle.savi_core.specs.declared.vlan_set.VlanSet.{VlanSet}
use Rattle.savi_core.specs.VlanSets.{IsQuietAt, aged_addresses, vlans_of_sets}

-- by the table of one VLAN
module _ {k : CoreState} (was : Remembers k) (table : Table) (tells : Tells k.plan k.base (reverse k.rows) k.moment table) (moment : ℕ) (later : last_moment k.base (reverse k.rows) ≤ moment) where
  abbrev rows_then : ℕ → List AddressRow
  rows_then t = rows_at (rules_of k.plan).addresses (access_of k.base).addresses (told (marks k.plan k.base (reverse k.rows))) t table.vlan

  rows_now : table.addresses.rows ≡ rows_then (last_moment k.base (reverse k.rows))
  rows_now = (states_now was table tells).rows

  -- aged to the moment, the rows are those of the history then
  rows_aged : aged_rows table.addresses.times moment table.addresses.rows ≡ rows_then moment
  rows_aged =
      let is = states_now was table tells in
      let r = (rules_of k.plan).addresses in
      let base = (access_of k.base).addresses in
      ap (λ (times : Times). aged_rows times moment table.addresses.rows) is.times
      ∙ ap (aged_rows r.times moment) is.rows
      ∙ sym (rows-later r base (base_tables r base is.base_is.addresses) (base_times r base is.base_is.addresses) (told (marks k.plan k.base (reverse k.rows))) (last_moment k.base (reverse k.rows)) moment table.vlan later)

  -- some address of the VLAN has another state then
  abbrev pub ChangesHere : Type 0
  ChangesHere = HasChanged (rules_of k.plan).addresses (access_of k.base).addresses (told (marks k.plan k.base (reverse k.rows))) (last_moment k.base (reverse k.rows)) moment table.vlan

  by_rows : ChangesHere ↔ (rows_then moment ≢ rows_then (last_moment k.base (reverse k.rows)))
  by_rows =
      let is = states_now was table tells in
      let r = (rules_of k.plan).addresses in
      let base = (access_of k.base).addresses in
      changes r base (base_tables r base is.base_is.addresses) (base_times r base is.base_is.addresses) (told (marks k.plan k.base (reverse k.rows))) (last_moment k.base (reverse k.rows)) moment table.vlan later

  -- where ageing changes the rows, some address has another state then
  pub tick_due : aged_rows table.addresses.times moment table.addresses.rows ≢ table.addresses.rows → HasChangedBy k.plan k.base (reverse k.rows) moment
  tick_due other = (table.vlan, by_rows.1 (λ same. other (rows_aged ∙ same ∙ sym rows_now)))

  -- and where some address of the VLAN has, ageing changes the rows
  pub due_tick : ChangesHere → aged_rows table.addresses.times moment table.addresses.rows ≢ table.addresses.rows
  due_tick changed same = by_rows.0 changed (sym rows_aged ∙ same ∙ rows_now)

  -- the probes that the rows send are those that the history calls for in the VLAN
  pub tick_silent : sends table.addresses.times moment table.addresses.rows ≡ [] → due_in k.plan k.base (reverse k.rows) moment table.vlan ≡ []
  tick_silent none =
      sym (sent_between (rules_of k.plan) (access_of k.base) (marks k.plan k.base (reverse k.rows)) (last_moment k.base (reverse k.rows)) moment table (states_now was table tells) later) ∙ none

-- where no VLAN calls for a probe, the history calls for none
pub all_silent : (plan : Plan) (base : Base) (past : List Row) (moment : ℕ) (vs : List ℕ) → AllByRecursion (λ vlan. due_in plan base past moment vlan ≡ []) vs
    → merged (λ (offer : Offer). offer.due) (map (λ vlan. map (offer_of vlan) (due_in plan base past moment vlan)) vs) ≡ []
all_silent plan base past moment [] none = refl
all_silent plan base past moment (v ∷ vs) none =
    ap (λ (sents : List SentProbe). merge (λ (offer : Offer). offer.due) (map (offer_of v) sents) (merged (λ (offer : Offer). offer.due) (map (λ vlan. map (offer_of vlan) (due_in plan base past moment vlan)) vs))) none.0
    ∙ all_silent plan base past moment vs none.1

-- by the tables of all VLANs
module _ {k : CoreState} (was : Remembers k) (sets : List VlanSet) (tells : TellOfAll k.plan k.base (reverse k.rows) k.moment sets) (moment : ℕ) (later : last_moment k.base (reverse k.rows) ≤ moment) where
  abbrev TellsNow : VlanSet → Type 0
  TellsNow set = Tells k.plan k.base (reverse k.rows) k.moment set.access

  abbrev ChangesIn : ℕ → Type 0
  ChangesIn vlan = HasChanged (rules_of k.plan).addresses (access_of k.base).addresses (told (marks k.plan k.base (reverse k.rows))) (last_moment k.base (reverse k.rows)) moment vlan

  -- where ageing changes the rows of one, some address has another state then
  pub some_due : (place : ℕ) → IsSomeAnd (slice_get sets place) (λ set. aged_addresses moment set.access.addresses ≢ set.access.addresses.rows) → HasChangedBy k.plan k.base (reverse k.rows) moment
  some_due place some = in_one sets tells.tell place some
    where
      in_one : (l : List VlanSet) → All TellsNow l → (place : ℕ) → IsSomeAnd (slice_get l place) (λ set. aged_addresses moment set.access.addresses ≢ set.access.addresses.rows) → HasChangedBy k.plan k.base (reverse k.rows) moment
      in_one [] all place some = absurd some
      in_one (set ∷ l) all zero some = tick_due was set.access (All-head TellsNow set l all) moment later some
      in_one (set ∷ l) all (suc place) some = in_one l (All-tail TellsNow set l all) place some

  module _ (quiet : All (IsQuietAt moment) sets) where
    -- no address of a VLAN of the plan has another state
    none_here : (vlan : ℕ) → ChangesIn vlan → list_any (λ v. v == vlan) (vlans_of_sets sets) ≡ false
    none_here vlan changed = in_none sets tells.tell quiet
      where
        in_none : (l : List VlanSet) → All TellsNow l → All (IsQuietAt moment) l → list_any (λ v. v == vlan) (vlans_of_sets l) ≡ false
        in_none [] all still = refl
        in_none (set ∷ l) all still =
            let rest : list_any (λ v. v == vlan) (vlans_of_sets l) ≡ false = in_none l (All-tail TellsNow set l all) (All-tail (IsQuietAt moment) set l still) in
            let here : IsQuietAt moment set = All-head (IsQuietAt moment) set l still in
            elim (cases_Bool (set.access.vlan == vlan)) [
              | inl same ↦
                  absurd (due_tick was set.access (All-head TellsNow set l all) moment later (subst ChangesIn (sym (eqb-true set.access.vlan vlan same)) changed) here.unchanged)
              | inr other ↦ ap (λ (b : Bool). b || list_any (λ v. v == vlan) (vlans_of_sets l)) other ∙ rest
            ]

    -- nor has one of another VLAN
    none_elsewhere : (vlan : ℕ) → ChangesIn vlan → has_vlan k.plan vlan ≡ false → ⊥
    none_elsewhere vlan changed missing =
        let r = (rules_of k.plan).addresses in
        let base = (access_of k.base).addresses in
        let tables = base_tables r base was.within.access.addresses in
        let times = base_times r base was.within.access.addresses in
        let all = told (marks k.plan k.base (reverse k.rows)) in
        let from = last_moment k.base (reverse k.rows) in
        let none : rows_at (rules_of k.plan).addresses (access_of k.base).addresses (told (marks k.plan k.base (reverse k.rows))) (last_moment k.base (reverse k.rows)) vlan ≡ [] = (after_elsewhere k.plan k.base was.within.elsewhere (reverse k.rows)).rows vlan missing in
        (changes r base tables times all from moment vlan later).0 changed
        (rows-later r base tables times all from moment vlan later ∙ ap (λ (rows : List AddressRow). aged_rows r.times moment rows) none ∙ sym none)

    pub none_due : ¬ HasChangedBy k.plan k.base (reverse k.rows) moment
    none_due changed = none_elsewhere changed.0 changed.1 (ap (λ (vs : List ℕ). list_any (λ v. v == changed.0) vs) (sym tells.vlans) ∙ none_here changed.0 changed.1)

    -- and no probe is due
    pub none_sent : due_by k.plan k.base (reverse k.rows) moment ≡ []
    none_sent =
        all_silent k.plan k.base (reverse k.rows) moment (vlans_of k.plan)
        (subst (λ (vs : List ℕ). AllByRecursion (λ vlan. due_in k.plan k.base (reverse k.rows) moment vlan ≡ []) vs) tells.vlans (in_all sets tells.tell quiet))
      where
        in_all : (l : List VlanSet) → All TellsNow l → All (IsQuietAt moment) l → AllByRecursion (λ vlan. due_in k.plan k.base (reverse k.rows) moment vlan ≡ []) (vlans_of_sets l)
        in_all [] all still = tt
        in_all (set ∷ l) all still =
            let here : IsQuietAt moment set = All-head (IsQuietAt moment) set l still in
            (tick_silent was set.access (All-head TellsNow set l all) moment later here.silent, in_all l (All-tail TellsNow set l all) (All-tail (IsQuietAt moment) set l still))
