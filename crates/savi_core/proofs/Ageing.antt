-- The probes of all VLANs up to a moment: those up to an earlier one first, and those of one moment in the order of VLANs.
use Rattle.std.proofs.Common.{◌≡◌, ℕ, ◌-◌, ◌<◌, ◌≤◌, List, [], ◌∷◌, ◌++◌, length, map, fold, All, refl, sym, ap, subst, ◌∙◌, arith, append-nil}
use Rattle.std.proofs.Math.Path.{fun_ext}
use Rattle.std.specs.List.{AllByRecursion, flat_map}
use Rattle.std.proofs.lemmas.List.{length-map, map-append}
use Rattle.std.proofs.lemmas.List.Sums.{fold-append}
use Rattle.std.proofs.lemmas.List.Elements.{All-head, All-tail}
use Rattle.fcfs_states.specs.Premises.{AreTimes}
use Rattle.fcfs_states.proofs.AgeingLemmas.{Ages-aged}
use Rattle.fcfs_states.proofs.AgesLemmas.{Ages-by}
use Rattle.mix_rules.specs.Ageing.{aged_state}
use Rattle.savi_access.specs.declared.sent.SentProbe.{SentProbe}
use Rattle.savi_access.specs.Bases.{AreTables}
use Rattle.savi_access.specs.Rows.{IsTable, state_in}
use Rattle.savi_access.specs.Probes.{probes_between}
use Rattle.savi_access.specs.Rules.{AccessRules, AccessBase, IsAccessBase}
use Rattle.savi_access.specs.Marks.{Mark, told}
use Rattle.savi_access.specs.Tables.{rows_after}
use Rattle.savi_access.proofs.AllSends.{among-after, sends-joined}
use Rattle.savi_access.proofs.Orders.{all_among, all_from}
use Rattle.savi_access.proofs.StatesKept.{base_tables, base_times}
use Rattle.savi_access.proofs.TablesOf.{table_after}
use Rattle.access_table.specs.Kept.{Represents}
use Rattle.access_table.proofs.Standing.{sent_between}
use Rattle.savi_history.specs.Merges.{merge, merged}
use Rattle.savi_history.specs.Offers.{Offer, offer_of}
use Rattle.savi_core.specs.declared.vlan_set.VlanSet.{VlanSet}
use Rattle.savi_core.specs.VlanSets.{AllRepresent, IsQuietAt, vlans_of_sets}
use Rattle.savi_core.specs.Judges.{due_between}
use Rattle.savi_core.specs.Rings.{Rings, rings_after_probe}
use Rattle.savi_core.proofs.Rounds.{AreBehind, AreUpTo, merged_one, merged_same, merged_split}

module _ (r : AccessRules) (base : AccessBase) (is : IsAccessBase r base) (past : List Mark) where
  times : AreTimes r.addresses.times
  times = base_times r.addresses base.addresses is.addresses

  tables : AreTables base.addresses
  tables = base_tables r.addresses base.addresses is.addresses

  table : (vlan : ℕ) → IsTable (rows_after r.addresses base.addresses (told past) vlan)
  table vlan = table_after r.addresses base.addresses tables (told past) vlan

  -- the probes of a VLAN, as they are offered
  abbrev pub offered : ℕ → ℕ → ℕ → List Offer
  offered from t vlan = map (offer_of vlan) (probes_between r.addresses base.addresses (told past) from t vlan)

  -- what holds of the moments at which probes are due holds of those of offers
  of_offers : (P : ℕ → Type 0) (vlan : ℕ) (sents : List SentProbe) → AllByRecursion (λ sent. P sent.due) sents → AllByRecursion (λ offer. P offer.due) (map (offer_of vlan) sents)
  of_offers P vlan [] all = tt
  of_offers P vlan (sent ∷ sents) all = (all.0, of_offers P vlan sents all.1)

  -- they are due up to the one moment, and behind the other
  low : (from t vlan : ℕ) → AreUpTo (λ (offer : Offer). offer.due) t (offered from t vlan)
  low from t vlan =
      of_offers (λ n. n ≤ t) vlan (probes_between r.addresses base.addresses (told past) from t vlan)
      (all_from (λ (sent : SentProbe). sent.due ≤ t) (probes_between r.addresses base.addresses (told past) from t vlan)
      (λ sent among.
      all_among (λ p. p.0 ≤ t) (sent.due, sent.probe) (aged_state r.addresses.times t (state_in (rows_after r.addresses base.addresses (told past) vlan) sent.address.0)).probes
      (Ages-by r.addresses.times t (Ages-aged r.addresses.times times t (state_in (rows_after r.addresses base.addresses (told past) vlan) sent.address.0).fcfs))
      (among-after r.addresses.times times from t (rows_after r.addresses base.addresses (told past) vlan) sent (table vlan).rising among).1))

  high : (from t vlan : ℕ) → AreBehind (λ (offer : Offer). offer.due) from (offered from t vlan)
  high from t vlan =
      of_offers (λ n. from < n) vlan (probes_between r.addresses base.addresses (told past) from t vlan)
      (all_from (λ (sent : SentProbe). from < sent.due) (probes_between r.addresses base.addresses (told past) from t vlan)
      (λ sent among. (among-after r.addresses.times times from t (rows_after r.addresses base.addresses (told past) vlan) sent (table vlan).rising among).0))

  joined : (from u t vlan : ℕ) → from ≤ u → u ≤ t → offered from t vlan ≡ offered from u vlan ++ offered u t vlan
  joined from u t vlan one two =
      ap (λ (sents : List SentProbe). map (offer_of vlan) sents) (sends-joined r.addresses.times times from u t (rows_after r.addresses base.addresses (told past) vlan) one two (table vlan).rising)
      ∙ map-append (offer_of vlan) (probes_between r.addresses base.addresses (told past) from u vlan) (probes_between r.addresses base.addresses (told past) u t vlan)

  -- first those up to an earlier moment, then the others
  due_joined : (from u t : ℕ) (vlans : List ℕ) → from ≤ u → u ≤ t → due_between r base past from t vlans ≡ due_between r base past from u vlans ++ due_between r base past u t vlans
  due_joined from u t vlans one two =
      ap (λ (of : ℕ → List Offer). merged (λ (offer : Offer). offer.due) (map of vlans)) (fun_ext (λ vlan. joined from u t vlan one two))
      ∙ merged_split (λ (offer : Offer). offer.due) u (λ vlan. offered from u vlan) (λ vlan. offered u t vlan) (λ vlan. low from u vlan) (λ vlan. high u t vlan) vlans

  -- where all is due at one moment, it comes in the order of VLANs
  due_at_once : (from u : ℕ) (vlans : List ℕ) → AllByRecursion (λ vlan. AllByRecursion (λ (offer : Offer). offer.due ≡ u) (offered from u vlan)) vlans → due_between r base past from u vlans ≡ flat_map (λ vlan. offered from u vlan) vlans
  due_at_once from u vlans each = merged_same (λ (offer : Offer). offer.due) u (λ vlan. offered from u vlan) vlans each

  -- what is due in one VLAN comes in that order too
  due_in_one : (from t : ℕ) (vlans : List ℕ) → length vlans ≤ 1 → due_between r base past from t vlans ≡ flat_map (λ vlan. offered from t vlan) vlans
  due_in_one from t [] few = refl
  due_in_one from t (v ∷ []) few = merged_one (λ (offer : Offer). offer.due) (λ vlan. offered from t vlan) v ∙ sym (append-nil (offered from t v))
  due_in_one from t (v ∷ w ∷ vlans) few = absurd (omega (arith, few))

  -- what a set offers up to a moment, where nothing is due in it before that, is due then
  exact : (d : ℕ) (offers : List Offer) → 0 < d → AreUpTo (λ (offer : Offer). offer.due) d offers → AreBehind (λ (offer : Offer). offer.due) (d - 1) offers → AllByRecursion (λ (offer : Offer). offer.due ≡ d) offers
  exact d [] some up behind = tt
  exact d (offer ∷ offers) some up behind = (omega (arith, some, up.0, behind.0), exact d offers some up.1 behind.1)

  then_alone : (from d : ℕ) (set : VlanSet) → from < d → Represents r base past from set.access → IsQuietAt (d - 1) set → AllByRecursion (λ (offer : Offer). offer.due ≡ d) (offered from d set.access.vlan)
  then_alone from d set late stands quiet =
      let v = set.access.vlan in
      let before : offered from (d - 1) v ≡ [] =
      ap (λ (sents : List SentProbe). map (offer_of v) sents) (sym (sent_between r base past from (d - 1) set.access stands (omega (arith, late))) ∙ quiet.silent) in
      let whole : offered from d v ≡ offered (d - 1) d v =
      joined from (d - 1) d v (omega (arith, late)) (omega arith) ∙ ap (λ (offers : List Offer). offers ++ offered (d - 1) d v) before in
      subst (λ (offers : List Offer). AllByRecursion (λ (offer : Offer). offer.due ≡ d) offers) (sym whole) (exact d (offered (d - 1) d v) (omega (arith, late)) (low (d - 1) d v) (high (d - 1) d v))

  each_then : (from d : ℕ) (sets : List VlanSet) → from < d → AllRepresent r base past from sets → All (IsQuietAt (d - 1)) sets → AllByRecursion (λ vlan. AllByRecursion (λ (offer : Offer). offer.due ≡ d) (offered from d vlan)) (vlans_of_sets sets)
  each_then from d [] late all quiet = tt
  each_then from d (set ∷ sets) late all quiet =
      let Stands : VlanSet → Type 0 = λ (s : VlanSet). Represents r base past from s.access in
      (then_alone from d set late (All-head Stands set sets all) (All-head (IsQuietAt (d - 1)) set sets quiet), each_then from d sets late (All-tail Stands set sets all) (All-tail (IsQuietAt (d - 1)) set sets quiet))

  -- nothing is due in a set
  each_quiet : (from t : ℕ) (sets : List VlanSet) → from ≤ t → AllRepresent r base past from sets → All (IsQuietAt t) sets → AllByRecursion (λ vlan. AllByRecursion (λ (offer : Offer). offer.due ≡ t) (offered from t vlan)) (vlans_of_sets sets)
  each_quiet from t [] order all quiet = tt
  each_quiet from t (set ∷ sets) order all quiet =
      let Stands : VlanSet → Type 0 = λ (s : VlanSet). Represents r base past from s.access in
      let here : IsQuietAt t set = All-head (IsQuietAt t) set sets quiet in
      let none : offered from t set.access.vlan ≡ [] =
      ap (λ (sents : List SentProbe). map (offer_of set.access.vlan) sents) (sym (sent_between r base past from t set.access (All-head Stands set sets all) order) ∙ here.silent) in
      (subst (λ (offers : List Offer). AllByRecursion (λ (offer : Offer). offer.due ≡ t) offers) (sym none) tt, each_quiet from t sets order (All-tail Stands set sets all) (All-tail (IsQuietAt t) set sets quiet))

  -- one round more, up to the moment at which something is due first
  round_more : (from u d : ℕ) (sets : List VlanSet) → from ≤ u → u < d → AllRepresent r base past u sets → All (IsQuietAt (d - 1)) sets
      → due_between r base past from u (vlans_of_sets sets) ++ flat_map (λ vlan. offered u d vlan) (vlans_of_sets sets) ≡ due_between r base past from d (vlans_of_sets sets)
  round_more from u d sets one two all quiet =
      let vlans = vlans_of_sets sets in
      sym (due_joined from u d vlans one (omega (arith, two)) ∙ ap (λ (l : List Offer). due_between r base past from u vlans ++ l) (due_at_once u d vlans (each_then u d sets two all quiet)))

  -- the last round, in which nothing is due
  round_last : (from u t : ℕ) (sets : List VlanSet) → from ≤ u → u ≤ t → AllRepresent r base past u sets → All (IsQuietAt t) sets
      → due_between r base past from u (vlans_of_sets sets) ++ flat_map (λ vlan. offered u t vlan) (vlans_of_sets sets) ≡ due_between r base past from t (vlans_of_sets sets)
  round_last from u t sets one two all quiet =
      let vlans = vlans_of_sets sets in
      sym (due_joined from u t vlans one two ∙ ap (λ (l : List Offer). due_between r base past from u vlans ++ l) (due_at_once u t vlans (each_quiet u t sets two all quiet)))

  -- nothing falls due in no time

  none_left : (from : ℕ) (offers : List Offer) → AreUpTo (λ (offer : Offer). offer.due) from offers → AreBehind (λ (offer : Offer). offer.due) from offers → offers ≡ []
  none_left from [] up behind = refl
  none_left from (offer ∷ offers) up behind = absurd (omega (arith, up.0, behind.0))

  due_none : (from : ℕ) (vlans : List ℕ) → due_between r base past from from vlans ≡ []
  due_none from [] = refl
  due_none from (v ∷ vlans) =
      ap (λ (offers : List Offer). merge (λ (offer : Offer). offer.due) offers (due_between r base past from from vlans)) (none_left from (offered from from v) (low from from v) (high from from v))
      ∙ due_none from vlans

-- the queues once one round more was made, or where one round is enough

module _ (r : AccessRules) (base : AccessBase) (past : List Mark) where
  -- what the sets offer behind one moment, up to another, in the order of VLANs
  abbrev pub round : ℕ → ℕ → List VlanSet → List Offer
  round from t sets = flat_map (λ vlan. map (offer_of vlan) (probes_between r.addresses base.addresses (told past) from t vlan)) (vlans_of_sets sets)

  joined_rings : (first second all : List Offer) (old between new : Rings) → between ≡ fold rings_after_probe old first → new ≡ fold rings_after_probe between second → first ++ second ≡ all → new ≡ fold rings_after_probe old all
  joined_rings first second all old between new early late are =
      late ∙ ap (λ (rings : Rings). fold rings_after_probe rings second) early ∙ sym (fold-append rings_after_probe old first second) ∙ ap (λ (offers : List Offer). fold rings_after_probe old offers) are

  pub rings_none : (from : ℕ) (sets : List VlanSet) (rings : Rings) → AllRepresent r base past from sets → rings ≡ fold rings_after_probe rings (due_between r base past from from (vlans_of_sets sets))
  rings_none from [] rings all = refl
  rings_none from (set ∷ sets) rings all =
      let is : IsAccessBase r base = (All-head (λ (s : VlanSet). Represents r base past from s.access) set sets all).base_is in
      ap (λ (offers : List Offer). fold rings_after_probe rings offers) (sym (due_none r base is past from (vlans_of_sets (set ∷ sets))))

  pub rings_more : (from u d : ℕ) (sets : List VlanSet) (old between new : Rings) → from ≤ u → u < d → AllRepresent r base past u sets → All (IsQuietAt (d - 1)) sets
      → between ≡ fold rings_after_probe old (due_between r base past from u (vlans_of_sets sets)) → new ≡ fold rings_after_probe between (round u d sets) → new ≡ fold rings_after_probe old (due_between r base past from d (vlans_of_sets sets))
  rings_more from u d [] old between new one two all quiet early late = late ∙ early
  rings_more from u d (set ∷ sets) old between new one two all quiet early late =
      let is : IsAccessBase r base = (All-head (λ (s : VlanSet). Represents r base past u s.access) set sets all).base_is in
      joined_rings (due_between r base past from u (vlans_of_sets (set ∷ sets))) (round u d (set ∷ sets)) (due_between r base past from d (vlans_of_sets (set ∷ sets))) old between new early late
      (round_more r base is past from u d (set ∷ sets) one two all quiet)

  pub rings_last : (from u t : ℕ) (sets : List VlanSet) (old between new : Rings) → from ≤ u → u ≤ t → AllRepresent r base past u sets → All (IsQuietAt t) sets
      → between ≡ fold rings_after_probe old (due_between r base past from u (vlans_of_sets sets)) → new ≡ fold rings_after_probe between (round u t sets) → new ≡ fold rings_after_probe old (due_between r base past from t (vlans_of_sets sets))
  rings_last from u t [] old between new one two all quiet early late = late ∙ early
  rings_last from u t (set ∷ sets) old between new one two all quiet early late =
      let is : IsAccessBase r base = (All-head (λ (s : VlanSet). Represents r base past u s.access) set sets all).base_is in
      joined_rings (due_between r base past from u (vlans_of_sets (set ∷ sets))) (round u t (set ∷ sets)) (due_between r base past from t (vlans_of_sets (set ∷ sets))) old between new early late
      (round_last r base is past from u t (set ∷ sets) one two all quiet)

  pub rings_one : (from t : ℕ) (sets : List VlanSet) (old new : Rings) → length sets ≤ 1 → AllRepresent r base past from sets → new ≡ fold rings_after_probe old (round from t sets) → new ≡ fold rings_after_probe old (due_between r base past from t (vlans_of_sets sets))
  rings_one from t [] old new few all is = is
  rings_one from t (set ∷ sets) old new few all is =
      let base_is : IsAccessBase r base = (All-head (λ (s : VlanSet). Represents r base past from s.access) set sets all).base_is in
      is ∙ ap (λ (offers : List Offer). fold rings_after_probe old offers) (sym (due_in_one r base base_is past from t (vlans_of_sets (set ∷ sets)) (omega (arith, few, length-map (set ∷ sets) (λ (s : VlanSet). s.access.vlan)))))
