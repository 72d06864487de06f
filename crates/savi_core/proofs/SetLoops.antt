-- Loops over the sets of VLANs: what holds of those before a place, and those from it on are as they were.
use Rattle.std.proofs.Common.{◌≡◌, ℕ, ◌+◌, ◌<◌, ◌≤◌, ◌==◌, if◌then◌else◌, List, [], length, map, get_or, set, refl, sym, ap, subst, ◌∙◌, inl, inr, arith, length-set, get_or-set_same, get_or-set_other}
use Rattle.std.proofs.Math.Seq.{map-set_same}
use Rattle.std.proofs.lemmas.Bool.{cases_eq, eq-eqb, ne_eqb}
use Rattle.std.proofs.lemmas.List.{get_or-map, get_or_default, length-map, map-set, set-get_or}
use Rattle.bridge_fdb.specs.declared.station.Station.{Station}
use Rattle.bridge_fdb.specs.Stations.{live_at}
use Rattle.access_table.specs.Kept.{Kept}
use Rattle.savi_core.specs.declared.vlan_set.VlanSet.{VlanSet}
use Rattle.savi_core.specs.VlanSets.{fdb_at, stations_of_sets}

module _ {X : Type 0} where
  -- each element before a place has a property
  abbrev pub AllBefore : (X → Type 0) → ℕ → List X → Type 0
  AllBefore P i xs = (k : ℕ) (d : X) → k < i → P (get_or xs k d)

  -- two lists are the same from a place on
  pub record IsSameFrom (i : ℕ) (old new : List X) : Type 0 where
    pub size : length new ≡ length old
    pub items : (k : ℕ) (d : X) → i ≤ k → get_or new k d ≡ get_or old k d

  pub one_before : (P : X → Type 0) (i : ℕ) (xs : List X) (x : X) → i < length xs → AllBefore P i xs → P x → AllBefore P (i + 1) (set xs i x)
  one_before P i xs x inside before here = λ k d less.
      elim (cases_eq k i) [
        | inl same ↦ rw (same, get_or-set_same xs i x d inside) here
        | inr other ↦ rw (get_or-set_other xs i k x d other) (before k d (omega (arith, less, other)))
      ]

  pub one_less : (i : ℕ) (old new : List X) (x : X) → IsSameFrom i old new → IsSameFrom (i + 1) old (set new i x)
  one_less i old new x same = record {
    size = length-set new i x ∙ same.size;
    items = λ k d above. get_or-set_other new i k x d (λ equal. absurd (omega (arith, above, equal))) ∙ same.items k d (omega (arith, above));
  }

  -- what is read at the place is what was there at first
  pub first_there : (i : ℕ) (old new : List X) (x d : X) → IsSameFrom i old new → i < length new → x ≡ get_or new i x → x ≡ get_or old i d
  first_there i old new x d same inside is =
      let size : length new ≡ length old = same.size in
      is ∙ same.items i x (omega arith) ∙ get_or_default old i x d (omega (arith, inside, size))

  -- one more of a list that stays as it is
  pub before_more : (P : X → Type 0) (i : ℕ) (xs : List X) (x : X) → i < length xs → x ≡ get_or xs i x → AllBefore P i xs → P x → AllBefore P (i + 1) xs
  before_more P i xs x inside is before here = λ k d less.
      elim (cases_eq k i) [
        | inl same ↦
            let there : get_or xs k d ≡ x = ap (λ (n : ℕ). get_or xs n d) same ∙ get_or_default xs i d x inside ∙ sym is in
            subst P (sym there) here
        | inr other ↦ before k d (omega (arith, less, other))
      ]

-- a set that is changed in its table or in its stations alone

pub stations_at : (sets : List VlanSet) (i : ℕ) (was now : VlanSet) → was ≡ get_or sets i was → now.access.vlan ≡ was.access.vlan → now.fdb ≡ was.fdb → stations_of_sets (set sets i now) ≡ stations_of_sets sets
stations_at sets i was now there vlan_is fdb_is =
    map-set_same (λ (s : VlanSet). (s.access.vlan, s.fdb)) sets i now was
    (ap (λ (v : ℕ). (v, now.fdb)) vlan_is ∙ ap (λ (stations : List Station). (was.access.vlan, stations)) fdb_is ∙ ap (λ (s : VlanSet). (s.access.vlan, s.fdb)) there)

pub tables_at : (sets : List VlanSet) (i : ℕ) (was now : VlanSet) → was ≡ get_or sets i was → now.access ≡ was.access → map (λ (s : VlanSet). s.access) (set sets i now) ≡ map (λ (s : VlanSet). s.access) sets
tables_at sets i was now there access_is = map-set_same (λ (s : VlanSet). s.access) sets i now was (access_is ∙ ap (λ (s : VlanSet). s.access) there)

pub kept_there : (sets : List VlanSet) (i : ℕ) (was : VlanSet) (now : Kept) → was ≡ get_or sets i was → now ≡ was.access → set sets i (record was { access = now }) ≡ sets
kept_there sets i was now there same = ap (λ (kept : Kept). set sets i (record was { access = kept })) same ∙ ap (set sets i) there ∙ set-get_or sets i was

-- what is learned in a set is learned at its place alone
pub learned_at : (sets : List VlanSet) (i : ℕ) (was now : VlanSet) (t : ℕ) (learn : List Station → List Station) → i < length sets → was ≡ get_or sets i was → live_at t now.fdb ≡ learn (live_at t was.fdb)
    → (place : ℕ) → live_at t (fdb_at (set sets i now) place) ≡ (if i == place then learn (live_at t (fdb_at sets place)) else live_at t (fdb_at sets place))
learned_at sets i was now t learn inside there learned place =
    let fdb : VlanSet → List Station = λ (s : VlanSet). s.fdb in
    let after : fdb_at (set sets i now) place ≡ get_or (set (map fdb sets) i now.fdb) place [] = ap (λ (l : List (List Station)). get_or l place []) (map-set fdb sets i now) in
    elim (cases_eq i place) [
      | inl same ↦
          let before : fdb_at sets i ≡ was.fdb = get_or-map fdb sets i was [] inside ∙ ap fdb (sym there) in
          let here : fdb_at (set sets i now) i ≡ now.fdb =
          ap (λ (l : List (List Station)). get_or l i []) (map-set fdb sets i now) ∙ get_or-set_same (map fdb sets) i now.fdb [] (omega (arith, inside, length-map sets fdb)) in
          subst (λ (p : ℕ). live_at t (fdb_at (set sets i now) p) ≡ (if i == p then learn (live_at t (fdb_at sets p)) else live_at t (fdb_at sets p))) same
          (rw (eq-eqb i i refl) (ap (live_at t) here ∙ learned ∙ ap (λ (l : List Station). learn (live_at t l)) (sym before)))
      | inr other ↦ rw (ne_eqb i place other) (ap (live_at t) (after ∙ get_or-set_other (map fdb sets) i place now.fdb [] (λ same. other (sym same))))
    ]
