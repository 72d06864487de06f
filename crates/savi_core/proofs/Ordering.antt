-- What a command tells of an address in one VLAN: it stands in the set of that VLAN, and is nothing to the others.
use Rattle.std.proofs.Common.{◌≡◌, ℕ, ◌<◌, ◌||◌, true, false, not, if◌then◌else◌, Bool, Option, Some, None, is_some, IsTrue, List, length, get_or, set, All, refl, sym, ap, subst, ◌∙◌, arith}
use Rattle.std.specs.List.Sorted.{IsStrictlyIncreasing}
use Rattle.std.proofs.Math.Seq.{map-set_same}
use Rattle.std.proofs.lemmas.Bool.{ne_eqb}
use Rattle.std.proofs.lemmas.Option.{same_Some}
use Rattle.std.proofs.lemmas.List.{get_or-map, length-map}
use Rattle.std.proofs.lemmas.List.Elements.{All-set}
use Rattle.savi_kinds.specs.declared.plan.Plan.{Plan}
use Rattle.savi_kinds.specs.declared.plan.Role.{Role}
use Rattle.savi_kinds.specs.declared.port.Port.{Port}
use Rattle.savi_kinds.specs.Ports.{number_of}
use Rattle.savi_kinds.specs.Vlans.{access_vlan, vlans_of}
use Rattle.savi_kinds.proofs.VlanSets.{vlans_rise}
use Rattle.fcfs_states.specs.declared.event.Ev.{Ev}
use Rattle.fcfs_states.specs.declared.event.Ev.TheVariants.{Fix, Clear}
use Rattle.mix_rules.specs.States.{has_state, is_held_at}
use Rattle.bridge_fdb.specs.declared.station.Station.{Station}
use Rattle.control_replies.specs.declared.refusal.Refusal.TheVariants.{NoSuchPort, OffLink, PortFull}
use Rattle.savi_access.specs.declared.row.Row.{Row}
use Rattle.savi_access.specs.Rows.{state_in}
use Rattle.savi_access.specs.Rooms.{IsFixable, may_hold_more}
use Rattle.savi_access.specs.Rules.{AccessBase}
use Rattle.savi_access.specs.Marks.{Mark, Told, event_told, named_for}
use Rattle.savi_access.specs.Plans.{has_port, method_in, rules_of}
use Rattle.savi_access.proofs.OwnVlan.{other_in}
use Rattle.access_table.specs.Kept.{Kept, Represents, IsAgedTo}
use Rattle.access_table.specs.Steps.{Moves}
use Rattle.savi_history.specs.Commands.{clear_refusal, fixed_in, may_hold, static_refusal, static_refusal_in}
use Rattle.savi_history.proofs.Commanding.{IsGranted, cleared, fixable, granted, some_port}
use Rattle.savi_core.specs.declared.vlan_set.VlanSet.{VlanSet}
use Rattle.savi_core.specs.VlanSets.{AllRepresent, AreAgedTo, rows_by_vlan, stations_of_sets, vlan_at_place, vlan_of_place, vlans_of_sets}
use Rattle.savi_core.proofs.Judgements.{all_stand}
use Rattle.savi_core.proofs.SetPlaces.{rows_there}

-- a port that has a role is the plan's
pub with_role : (b : Bool) (role : Role) → is_some (if b then Some role else None) ≡ true → b ≡ true
with_role true role some = refl
with_role false role some = some

-- why an address isn't fixed to a port of the plan that has a VLAN of its own, in which the address is on-link
pub static_is : (plan : Plan) (sets : List VlanSet) (a : ℕ) (port : Port) (vlan : ℕ) → has_port plan (number_of port) ≡ true → Some vlan ≡ access_vlan plan (number_of port) → is_some (method_in plan vlan a) ≡ true
    → (room : Bool) → may_hold plan (rows_by_vlan sets vlan) port a ≡ room → static_refusal plan (rows_by_vlan sets) a port ≡ (if not room then Some PortFull else None)
static_is plan sets a port vlan known own on_link room is =
    let rows : ℕ → List Row = rows_by_vlan sets in
    ap (λ (b : Bool). if not b then Some NoSuchPort else static_refusal_in plan rows a port (access_vlan plan (number_of port))) known
    ∙ ap (static_refusal_in plan rows a port) (sym own)
    ∙ ap (λ (b : Bool). if not b then Some OffLink else if not (may_hold plan (rows vlan) port a) then Some PortFull else None) on_link
    ∙ ap (λ (b : Bool). if not b then Some PortFull else None) is

module _ (plan : Plan) (sets : List VlanSet) (vlans : vlans_of_sets sets ≡ vlans_of plan) (place : ℕ) (inside : place < length (vlans_of plan)) where
  pub set_inside : place < length sets
  set_inside = omega (arith, inside, ap length vlans, length-map sets (λ (s : VlanSet). s.access.vlan))

  -- the VLAN of the set there
  pub set_vlan : (d : VlanSet) → (get_or sets place d).access.vlan ≡ vlan_at_place plan place
  set_vlan d = sym (get_or-map (λ (s : VlanSet). s.access.vlan) sets place d 0 set_inside) ∙ ap (λ (vs : List ℕ). get_or vs place 0) vlans

  -- an address that isn't refused may be fixed to the port of the VLAN there
  pub may_fix : (port : Port) (a : ℕ) (d : VlanSet) → All (λ (s : VlanSet). s.access.addresses.per_port ≡ plan.per_port) sets → vlan_of_place plan (Some place) ≡ access_vlan plan (number_of port) → static_refusal plan (rows_by_vlan sets) a port ≡ None
      → IsFixable (get_or sets place d).access.addresses.per_port (get_or sets place d).access.addresses.rows a (Fix port)
  may_fix port a d per_port own none =
      let given : IsGranted plan (rows_by_vlan sets) a port = granted plan (rows_by_vlan sets) a port none in
      let kept : Kept = (get_or sets place d).access in
      let there : given.vlan ≡ vlan_at_place plan place = same_Some given.vlan (vlan_at_place plan place) (sym given.vlan_is ∙ sym own) in
      let rows : rows_by_vlan sets given.vlan ≡ kept.addresses.rows = ap (rows_by_vlan sets) there ∙ rows_there plan sets vlans place inside d in
      subst (λ (n : ℕ). IsFixable n kept.addresses.rows a (Fix port)) (sym (per_port place d set_inside))
      (subst (λ (l : List Row). IsFixable plan.per_port l a (Fix port)) rows (fixable plan (rows_by_vlan sets given.vlan) a port given.fits))

  -- whether a port may hold an address there
  pub may_there : (port : Port) (a : ℕ) (d : VlanSet) → All (λ (s : VlanSet). s.access.addresses.per_port ≡ plan.per_port) sets
      → may_hold plan (rows_by_vlan sets (vlan_at_place plan place)) port a ≡ (may_hold_more (get_or sets place d).access.addresses.per_port (get_or sets place d).access.addresses.rows port || is_held_at (number_of port) (state_in (get_or sets place d).access.addresses.rows a))
  may_there port a d per_port =
      let rows : List Row = (get_or sets place d).access.addresses.rows in
      ap (λ (l : List Row). may_hold plan l port a) (rows_there plan sets vlans place inside d)
      ∙ ap (λ (n : ℕ). may_hold_more n rows port || is_held_at (number_of port) (state_in rows a)) (sym (per_port place d set_inside))

  -- whether an address has a state there
  pub state_there : (vlan a : ℕ) (d : VlanSet) → vlan_at_place plan place ≡ vlan → has_state (state_in (rows_by_vlan sets vlan) a) ≡ has_state (state_in (get_or sets place d).access.addresses.rows a)
  state_there vlan a d found =
      ap (λ (l : List Row). has_state (state_in l a)) (ap (rows_by_vlan sets) (sym found) ∙ rows_there plan sets vlans place inside d)

  pub may_clear : (vlan a : ℕ) (d : VlanSet) → vlan_at_place plan place ≡ vlan → clear_refusal plan (rows_by_vlan sets) vlan a ≡ None → IsTrue (has_state (state_in (get_or sets place d).access.addresses.rows a))
  may_clear vlan a d found none = sym (state_there vlan a d found) ∙ cleared plan (rows_by_vlan sets) vlan a none

  module _ (one : VlanSet) where
    -- what was told in the VLAN there
    told_one : (base : AccessBase) (past : List Mark) (t a : ℕ) (event : Ev) → AllRepresent (rules_of plan) base past t sets → Represents (rules_of plan) base (event_told (rules_of plan) base (vlan_at_place plan place) t past a event) t one.access
        → AllRepresent (rules_of plan) base (event_told (rules_of plan) base (vlan_at_place plan place) t past a event) t (set sets place one)
    told_one base past t a event all stands =
        let vlan : ℕ = vlan_at_place plan place in
        let rising : IsStrictlyIncreasing (vlans_of_sets sets) = subst (λ (vs : List ℕ). IsStrictlyIncreasing vs) (sym vlans) (vlans_rise plan.ports) in
        let is : get_or (vlans_of_sets sets) place 0 ≡ vlan = ap (λ (vs : List ℕ). get_or vs place 0) vlans in
        all_stand (rules_of plan) base past (event_told (rules_of plan) base vlan t past a event) some_port t sets place one set_inside rising all stands
        (λ other away. other_in other (Told (named_for (rules_of plan) base vlan t past a event)) past (ne_eqb vlan other (λ same. away (is ∙ same))))

    module _ (t a : ℕ) (d : VlanSet) where
      abbrev MovesBy : Ev → Type 0
      MovesBy event = Moves (rules_of plan) t (get_or sets place d).access one.access (λ base past. event_told (rules_of plan) base (get_or sets place d).access.vlan t past a event)

      moved : (event : Ev) → MovesBy event → (base : AccessBase) (past : List Mark) → AllRepresent (rules_of plan) base past t sets → AllRepresent (rules_of plan) base (event_told (rules_of plan) base (vlan_at_place plan place) t past a event) t (set sets place one)
      moved event moves base past all =
          told_one base past t a event all
          (subst (λ (v : ℕ). Represents (rules_of plan) base (event_told (rules_of plan) base v t past a event) t one.access) (set_vlan d) (moves base past (all place d set_inside)))

      pub fixed_there : (port : Port) → vlan_of_place plan (Some place) ≡ access_vlan plan (number_of port) → MovesBy (Fix port) → (base : AccessBase) (past : List Mark) → AllRepresent (rules_of plan) base past t sets
          → AllRepresent (rules_of plan) base (fixed_in plan base t (access_vlan plan (number_of port)) a port past) t (set sets place one)
      fixed_there port own moves base past all =
          subst (λ (v : Option ℕ). AllRepresent (rules_of plan) base (fixed_in plan base t v a port past) t (set sets place one)) own (moved (Fix port) moves base past all)

      pub cleared_there : (vlan : ℕ) → vlan_at_place plan place ≡ vlan → MovesBy Clear → (base : AccessBase) (past : List Mark) → AllRepresent (rules_of plan) base past t sets
          → AllRepresent (rules_of plan) base (event_told (rules_of plan) base vlan t past a Clear) t (set sets place one)
      cleared_there vlan found moves base past all =
          subst (λ (v : ℕ). AllRepresent (rules_of plan) base (event_told (rules_of plan) base v t past a Clear) t (set sets place one)) found (moved Clear moves base past all)

    pub ready_one : (t : ℕ) → IsAgedTo (rules_of plan) t one.access → AreAgedTo (rules_of plan) t sets → AreAgedTo (rules_of plan) t (set sets place one)
    ready_one t ready all = All-set (λ (s : VlanSet). IsAgedTo (rules_of plan) t s.access) sets place one ready all

    pub stations_one : (d : VlanSet) → one.access.vlan ≡ (get_or sets place d).access.vlan → one.fdb ≡ (get_or sets place d).fdb → stations_of_sets (set sets place one) ≡ stations_of_sets sets
    stations_one d vlan_is fdb_is =
        map-set_same (λ (s : VlanSet). (s.access.vlan, s.fdb)) sets place one d
        (ap (λ (v : ℕ). (v, one.fdb)) vlan_is ∙ ap (λ (stations : List Station). ((get_or sets place d).access.vlan, stations)) fdb_is)
