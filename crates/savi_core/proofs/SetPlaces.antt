-- What the set at a place has is what is found of its VLAN.
use Rattle.std.proofs.Common.{◌≡◌, ℕ, zero, suc, ◌+◌, ◌<◌, ◌==◌, Some, List, [], ◌∷◌, length, get_or, refl, sym, ap, subst, ◌∙◌, arith}
use Rattle.std.proofs.lemmas.Bool.{cond-true, cond-false, eq-eqb, ne_eqb}
use Rattle.savi_kinds.specs.declared.plan.Plan.{Plan}
use Rattle.savi_kinds.specs.Vlans.{vlans_of}
use Rattle.dhcp_states.specs.Requests.{open_at, requests_at_port}
use Rattle.savi_access.specs.Rows.{count_at}
use Rattle.savi_core.specs.declared.vlan_set.VlanSet.{VlanSet}
use Rattle.savi_core.specs.Shows.{held_by, pending_by}
use Rattle.savi_core.specs.VlanSets.{requests_in, rows_by_vlan, vlan_at_place, vlan_of_place, vlans_of_sets}
use Rattle.savi_core.proofs.Everywhere.{vlans_from}
use Rattle.savi_core.proofs.Keeping.{from_at}
use Rattle.savi_core.proofs.Rising.{AreFrom}

-- the set at a place, or this one
abbrev pub set_at : List VlanSet → ℕ → VlanSet → VlanSet
set_at sets place d = get_or sets place d

rows_at_place : (from : ℕ) (sets : List VlanSet) → AreFrom from (vlans_of_sets sets) → (i : ℕ) (d : VlanSet) → i < length (vlans_of_sets sets) → rows_by_vlan sets (get_or (vlans_of_sets sets) i 0) ≡ (get_or sets i d).access.addresses.rows
rows_at_place from [] are i d within = absurd (omega (arith, within))
rows_at_place from (set ∷ sets) are zero d within =
    cond-true (set.access.vlan == set.access.vlan) set.access.addresses.rows (rows_by_vlan sets set.access.vlan) (eq-eqb set.access.vlan set.access.vlan refl)
rows_at_place from (set ∷ sets) are (suc i) d within =
    let later = from_at (set.access.vlan + 1) (vlans_of_sets sets) i are.1 (omega (arith, within)) in
    cond-false (set.access.vlan == get_or (vlans_of_sets sets) i 0) set.access.addresses.rows (rows_by_vlan sets (get_or (vlans_of_sets sets) i 0))
    (ne_eqb set.access.vlan (get_or (vlans_of_sets sets) i 0) (λ same. absurd (omega (arith, later, same))))
    ∙ rows_at_place (set.access.vlan + 1) sets are.1 i d (omega (arith, within))

requests_at_place : (from : ℕ) (sets : List VlanSet) → AreFrom from (vlans_of_sets sets) → (i : ℕ) (d : VlanSet) → i < length (vlans_of_sets sets) → requests_in sets (get_or (vlans_of_sets sets) i 0) ≡ (get_or sets i d).access.requests
requests_at_place from [] are i d within = absurd (omega (arith, within))
requests_at_place from (set ∷ sets) are zero d within =
    cond-true (set.access.vlan == set.access.vlan) set.access.requests (requests_in sets set.access.vlan) (eq-eqb set.access.vlan set.access.vlan refl)
requests_at_place from (set ∷ sets) are (suc i) d within =
    let later = from_at (set.access.vlan + 1) (vlans_of_sets sets) i are.1 (omega (arith, within)) in
    cond-false (set.access.vlan == get_or (vlans_of_sets sets) i 0) set.access.requests (requests_in sets (get_or (vlans_of_sets sets) i 0))
    (ne_eqb set.access.vlan (get_or (vlans_of_sets sets) i 0) (λ same. absurd (omega (arith, later, same))))
    ∙ requests_at_place (set.access.vlan + 1) sets are.1 i d (omega (arith, within))

module _ (plan : Plan) (sets : List VlanSet) (vlans : vlans_of_sets sets ≡ vlans_of plan) (place : ℕ) (within : place < length (vlans_of plan)) (d : VlanSet) where
  set_from : AreFrom 0 (vlans_of_sets sets)
  set_from = subst (λ (vs : List ℕ). AreFrom 0 vs) (sym vlans) (vlans_from plan)

  inside : place < length (vlans_of_sets sets)
  inside = omega (arith, within, ap length vlans)

  -- of its addresses
  pub rows_there : rows_by_vlan sets (vlan_at_place plan place) ≡ (get_or sets place d).access.addresses.rows
  rows_there = ap (λ (vs : List ℕ). rows_by_vlan sets (get_or vs place 0)) (sym vlans) ∙ rows_at_place 0 sets set_from place d inside

  -- of its requests
  pub requests_there : requests_in sets (vlan_at_place plan place) ≡ (get_or sets place d).access.requests
  requests_there = ap (λ (vs : List ℕ). requests_in sets (get_or vs place 0)) (sym vlans) ∙ requests_at_place 0 sets set_from place d inside

  -- so a port holds there what it holds in its VLAN, and as many of its requests are open

  pub held_there : (number : ℕ) → held_by sets number (vlan_of_place plan (Some place)) ≡ count_at number (get_or sets place d).access.addresses.rows
  held_there number = ap (count_at number) rows_there

  pub pending_there : (number t : ℕ) → pending_by sets t number (vlan_of_place plan (Some place)) ≡ requests_at_port number (open_at t (get_or sets place d).access.requests)
  pending_there number t = ap (λ requests. requests_at_port number (open_at t requests)) requests_there
