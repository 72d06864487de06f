-- The VLANs of a plan, found by their places; and where a frame comes from.
use Rattle.std.proofs.Common.{◌≡◌, ◌≢◌, ℕ, ◌+◌, ◌<◌, ◌==◌, ◌||◌, Bool, true, false, Option, Some, None, IfSome, IfNone, is_some, All, List, [], ◌∷◌, length, map, get_or, refl, sym, ap, ◌∙◌, inl, inr, arith}
use Rattle.std.specs.List.{list_any, position, position_from}
use Rattle.std.proofs.lemmas.Bool.{cases_Bool, eq-eqb, eqb-true, false≢true, or_from, or_left, or_right}
use Rattle.std.proofs.lemmas.Iterator.Adapters.{position_from-zero}
use Rattle.std.proofs.lemmas.List.{get_or-map, length-map}
use Rattle.std.proofs.lemmas.List.Elements.{All-weaker}
use Rattle.std.proofs.lemmas.List.Folds.{list_any_at}
use Rattle.std.proofs.lemmas.List.Quantifiers.{position-Some}
use Rattle.std.proofs.lemmas.Option.{same_Some}
use Rattle.arrayvec.specs.ArrayVec.{ArrayVec}
use Rattle.savi_kinds.specs.declared.plan.Plan.{Plan}
use Rattle.savi_kinds.specs.declared.plan.PortPlan.{PortPlan}
use Rattle.savi_kinds.specs.declared.plan.Role.{Role}
use Rattle.savi_kinds.specs.declared.plan.Role.TheVariants.{Host, Server, Trusted}
use Rattle.savi_kinds.specs.declared.plan.Vlan.{Vlan}
use Rattle.savi_kinds.specs.declared.plan.Vlan.TheVariants.{Access, Trunk}
use Rattle.savi_kinds.specs.Ports.{number_of}
use Rattle.savi_kinds.specs.ValidPlan.{HasPlanVlans, IsValidPlan}
use Rattle.savi_kinds.specs.Vlans.{IsVlan, access_vlan, access_vlan_among, is_member_of, numbers_of_vlan, vlan_among, vlan_by, vlans_of}
use Rattle.savi_kinds.proofs.VlanSets.{vlans_all, vlans_have}
use Rattle.eth_frame.specs.declared.vlan_tag.Tag.{Tag}
use Rattle.eth_frame.specs.declared.vlan_tag.Tag.TheVariants as tags
use Rattle.savi_access.proofs.PlanRules.{own_ports}
use Rattle.checkpoint.specs.BaseLines.{has_vlan}
use Rattle.savi_history.specs.Passes.{has_port, is_trusted, role_among, role_of}
use Rattle.savi_history.specs.Vlans.{vlan_at, vlan_at_port}
use Rattle.savi_history.proofs.FrameVlans.{own_by}
use Rattle.savi_core.specs.declared.ports.VlanPorts.{VlanPorts}
use Rattle.savi_core.specs.PortTables.{ports_among}
use Rattle.savi_core.specs.VlanSets.{vlan_at_place, vlan_of_place}

-- the ports of a VLAN stand at its place
pub vlan_there : (plan : Plan) (table : List VlanPorts) (i : ℕ) (d : VlanPorts) → table ≡ map (ports_among plan.ports) (vlans_of plan) → i < length (vlans_of plan) → (get_or table i d).vlan ≡ vlan_at_place plan i
vlan_there plan table i d is within =
    ap (λ (l : List VlanPorts). (get_or l i d).vlan) is ∙ ap (λ (p : VlanPorts). p.vlan) (get_or-map (ports_among plan.ports) (vlans_of plan) i 0 d within)

-- a VLAN that is found is the plan's
found : (plan : Plan) (i vlan : ℕ) → i < length (vlans_of plan) → vlan_at_place plan i ≡ vlan → has_vlan plan vlan ≡ true
found plan i vlan within is = list_any_at (λ v. v == vlan) (vlans_of plan) i 0 within (eq-eqb (vlan_at_place plan i) vlan is)

-- where sources are validated, the VLAN of a frame is that of its port
pub own_origin : (plan : Plan) → IsValidPlan plan → (number : ℕ) (tag : Tag) (set : Option ℕ) → vlan_of_place plan set ≡ vlan_at_port (vlan_among plan.ports number) tag → (has_port plan number ≡ false → vlan_among plan.ports number ≡ None)
    → role_of plan number ≢ Trusted → IfSome set (λ s. access_vlan plan number ≡ Some (vlan_at_place plan s))
own_origin plan valid number tag None is none host = tt
own_origin plan valid number tag (Some s) is none host =
    elim (cases_Bool (has_port plan number)) [
      | inl known ↦ own_by (access_vlan plan number) (vlan_among plan.ports number) tag (vlan_at_place plan s) (own_ports plan valid number known host) (sym is)
      | inr unknown ↦
          let nothing : Some (vlan_at_place plan s) ≡ None = is ∙ ap (λ (port : Option Vlan). vlan_at_port port tag) (none unknown) in
          absurd (false≢true (sym (ap is_some nothing)))
    ]

-- the place of a VLAN among those of a plan, if it has one
pub record IsPlaceOf (plan : Plan) (vlan : ℕ) (place : Option ℕ) : Type 0 where
  pub within : IfSome place (λ p. p < length (vlans_of plan))
  pub found : IfSome place (λ p. vlan_at_place plan p ≡ vlan)
  pub none : IfNone place (has_vlan plan vlan ≡ false)
  pub some : IfSome place (λ p. has_vlan plan vlan ≡ true)

none_any : {X : Type 0} (test : X → Bool) (n : ℕ) (xs : List X) → position_from test n xs ≡ None → list_any test xs ≡ false
none_any test n [] none = refl
none_any test n (x ∷ xs) none =
    elim (cases_Bool (test x)) [
      | inl passes ↦
          let some : Some n ≡ None = rw passes at none in
          absurd (false≢true (sym (ap is_some some)))
      | inr fails ↦ or_from (test x) (list_any test xs) fails (none_any test (n + 1) xs (rw fails at none))
    ]

any_there : (ports : List PortPlan) (vlan : ℕ) (vs : List ℕ) → list_any (λ (p : VlanPorts). p.vlan == vlan) (map (ports_among ports) vs) ≡ list_any (λ v. v == vlan) vs
any_there ports vlan [] = refl
any_there ports vlan (v ∷ vs) = ap (λ (b : Bool). (v == vlan) || b) (any_there ports vlan vs)

pub place_is : (plan : Plan) (table : List VlanPorts) (vlan : ℕ) (place : Option ℕ) → table ≡ map (ports_among plan.ports) (vlans_of plan) → place ≡ position (λ p. p.vlan == vlan) table → IsPlaceOf plan vlan place
place_is plan table vlan None is none =
    let test : VlanPorts → Bool = λ (p : VlanPorts). p.vlan == vlan in
    record {
      within = tt;
      found = tt;
      none =
          sym (any_there plan.ports vlan (vlans_of plan)) ∙ ap (λ (l : List VlanPorts). list_any (λ (p : VlanPorts). p.vlan == vlan) l) (sym is)
          ∙ none_any test 0 table (sym (position_from-zero test table) ∙ sym none);
      some = tt;
    }
place_is plan table vlan (Some i) is some =
    let d : VlanPorts = ports_among plan.ports 0 in
    let facts = position-Some (λ (p : VlanPorts). p.vlan == vlan) table i d (sym some) in
    let within : i < length (vlans_of plan) = omega (arith, facts.0, ap length is, length-map (vlans_of plan) (ports_among plan.ports)) in
    let same : vlan_at_place plan i ≡ vlan = sym (vlan_there plan table i d is within) ∙ eqb-true (get_or table i d).vlan vlan facts.1 in
    record { within = within; found = same; none = tt; some = found plan i vlan within same }

-- a VLAN of the plan has a place there
pub some_place : (plan : Plan) (vlan : ℕ) (place : Option ℕ) → IfSome place (λ p. vlan_at_place plan p ≡ vlan) → IfNone place (has_vlan plan vlan ≡ false) → has_vlan plan vlan ≡ true → vlan_of_place plan place ≡ Some vlan
some_place plan vlan None found none has = absurd (false≢true (sym none ∙ has))
some_place plan vlan (Some p) found none has = ap Some found

-- the VLAN in which the sources of a port are validated, by its role and its VLANs

pub access_found : (ports : List PortPlan) (number : ℕ) (vlan : Vlan) → vlan_among ports number ≡ Some vlan → access_vlan_among ports number ≡ vlan_by (role_among ports number) vlan
access_found [] number vlan is = absurd (false≢true (ap is_some is))
access_found (p ∷ ports) number vlan is =
    elim (cases_Bool (number_of p.number == number)) [
      | inl here ↦
          let same : Some p.vlan ≡ Some vlan = rw here at is in
          rw here (ap (vlan_by p.role) (same_Some p.vlan vlan same))
      | inr other ↦
          let rest : vlan_among ports number ≡ Some vlan = rw other at is in
          rw other (access_found ports number vlan rest)
    ]

pub access_none : (ports : List PortPlan) (number : ℕ) → vlan_among ports number ≡ None → access_vlan_among ports number ≡ None
access_none [] number none = refl
access_none (p ∷ ports) number none =
    elim (cases_Bool (number_of p.number == number)) [
      | inl here ↦
          let some : Some p.vlan ≡ None = rw here at none in
          absurd (false≢true (sym (ap is_some some)))
      | inr other ↦
          let rest : vlan_among ports number ≡ None = rw other at none in
          rw other (access_none ports number rest)
    ]

pub trusted_none : (role : Role) (vlan : Vlan) → is_trusted role ≡ true → vlan_by role vlan ≡ None
trusted_none Host vlan is = absurd (false≢true is)
trusted_none Server vlan is = absurd (false≢true is)
trusted_none Trusted vlan is = refl

pub own_access : (role : Role) (vlan : ℕ) → is_trusted role ≡ false → vlan_by role (Access vlan) ≡ Some vlan
own_access Host vlan is = refl
own_access Server vlan is = refl
own_access Trusted vlan is = absurd (false≢true (sym is))

pub trunk_none : (role : Role) (vlans : ArrayVec ℕ) → vlan_by role (Trunk vlans) ≡ None
trunk_none Host vlans = refl
trunk_none Server vlans = refl
trunk_none Trusted vlans = refl

-- a VLAN of a port is one of the plan

listed : (ports : List PortPlan) (number v : ℕ) (own : Vlan) → vlan_among ports number ≡ Some own → list_any (λ n. n == v) (numbers_of_vlan own) ≡ true → list_any (is_member_of v) ports ≡ true
listed [] number v own is has = absurd (false≢true (ap is_some is))
listed (p ∷ ports) number v own is has =
    elim (cases_Bool (number_of p.number == number)) [
      | inl here ↦
          let same : Some p.vlan ≡ Some own = rw here at is in
          or_left (is_member_of v p) (list_any (is_member_of v) ports) (ap (λ (vlan : Vlan). list_any (λ n. n == v) (numbers_of_vlan vlan)) (same_Some p.vlan own same) ∙ has)
      | inr other ↦
          let rest : vlan_among ports number ≡ Some own = rw other at is in
          or_right (is_member_of v p) (list_any (is_member_of v) ports) (listed ports number v own rest has)
    ]

pub plan_has : (plan : Plan) (number v : ℕ) (own : Vlan) → vlan_among plan.ports number ≡ Some own → list_any (λ n. n == v) (numbers_of_vlan own) ≡ true → has_vlan plan v ≡ true
plan_has plan number v own is has = vlans_have v plan.ports ∙ listed plan.ports number v own is has

-- so is that of a frame at a port
pub taken_listed : (own : Vlan) (tag : Tag) (v : ℕ) → vlan_at own tag ≡ Some v → list_any (λ n. n == v) (numbers_of_vlan own) ≡ true
taken_listed (Access w) tags.None v is = or_left (w == v) false (eq-eqb w v (same_Some w v is))
taken_listed (Access w) (tags.Vid u) v is = absurd (false≢true (ap is_some is))
taken_listed (Access w) tags.Bad v is = absurd (false≢true (ap is_some is))
taken_listed (Trunk vlans) tags.None v is = absurd (false≢true (ap is_some is))
taken_listed (Trunk vlans) tags.Bad v is = absurd (false≢true (ap is_some is))
taken_listed (Trunk vlans) (tags.Vid u) v is =
    elim (cases_Bool (list_any (λ n. n == u) vlans.items)) [
      | inl has ↦
          let same : Some u ≡ Some v = rw has at is in
          ap (λ (m : ℕ). list_any (λ n. n == m) vlans.items) (sym (same_Some u v same)) ∙ has
      | inr lacks ↦
          let none : None ≡ Some v = rw lacks at is in
          absurd (false≢true (ap is_some none))
    ]

-- the VLAN at a place has a number
pub vlan_number : (plan : Plan) (place : ℕ) → IsValidPlan plan → place < length (vlans_of plan) → IsVlan (vlan_at_place plan place)
vlan_number plan place valid within =
    vlans_all IsVlan plan.ports (All-weaker HasPlanVlans (λ (p : PortPlan). All IsVlan (numbers_of_vlan p.vlan)) (λ p has. has.numbers) plan.ports valid.port_vlans) place 0 within
