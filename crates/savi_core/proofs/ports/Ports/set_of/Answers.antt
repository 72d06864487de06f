use Rattle.std.proofs.Common.{◌≡◌, ℕ, Option, ap, sym, ◌∙◌}
use Rattle.std.proofs.lemmas.Bool.{false≢true}
use Rattle.savi_kinds.specs.declared.plan.Vlan.{Vlan}
use Rattle.savi_kinds.specs.Ports.{number_of}
use Rattle.savi_kinds.specs.Vlans.{vlan_among}
use Rattle.savi_history.specs.Vlans.{vlan_at_port}
use Rattle.savi_core.specs.VlanSets.{vlan_of_place}
use Rattle.savi_core.proofs.VlanPlaces.{own_origin, plan_has, some_place, taken_listed}
use Rattle.savi_core.proofs.ports.Ports.set_of.Goals.{After-place_of_vlan}
use Rattle.savi_core.proofs.ports.Ports.set_of.Goals as goal

pub returns-in_err-own-clause-vlan : goal.returns-in_err-own-clause-vlan
returns-in_err-own-clause-vlan c =
    ap (vlan_of_place c.args.self.now) c.from_residual.ensures ∙ ap (λ (port : Option Vlan). vlan_at_port port c.args.tag) (sym c.in_err-own.ensures.none.1)

pub returns-in_err-vlan-clause-vlan : goal.returns-in_err-vlan-clause-vlan
returns-in_err-vlan-clause-vlan c =
    ap (vlan_of_place c.args.self.now) c.from_residual-in_err-vlan.ensures ∙ c.in_err-vlan.ensures ∙ ap (λ (port : Option Vlan). vlan_at_port port c.args.tag) (sym c.in_ok-own.ensures.vlan)

-- the place is that of the frame's VLAN
placed : (c : After-place_of_vlan) → vlan_of_place c.args.self.now c.place_of_vlan.result ≡ vlan_at_port (vlan_among c.args.self.now.ports (number_of c.args.port)) c.args.tag
placed c =
    let plan = c.args.self.now in
    let own : Vlan = c.in_ok-own.own.now.vlan in
    let v : ℕ = c.in_ok-vlan.vlan in
    some_place plan v c.place_of_vlan.result c.place_of_vlan.ensures.found c.place_of_vlan.ensures.none
    (plan_has plan (number_of c.args.port) v own c.in_ok-own.ensures.vlan (taken_listed own c.args.tag v (sym c.in_ok-vlan.ensures)))
    ∙ c.in_ok-vlan.ensures
    ∙ ap (λ (port : Option Vlan). vlan_at_port port c.args.tag) (sym c.in_ok-own.ensures.vlan)

pub returns-clause-vlan : goal.returns-clause-vlan
returns-clause-vlan c = placed c

pub returns-clause-own : goal.returns-clause-own
returns-clause-own c =
    own_origin c.args.self.now c.in_ok-own.ensures.valid (number_of c.args.port) c.args.tag c.place_of_vlan.result (placed c)
    (λ unknown. absurd (false≢true (sym unknown ∙ c.in_ok-own.ensures.role.0)))
