use Rattle.std.proofs.Common.{◌≡◌, ◌==◌, ℕ, true, false, refl, ap, sym, ◌∙◌}
use Rattle.std.specs.List.{list_any}
use Rattle.std.proofs.lemmas.Bool.{eq-eqb, or_left}
use Rattle.savi_kinds.specs.declared.plan.Role.{Role}
use Rattle.savi_kinds.specs.declared.plan.Vlan.{Vlan}
use Rattle.savi_kinds.specs.declared.plan.Vlan.TheVariants.{Access}
use Rattle.savi_kinds.specs.Ports.{number_of}
use Rattle.savi_kinds.specs.Vlans.{numbers_of_vlan, vlan_by}
use Rattle.savi_history.specs.Passes.{role_of}
use Rattle.savi_core.specs.VlanSets.{vlan_of_place}
use Rattle.savi_core.proofs.VlanPlaces.{access_found, access_none, own_access, plan_has, some_place, trunk_none, trusted_none}
use Rattle.savi_core.proofs.ports.Ports.place_of_access.Goals as goal

pub returns-in_err-own-clause-vlan : goal.returns-in_err-own-clause-vlan
returns-in_err-own-clause-vlan c =
    ap (vlan_of_place c.args.self.now) c.from_residual.ensures ∙ sym (access_none c.args.self.now.ports (number_of c.args.port) c.in_err-own.ensures.none.1)

pub returns-then-is_trusted-clause-vlan : goal.returns-then-is_trusted-clause-vlan
returns-then-is_trusted-clause-vlan c =
    let number = number_of c.args.port in
    let own : Vlan = c.in_ok-own.own.now.vlan in
    sym
    (access_found c.args.self.now.ports number own c.in_ok-own.ensures.vlan
    ∙ ap (λ (role : Role). vlan_by role own) (sym c.in_ok-own.ensures.role.1)
    ∙ trusted_none c.in_ok-own.own.now.role own (sym c.is_trusted.ensures ∙ c.if-is_trusted.true))

pub returns-in-Access-clause-vlan : goal.returns-in-Access-clause-vlan
returns-in-Access-clause-vlan c =
    let plan = c.args.self.now in
    let number = number_of c.args.port in
    let own : Vlan = c.in_ok-own.own.now.vlan in
    let v : ℕ = c.in-Access.vlan in
    let has : list_any (λ n. n == c.in-Access.vlan) (numbers_of_vlan c.in_ok-own.own.now.vlan) ≡ true =
    ap (λ (vlan : Vlan). list_any (λ n. n == c.in-Access.vlan) (numbers_of_vlan vlan)) c.in-Access.is ∙ or_left (v == v) false (eq-eqb v v refl) in
    some_place plan v c.place_of_vlan.result c.place_of_vlan.ensures.found c.place_of_vlan.ensures.none (plan_has plan number v own c.in_ok-own.ensures.vlan has)
    ∙ sym
    (access_found plan.ports number own c.in_ok-own.ensures.vlan
    ∙ ap (vlan_by (role_of plan number)) c.in-Access.is
    ∙ ap (λ (role : Role). vlan_by role (Access v)) (sym c.in_ok-own.ensures.role.1)
    ∙ own_access c.in_ok-own.own.now.role v (sym c.is_trusted.ensures ∙ c.if-is_trusted.false))

pub returns-in-Trunk-clause-vlan : goal.returns-in-Trunk-clause-vlan
returns-in-Trunk-clause-vlan c =
    let plan = c.args.self.now in
    let number = number_of c.args.port in
    let own : Vlan = c.in_ok-own.own.now.vlan in
    sym
    (access_found plan.ports number own c.in_ok-own.ensures.vlan
    ∙ ap (vlan_by (role_of plan number)) c.in-Trunk.is
    ∙ trunk_none (role_of plan number) c.in-Trunk.field-0)
