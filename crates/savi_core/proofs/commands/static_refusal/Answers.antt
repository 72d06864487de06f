use Rattle.std.proofs.Common.{ℕ, ◌≡◌, not, true, false, is_some, sym, ap, ◌∙◌}
use Rattle.savi_kinds.specs.declared.plan.Plan.{Plan}
use Rattle.savi_kinds.specs.Ports.{number_of}
use Rattle.savi_access.specs.Plans.{has_port, method_in}
use Rattle.savi_history.specs.Commands.{may_hold}
use Rattle.savi_core.specs.VlanSets.{rows_by_vlan, vlan_at_place}
use Rattle.savi_core.proofs.Ordering.{may_there, set_vlan, static_is, with_role}
use Rattle.savi_core.proofs.commands.static_refusal.Goals as goal

pub returns-then-not-may_fix : goal.returns-then-not-may_fix
returns-then-not-may_fix c =
    let plan = c.args.ports.now in
    let sets = c.args.sets.now in
    let a = c.args.address.0 in
    let number = number_of c.args.port in
    let set = c.index-sets-set.result in
    let vlan = vlan_at_place plan c.in-Some.set in
    let within = c.in-Some.ensures.within in
    let known : has_port plan number ≡ true = with_role (has_port plan number) _ (ap is_some (sym c.role_of.ensures) ∙ c.is_none.ensures ∙ ap not c.if-is_none.false) in
    let own : c.vlan.result ≡ vlan = c.vlan.ensures ∙ set_vlan plan sets c.requires.vlans c.in-Some.set within set in
    let on_link : is_some (method_in plan vlan a) ≡ true =
    sym (c.is_on_link.ensures.value ∙ ap (λ (p : Plan). is_some (method_in p c.vlan.result a)) c.plan.ensures.plan ∙ ap (λ (v : ℕ). is_some (method_in plan v a)) own) ∙ c.if-not-is_on_link.false in
    let room : may_hold plan (rows_by_vlan sets vlan) c.args.port a ≡ false =
    may_there plan sets c.requires.vlans c.in-Some.set within c.args.port a set c.requires.per_port ∙ sym c.may_fix.ensures.value ∙ c.if-not-may_fix.true in
    sym (static_is plan sets a c.args.port vlan known c.in-Some.ensures.vlan on_link false room)

pub returns : goal.returns
returns c =
    let plan = c.args.ports.now in
    let sets = c.args.sets.now in
    let a = c.args.address.0 in
    let number = number_of c.args.port in
    let set = c.index-sets-set.result in
    let vlan = vlan_at_place plan c.in-Some.set in
    let within = c.in-Some.ensures.within in
    let known : has_port plan number ≡ true = with_role (has_port plan number) _ (ap is_some (sym c.role_of.ensures) ∙ c.is_none.ensures ∙ ap not c.if-is_none.false) in
    let own : c.vlan.result ≡ vlan = c.vlan.ensures ∙ set_vlan plan sets c.requires.vlans c.in-Some.set within set in
    let on_link : is_some (method_in plan vlan a) ≡ true =
    sym (c.is_on_link.ensures.value ∙ ap (λ (p : Plan). is_some (method_in p c.vlan.result a)) c.plan.ensures.plan ∙ ap (λ (v : ℕ). is_some (method_in plan v a)) own) ∙ c.if-not-is_on_link.false in
    let room : may_hold plan (rows_by_vlan sets vlan) c.args.port a ≡ true =
    may_there plan sets c.requires.vlans c.in-Some.set within c.args.port a set c.requires.per_port ∙ sym c.may_fix.ensures.value ∙ c.if-not-may_fix.false in
    sym (static_is plan sets a c.args.port vlan known c.in-Some.ensures.vlan on_link true room)
