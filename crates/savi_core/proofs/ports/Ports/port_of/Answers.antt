use Rattle.std.proofs.Common.{ℕ, List, ap, ◌∙◌, subst}
use Rattle.std.specs.Slice.{IsItemAt}
use Rattle.savi_kinds.specs.declared.plan.Plan.{Plan}
use Rattle.savi_kinds.specs.declared.plan.PortPlan.{PortPlan}
use Rattle.savi_kinds.specs.Ports.{number_of}
use Rattle.savi_kinds.specs.ValidPlan.{IsValidPlan}
use Rattle.savi_history.specs.Passes.{place_of}
use Rattle.savi_core.proofs.PlaceTable.{found_none, found_role, found_vlan}
use Rattle.savi_core.proofs.ports.Ports.port_of.Goals.{After-get}
use Rattle.savi_core.proofs.ports.Ports.port_of.Goals as goal

-- what is read is what stands at the place of the port
looked : (c : After-get) → IsItemAt c.args.self.now.ports (place_of c.args.self.now (number_of c.args.port)) c.get.result
looked c =
    subst (λ (i : ℕ). IsItemAt c.args.self.now.ports i c.get.result) c.place_of.ensures.place
    (subst (λ (xs : List PortPlan). IsItemAt xs c.place_of.result c.get.result) (c.as_slice.ensures ∙ ap (λ (p : Plan). p.ports) c.self.view_is) c.get.ensures.lookup)

pub returns-clause-valid : goal.returns-clause-valid
returns-clause-valid c = subst IsValidPlan c.self.view_is c.self.invariant.valid

pub returns-clause-role : goal.returns-clause-role
returns-clause-role c = found_role c.args.self.now (number_of c.args.port) c.get.result (looked c)

pub returns-clause-vlan : goal.returns-clause-vlan
returns-clause-vlan c = found_vlan c.args.self.now (number_of c.args.port) c.get.result (looked c)

pub returns-clause-none : goal.returns-clause-none
returns-clause-none c = found_none c.args.self.now (number_of c.args.port) c.get.result (looked c)
