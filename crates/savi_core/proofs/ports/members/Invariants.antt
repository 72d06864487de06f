use Rattle.std.proofs.Common.{◌≡◌, drop}
use Rattle.savi_kinds.specs.declared.plan.PortPlan.{PortPlan}
use Rattle.savi_kinds.specs.Ports.{number_of}
use Rattle.savi_core.proofs.Scopes.{is_inside}
use Rattle.savi_core.proofs.Sets.{union, chosen}
use Rattle.savi_core.proofs.ports.members.Given as goal

abbrev pub invariant-loop-port : goal.invariant-loop-port
invariant-loop-port l =
    union l.set (chosen (λ (q : PortPlan). number_of q.number) (is_inside l.vlan l.scope) (drop l.port-index l.ports)) ≡ chosen (λ (q : PortPlan). number_of q.number) (is_inside l.vlan l.scope) l.ports
