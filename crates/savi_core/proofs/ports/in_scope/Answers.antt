use Rattle.std.proofs.Common.{sym, ap, ◌∙◌}
use Rattle.savi_core.specs.declared.ports.VlanPorts.{VlanPorts}
use Rattle.savi_core.specs.PortTables.{members_among}
use Rattle.savi_core.proofs.Scopes.{trusted_with, trusted_alone}
use Rattle.savi_core.proofs.ports.in_scope.Goals as goal

pub returns-in-All : goal.returns-in-All
returns-in-All c all vlan is = ap (λ (p : VlanPorts). p.all) is ∙ ap (members_among vlan all) (sym c.in-All.is)

pub returns-in-TrustedOnly : goal.returns-in-TrustedOnly
returns-in-TrustedOnly c all vlan is = ap (λ (p : VlanPorts). p.trusted) is ∙ ap (members_among vlan all) (sym c.in-TrustedOnly.is)

pub returns-then-contains : goal.returns-then-contains
returns-then-contains c all vlan is =
    let ports = c.args.ports in
    let port = c.in-TrustedAnd.port in
    trusted_with vlan all port ports.all ports.trusted (ap (λ (p : VlanPorts). p.all) is) (ap (λ (p : VlanPorts). p.trusted) is) c.with.result (sym c.contains.ensures ∙ c.if-contains.true) c.with.ensures.members
    ∙ ap (members_among vlan all) (sym c.in-TrustedAnd.is)

pub returns-else-contains : goal.returns-else-contains
returns-else-contains c all vlan is =
    let ports = c.args.ports in
    let port = c.in-TrustedAnd.port in
    trusted_alone vlan all port ports.all ports.trusted (ap (λ (p : VlanPorts). p.all) is) (ap (λ (p : VlanPorts). p.trusted) is) (sym c.contains.ensures ∙ c.if-contains.false)
    ∙ ap (members_among vlan all) (sym c.in-TrustedAnd.is)
