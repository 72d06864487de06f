use Rattle.std.proofs.Common.{◌≡◌, ◌≢◌, ◌+◌, ◌<◌, suc, List, length, get_or, drop, Some, None, sym, ◌∙◌, ap, arith}
use Rattle.std.proofs.lemmas.Bool.{eqb-true, eqb-false}
use Rattle.std.proofs.lemmas.List.{at_drop_all}
use Rattle.savi_kinds.specs.declared.plan.PortPlan.{PortPlan}
use Rattle.savi_kinds.specs.declared.plan.Vlan.TheVariants.{Access}
use Rattle.savi_kinds.specs.Ports.{number_of}
use Rattle.savi_kinds.specs.Vlans.{access_number, vlan_among}
use Rattle.v4_snoop.proofs.AtPorts.{first_is, first_isnt}
use Rattle.v4_snoop.proofs.port_vlans.own_vlan.Goals as goal

pub loop-port-preserved : goal.loop-port-preserved
loop-port-preserved c =
    let ports = c.args.ports.now in
    let i = c.loop-port.port-index in
    let within : i < length ports = omega arith in
    let differs : number_of c.port-item.result.number ≢ c.args.number = eqb-false (number_of c.port-item.result.number) c.args.number (sym c.has_number.ensures ∙ c.if-has_number.false) in
    let next : suc i ≡ i + 1 = omega arith in
    c.loop-port.invariant
    ∙ first_isnt ports i c.args.number c.port-item.result within (λ is. differs (ap (λ (p : PortPlan). number_of p.number) c.port-item.is ∙ is))
    ∙ ap (λ k. vlan_among (drop k ports) c.args.number) next

pub returns-then-has_number : goal.returns-then-has_number
returns-then-has_number c = λ vlan is.
    let ports = c.args.ports.now in
    let i = c.loop-port.port-index in
    let within : i < length ports = omega arith in
    let same : number_of c.port-item.result.number ≡ c.args.number = eqb-true (number_of c.port-item.result.number) c.args.number (sym c.has_number.ensures ∙ c.if-has_number.true) in
    let number : number_of (get_or ports i c.port-item.result).number ≡ c.args.number = ap (λ (p : PortPlan). number_of p.number) (sym c.port-item.is) ∙ same in
    let found : Some c.port-item.result.vlan ≡ Some (Access vlan) =
    ap (λ (p : PortPlan). Some p.vlan) c.port-item.is ∙ sym (c.loop-port.invariant ∙ first_is ports i c.args.number c.port-item.result within number) ∙ is in
    let own : c.port-item.result.vlan ≡ Access vlan = cc in
    c.access_number.ensures ∙ ap access_number own

pub returns : goal.returns
returns c = λ vlan is.
    let none : None ≡ Some (Access vlan) =
    sym (c.loop-port.invariant ∙ at_drop_all (λ (ports : List PortPlan). vlan_among ports c.args.number) c.args.ports.now c.loop-port.port-index (omega arith)) ∙ is in
    cc
