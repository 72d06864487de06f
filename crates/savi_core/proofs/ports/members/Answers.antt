use Rattle.std.proofs.Common.{◌+◌, ◌<◌, ℕ, length, drop, sym, ap, ◌∙◌, arith}
use Rattle.std.proofs.lemmas.List.{at_drop_all}
use Rattle.savi_kinds.specs.declared.plan.PortPlan.{PortPlan}
use Rattle.savi_kinds.specs.declared.port.PortSet.{PortSet}
use Rattle.savi_kinds.specs.Ports.{number_of}
use Rattle.savi_core.proofs.Scopes.{is_inside}
use Rattle.savi_core.proofs.Sets.{union, none-union, union-none, chosen, chosen_taken, chosen_left}
use Rattle.savi_core.proofs.ports.members.Goals.{then-is_chosen, else-is_chosen}
use Rattle.savi_core.proofs.ports.members.Goals as goal

pub loop-port-init : goal.loop-port-init
loop-port-init c =
    let all = chosen (λ (q : PortPlan). number_of q.number) (is_inside c.args.vlan c.args.scope) c.args.ports.now in
    ap (λ (set : PortSet). union set all) c.empty-set.ensures ∙ none-union all

pub loop-port-preserved : goal.loop-port-preserved
loop-port-preserved c =
    let ports = c.args.ports.now in
    let i = c.loop-port.port-index in
    let number : PortPlan → ℕ = λ q. number_of q.number in
    let rest = chosen number (is_inside c.args.vlan c.args.scope) (drop (i + 1) ports) in
    let all = chosen number (is_inside c.args.vlan c.args.scope) ports in
    let within : i < length ports = omega arith in
    elim c.if-is_chosen.branch [
      | then-is_chosen w ↦
          ap (λ set. union set rest) (w.set-is ∙ w.with-set.ensures.value)
          ∙ chosen_taken number (is_inside c.args.vlan c.args.scope) ports i c.port-item.result c.loop-port.set all within c.port-item.is (sym c.is_chosen.ensures ∙ w.if-is_chosen.true) c.loop-port.invariant
      | else-is_chosen w ↦
          ap (λ set. union set rest) w.set-is
          ∙ chosen_left number (is_inside c.args.vlan c.args.scope) ports i c.port-item.result c.loop-port.set all within c.port-item.is (sym c.is_chosen.ensures ∙ w.if-is_chosen.false) c.loop-port.invariant
    ]

pub returns : goal.returns
returns c =
    let number : PortPlan → ℕ = λ q. number_of q.number in
    sym (union-none c.loop-port.set)
    ∙ ap (union c.loop-port.set) (sym (at_drop_all (chosen number (is_inside c.args.vlan c.args.scope)) c.args.ports.now c.loop-port.port-index (omega arith)))
    ∙ c.loop-port.invariant
