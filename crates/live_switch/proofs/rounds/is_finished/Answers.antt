use Rattle.std.proofs.Common.{◌≡◌, ◌+◌, ℕ, List, true, length, ap, sym, subst, ◌∙◌, arith}
use Rattle.savi_kinds.specs.declared.plan.Plan.{Plan}
use Rattle.savi_kinds.specs.declared.plan.PortPlan.{PortPlan}
use Rattle.savi_kinds.specs.Ports.{number_of}
use Rattle.savi_history.specs.Passes.{egress_pass, has_ended, ticker_pass}
use Rattle.savi_core.specs.Machines.{base_of}
use Rattle.live_switch.proofs.Finishing.{HaveOutputsEnded, all_over, inputs_left, output_counted, output_pass, outputs_more, port_known, unfinished}
use Rattle.live_switch.proofs.rounds.is_finished.Goals.{then-inputs_left-gt0-via-then-inputs_left-gt0, then-inputs_left-gt0-via-else-inputs_left-gt0+then-not-ended}
use Rattle.live_switch.proofs.rounds.is_finished.Goals as goal

pub returns-then-inputs_left-gt0 : goal.returns-then-inputs_left-gt0
returns-then-inputs_left-gt0 c =
    let core = c.args.core.now in
    elim c.then-inputs_left-gt0.branch [
      | then-inputs_left-gt0-via-then-inputs_left-gt0 w ↦ inputs_left core.plan (base_of core) core.past c.inputs_left.result c.inputs_left.ensures w.if-inputs_left-gt0.true
      | then-inputs_left-gt0-via-else-inputs_left-gt0+then-not-ended w ↦ unfinished core.plan (base_of core) core.past (ticker_pass core.plan) (omega arith) (sym w.ended.ensures ∙ w.if-not-ended.true)
    ]

pub ended-requires-in-loop-port : goal.ended-requires-in-loop-port
ended-requires-in-loop-port c =
    let ports : List PortPlan = c.as_slice-port-items.result.now in
    let are : ports ≡ c.args.core.now.plan.ports = c.as_slice-port-items.ensures ∙ ap (λ (p : Plan). p.ports) c.plan.ensures in
    port_known c.args.core.now.plan ports are c.loop-port.port-index c.loop-port-test.true c.port-item.result c.port-item.is

pub returns-then-not-ended-2 : goal.returns-then-not-ended-2
returns-then-not-ended-2 c =
    let core = c.args.core.now in
    let ports : List PortPlan = c.as_slice-port-items.result.now in
    let are : ports ≡ core.plan.ports = c.as_slice-port-items.ensures ∙ ap (λ (p : Plan). p.ports) c.plan.ensures in
    let port : PortPlan = c.port-item.result in
    unfinished core.plan (base_of core) core.past (egress_pass core.plan (number_of port.number))
    (output_counted core.plan ports are c.loop-port.port-index c.loop-port-test.true port c.port-item.is c.requires) (sym c.ended-in-loop-port.ensures ∙ c.if-not-ended-2.true)

pub loop-port-preserved : goal.loop-port-preserved
loop-port-preserved c =
    let core = c.args.core.now in
    let ports : List PortPlan = c.as_slice-port-items.result.now in
    let are : ports ≡ core.plan.ports = c.as_slice-port-items.ensures ∙ ap (λ (p : Plan). p.ports) c.plan.ensures in
    let pass = output_pass core.plan ports are c.loop-port.port-index c.loop-port-test.true c.port-item.result c.port-item.is c.requires in
    outputs_more core.plan (base_of core) core.past c.loop-port.port-index
    (subst (λ (n : ℕ). has_ended (base_of core) n core.past ≡ true) pass (sym c.ended-in-loop-port.ensures ∙ c.if-not-ended-2.false)) c.loop-port.invariant

pub returns : goal.returns
returns c =
    let core = c.args.core.now in
    let are : c.as_slice-port-items.result.now ≡ core.plan.ports = c.as_slice-port-items.ensures ∙ ap (λ (p : Plan). p.ports) c.plan.ensures in
    let all : c.loop-port.port-index ≡ length c.as_slice-port-items.result.now = omega (arith, c.loop-port-test.false, c.loop-port.auto.port-index-end) in
    let ended : HaveOutputsEnded core.plan (base_of core) core.past (length core.plan.ports) = subst (λ (n : ℕ). HaveOutputsEnded core.plan (base_of core) core.past n) (all ∙ ap (λ (l : List PortPlan). length l) are) c.loop-port.invariant in
    all_over core.plan (base_of core) core.past c.inputs_left.result c.inputs_left.ensures c.if-inputs_left-gt0.false (sym c.ended.ensures ∙ c.if-not-ended.false) ended
