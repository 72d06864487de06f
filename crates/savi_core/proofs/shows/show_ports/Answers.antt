use Rattle.std.proofs.Common.{◌≡◌, ◌<◌, ◌≤◌, ◌++◌, List, length, get_or, [], ap, ◌∙◌, arith}
use Rattle.savi_kinds.specs.declared.plan.Plan.{Plan}
use Rattle.savi_kinds.specs.declared.plan.PortPlan.{PortPlan}
use Rattle.hist_store.proofs.LineLemmas.{written_next}
use Rattle.control_replies.specs.declared.port_row.PortRow.{PortRow}
use Rattle.control_replies.specs.Shows.{port_fields, port_line}
use Rattle.savi_core.specs.Shows.{kept_row}
use Rattle.savi_core.proofs.Shown.{item_known, all_ports}
use Rattle.savi_core.proofs.shows.show_ports.Goals as goal

pub port_row-requires-clause-known : goal.port_row-requires-clause-known
port_row-requires-clause-known c =
    let plan = c.args.ports.now in
    let items : c.as_slice-port-items.result.now ≡ plan.ports = c.as_slice-port-items.ensures ∙ ap (λ (p : Plan). p.ports) c.plan.ensures.plan in
    let within : c.loop-port.port-index < length plan.ports = omega (arith, c.loop-port-test.true, ap length items) in
    item_known plan c.loop-port.port-index c.port-item.result within (c.port-item.is ∙ ap (λ (ports : List PortPlan). get_or ports c.loop-port.port-index c.port-item.result) items)

pub loop-port-preserved : goal.loop-port-preserved
loop-port-preserved c =
    let was = c.loop-port.invariant in
    let plan = c.args.ports.now in
    let row : PortPlan → PortRow = kept_row c.args.sets.now c.args.queues.now c.args.ports.now c.args.t in
    let items : c.as_slice-port-items.result.now ≡ plan.ports = c.as_slice-port-items.ensures ∙ ap (λ (p : Plan). p.ports) c.plan.ensures.plan in
    let within : c.loop-port.port-index < length plan.ports = omega (arith, c.loop-port-test.true, ap length items) in
    let is : c.port-item.result ≡ get_or plan.ports c.loop-port.port-index c.port-item.result = c.port-item.is ∙ ap (λ (ports : List PortPlan). get_or ports c.loop-port.port-index c.port-item.result) items in
    record {
      text = written_next (λ (port : PortPlan). port_fields (row port)) plan.ports c.loop-port.port-index c.port-item.result [] c.loop-port.into c.put_port.new.self within is was.text
          (c.put_port.ensures.text ∙ ap (λ (r : PortRow). c.loop-port.into ++ port_line r) c.port_row.ensures);
      size = omega (arith, c.put_port.ensures.size, was.size);
    }

pub returns : goal.returns
returns c =
    let plan = c.args.ports.now in
    let items : c.as_slice-port-items.result.now ≡ plan.ports = c.as_slice-port-items.ensures ∙ ap (λ (p : Plan). p.ports) c.plan.ensures.plan in
    let all : length plan.ports ≤ c.loop-port.port-index = omega (arith, c.loop-port-test.false, ap length items) in
    all_ports (kept_row c.args.sets.now c.args.queues.now c.args.ports.now c.args.t) plan.ports c.loop-port.port-index c.loop-port.into c.put_end.new.self all c.loop-port.invariant.text c.put_end.ensures.text
