use Rattle.std.proofs.Common.{◌≡◌, ℕ, List, ◌++◌, length, get_or, Vec, Global, vec_capacity, arith, sym, ◌∙◌, ap}
use Rattle.savi_kinds.specs.declared.plan.PortPlan.{PortPlan}
use Rattle.savi_kinds.specs.Ports.{number_of}
use Rattle.ra_learn.specs.Printed.{guard_line, learned_port_line}
use Rattle.ra_learn.specs.Link.{is_link_port}
use Rattle.ra_learn.proofs.Kept.{line_kept, line_left_out}
use Rattle.ra_learn.proofs.report.put_ports.Goals as goal
use Rattle.ra_learn.proofs.report.put_ports.Goals.{then-is_link_port, else-is_link_port}

pub loop-port-preserved : goal.loop-port-preserved
loop-port-preserved c =
    let i : ℕ = c.loop-port.port-index in
    let line : PortPlan → List ℕ = learned_port_line c.args.learner.now c.args.moment in
    let one : PortPlan = c.port-item.result in
    let link : is_link_port (get_or c.args.ports.now i one) ≡ c.is_link_port.result = ap is_link_port (sym c.port-item.is) ∙ sym c.is_link_port.ensures in
    elim c.if-is_link_port.branch [
      | then-is_link_port w ↦ record {
        items =
            ap (λ (v : Vec ℕ Global). v.items) w.text-is
            ∙ w.push_line.ensures.items
            ∙ ap (λ more. c.loop-port.text.items ++ more) (w.put_port.ensures ∙ ap (guard_line (number_of one.number)) w.state-guard.ensures.kept ∙ ap line c.port-item.is)
            ∙ line_kept line is_link_port c.args.ports.now i one c.loop-port-test.true (link ∙ w.if-is_link_port.true) c.args.text.now.items c.loop-port.text.items c.loop-port.invariant.items;
        len = omega (arith, ap (λ (v : Vec ℕ Global). length v.items) w.text-is, w.push_line.ensures.len, c.loop-port.invariant.len);
        capacity = omega (arith, ap vec_capacity w.text-is, w.push_line.ensures.capacity, c.loop-port.invariant.capacity);
      }
      | else-is_link_port w ↦ record {
        items =
            ap (λ (v : Vec ℕ Global). v.items) w.text-is
            ∙ line_left_out line is_link_port c.args.ports.now i one c.loop-port-test.true (link ∙ w.if-is_link_port.false) c.args.text.now.items c.loop-port.text.items c.loop-port.invariant.items;
        len = omega (arith, ap (λ (v : Vec ℕ Global). length v.items) w.text-is, c.loop-port.invariant.len);
        capacity = omega (arith, ap vec_capacity w.text-is, c.loop-port.invariant.capacity);
      }
    ]
