use Rattle.std.proofs.Common.{◌++◌, ◌∷◌, [], List, ap, sym, ◌∙◌, map, take, arith}
use Rattle.std.proofs.lemmas.List.{take_more, take_all, map-append}
use Rattle.savi_kinds.specs.declared.plan.PortPlan.{PortPlan}
use Rattle.savi_kinds.specs.declared.port.PortSet.{PortSet}
use Rattle.savi_kinds.specs.PortSets.{no_ports}
use Rattle.egress_ring.specs.declared.item.Item.{Item as Queued}
use Rattle.savi_core.specs.Lanes.{Lane, empty_lane}
use Rattle.savi_core.specs.Rings.{Rings}
use Rattle.savi_core.proofs.queues.Queues.make.Goals as goal

pub loop-port-init : goal.loop-port-init
loop-port-init c = c.in_ok-queues.ensures.items

pub loop-port-preserved : goal.loop-port-preserved
loop-port-preserved c =
    let ports = c.args.ports.now in
    let i = c.loop-port.port-index in
    let lane : PortPlan → Lane Queued = empty_lane c.args.depth in
    c.in_ok-push.ensures.items
    ∙ ap (λ (lanes : List (Lane Queued)). lanes ++ c.in_ok-make.field-0 ∷ []) c.loop-port.invariant
    ∙ ap (λ (x : Lane Queued). map (empty_lane c.args.depth) (take i ports) ++ x ∷ []) c.in_ok-make.ensures
    ∙ sym (map-append (empty_lane c.args.depth) (take i ports) (c.port-item.result ∷ []))
    ∙ ap (map (empty_lane c.args.depth)) (sym (take_more ports i c.port-item.result (omega arith) ∙ ap (λ (p : PortPlan). take i ports ++ p ∷ []) (sym c.port-item.is)))

pub returns : goal.returns
returns c =
    ap (λ (set : PortSet). let r : Rings = record { lanes = c.loop-port.queues.items; shut = set; queued = 0; lost = 0 } in r) c.empty.ensures
    ∙ ap (λ (lanes : List (Lane Queued)). let r : Rings = record { lanes = lanes; shut = no_ports; queued = 0; lost = 0 } in r)
    (c.loop-port.invariant ∙ ap (map (empty_lane c.args.depth)) (take_all c.loop-port.port-index c.args.ports.now (omega arith)))
