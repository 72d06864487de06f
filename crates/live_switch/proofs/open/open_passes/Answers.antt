use Rattle.std.proofs.Common.{◌≡◌, ℕ, ◌+◌, ◌<◌, Bool, List, length, slice_index_or, sym, ap, subst, ◌∙◌, arith}
use Rattle.std.proofs.lemmas.List.{get_or_default}
use Rattle.savi_kinds.specs.declared.plan.Plan.{Plan}
use Rattle.savi_kinds.specs.declared.plan.PortPlan.{PortPlan}
use Rattle.savi_core.specs.Machines.{base_of}
use Rattle.savi_history.specs.Passes.{has_ended}
use Rattle.live_switch.proofs.Opening.{AreOpenBelow, known_here, open_more, placed_here}
use Rattle.live_switch.proofs.open.open_passes.Goals as goal

pub ended-requires : goal.ended-requires
ended-requires c =
    let plan : Plan = c.args.core.now.plan in
    let ports : List PortPlan = c.as_slice-ports.result.now in
    let ports_are : ports ≡ plan.ports = c.as_slice-ports.ensures ∙ ap (λ (p : Plan). p.ports) c.plan.ensures in
    let k : ℕ = c.loop-port.port-index in
    let port : PortPlan = c.port-item.result in
    let within : k < length plan.ports = subst (λ (l : List PortPlan). k < length l) ports_are c.loop-port-test.true in
    known_here plan k port within (λ q. c.port-item.is ∙ get_or_default ports k port q c.loop-port-test.true ∙ ap (λ (l : List PortPlan). slice_index_or l k q) ports_are)

pub loop-port-preserved : goal.loop-port-preserved
loop-port-preserved c =
    let core = c.args.core.now in
    let plan : Plan = core.plan in
    let ports : List PortPlan = c.as_slice-ports.result.now in
    let ports_are : ports ≡ plan.ports = c.as_slice-ports.ensures ∙ ap (λ (p : Plan). p.ports) c.plan.ensures in
    let k : ℕ = c.loop-port.port-index in
    let port : PortPlan = c.port-item.result in
    let within : k < length plan.ports = subst (λ (l : List PortPlan). k < length l) ports_are c.loop-port-test.true in
    let placed =
    placed_here plan k port within (λ q. c.port-item.is ∙ get_or_default ports k port q c.loop-port-test.true ∙ ap (λ (l : List PortPlan). slice_index_or l k q) ports_are) c.history-history.ensures.valid in
    let ended : c.ended.result ≡ has_ended (base_of core) k core.past = c.ended.ensures ∙ ap (λ (n : ℕ). has_ended (base_of core) n core.past) placed in
    subst (λ (l : List Bool). AreOpenBelow plan (base_of core) core.past (k + 1) l) (sym c.push.ensures.items)
    (open_more plan (base_of core) core.past k c.loop-port.going.items c.ended.result ended c.loop-port.invariant)

pub loop-port-2-init : goal.loop-port-2-init
loop-port-2-init c =
    let core = c.args.core.now in
    let plan : Plan = core.plan in
    let base = base_of core in
    let ports : List PortPlan = c.as_slice-ports.result.now in
    let ports_are : ports ≡ plan.ports = c.as_slice-ports.ensures ∙ ap (λ (p : Plan). p.ports) c.plan.ensures in
    let k : ℕ = c.loop-port.port-index in
    let n : ℕ = length plan.ports in
    let all : k ≡ n = omega (arith, c.loop-port-test.false, c.loop-port.auto.port-index-end, ap (λ (l : List PortPlan). length l) ports_are) in
    let inputs : AreOpenBelow plan base core.past n c.loop-port.going.items = subst (λ (m : ℕ). AreOpenBelow plan base core.past m c.loop-port.going.items) all c.loop-port.invariant in
    let control : AreOpenBelow plan base core.past (n + 1) c.push-2.new.self.items =
    subst (λ (l : List Bool). AreOpenBelow plan base core.past (n + 1) l) (sym c.push-2.ensures.items)
    (open_more plan base core.past n c.loop-port.going.items c.ended-2.result c.ended-2.ensures inputs) in
    let ticker : AreOpenBelow plan base core.past (n + 1 + 1) c.push-3.new.self.items =
    subst (λ (l : List Bool). AreOpenBelow plan base core.past (n + 1 + 1) l) (sym c.push-3.ensures.items)
    (open_more plan base core.past (n + 1) c.push-2.new.self.items c.ended-3.result c.ended-3.ensures control) in
    let count : n + 1 + 1 ≡ n + 2 + 0 = omega arith in
    subst (λ (m : ℕ). AreOpenBelow plan base core.past m c.push-3.new.self.items) count ticker

pub ended-requires-in-loop-port-2 : goal.ended-requires-in-loop-port-2
ended-requires-in-loop-port-2 c =
    let plan : Plan = c.args.core.now.plan in
    let ports : List PortPlan = c.as_slice-ports.result.now in
    let ports_are : ports ≡ plan.ports = c.as_slice-ports.ensures ∙ ap (λ (p : Plan). p.ports) c.plan.ensures in
    let k : ℕ = c.loop-port-2.port-index in
    let port : PortPlan = c.port-item-in-loop-port-2.result in
    let within : k < length plan.ports = subst (λ (l : List PortPlan). k < length l) ports_are c.loop-port-2-test.true in
    known_here plan k port within (λ q. c.port-item-in-loop-port-2.is ∙ get_or_default ports k port q c.loop-port-2-test.true ∙ ap (λ (l : List PortPlan). slice_index_or l k q) ports_are)

pub loop-port-2-preserved : goal.loop-port-2-preserved
loop-port-2-preserved c =
    let core = c.args.core.now in
    let plan : Plan = core.plan in
    let base = base_of core in
    let ports : List PortPlan = c.as_slice-ports.result.now in
    let ports_are : ports ≡ plan.ports = c.as_slice-ports.ensures ∙ ap (λ (p : Plan). p.ports) c.plan.ensures in
    let k : ℕ = c.loop-port-2.port-index in
    let n : ℕ = length plan.ports in
    let port : PortPlan = c.port-item-in-loop-port-2.result in
    let within : k < length plan.ports = subst (λ (l : List PortPlan). k < length l) ports_are c.loop-port-2-test.true in
    let placed =
    placed_here plan k port within (λ q. c.port-item-in-loop-port-2.is ∙ get_or_default ports k port q c.loop-port-2-test.true ∙ ap (λ (l : List PortPlan). slice_index_or l k q) ports_are) c.history-history.ensures.valid in
    let ended : c.ended-in-loop-port-2.result ≡ has_ended base (n + 2 + k) core.past = c.ended-in-loop-port-2.ensures ∙ ap (λ (m : ℕ). has_ended base (n + 2 + m) core.past) placed in
    let count : n + 2 + k + 1 ≡ n + 2 + (k + 1) = omega arith in
    subst (λ (m : ℕ). AreOpenBelow plan base core.past m c.push-in-loop-port-2.new.self.items) count
    (subst (λ (l : List Bool). AreOpenBelow plan base core.past (n + 2 + k + 1) l) (sym c.push-in-loop-port-2.ensures.items)
    (open_more plan base core.past (n + 2 + k) c.loop-port-2.going.items c.ended-in-loop-port-2.result ended c.loop-port-2.invariant))
