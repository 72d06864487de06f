use Rattle.std.proofs.Common.{◌≡◌, ◌+◌, ◌<◌, ℕ, true, true≢false, List, length, get_or, ap, sym, ◌∙◌, subst, below_more}
use Rattle.savi_kinds.specs.declared.plan.Plan.{Plan}
use Rattle.savi_kinds.specs.declared.plan.PortPlan.{PortPlan}
use Rattle.savi_history.specs.Passes.{has_ended}
use Rattle.savi_core.specs.Machines.{base_of}
use Rattle.savi_core.proofs.Shown.{item_known}
use Rattle.journal_check.proofs.OpenPasses.{egress_there}
use Rattle.journal_check.proofs.coming.have_ended.Goals as goal

pub ended-requires : goal.ended-requires
ended-requires c =
    let m = c.args.core.now in
    let ports = c.as_slice-port-items.ensures ∙ ap (λ (p : Plan). p.ports) c.plan.ensures in
    let k = c.loop-port.port-index in
    let p = c.port-item.result in
    item_known m.plan k p (subst (λ (ps : List PortPlan). k < length ps) ports c.loop-port-test.true) (c.port-item.is ∙ ap (λ (ps : List PortPlan). get_or ps k p) ports)

pub returns-then-not-ended : goal.returns-then-not-ended
returns-then-not-ended c =
    let m = c.args.core.now in
    let ports = c.as_slice-port-items.ensures ∙ ap (λ (p : Plan). p.ports) c.plan.ensures in
    let k = c.loop-port.port-index in
    let p = c.port-item.result in
    let within = subst (λ (ps : List PortPlan). k < length ps) ports c.loop-port-test.true in
    let pass = egress_there m.plan k p c.history-history.ensures.valid.ports within (c.port-item.is ∙ ap (λ (ps : List PortPlan). get_or ps k p) ports) in (
      λ no. absurd (true≢false (sym no)),
      λ all. absurd (true≢false (sym (all k within) ∙ sym (ap (λ (n : ℕ). has_ended (base_of m) n m.past) pass) ∙ sym c.ended.ensures ∙ c.if-not-ended.true)),
    )

pub loop-port-preserved : goal.loop-port-preserved
loop-port-preserved c =
    let m = c.args.core.now in
    let ports = c.as_slice-port-items.ensures ∙ ap (λ (p : Plan). p.ports) c.plan.ensures in
    let k = c.loop-port.port-index in
    let p = c.port-item.result in
    let within = subst (λ (ps : List PortPlan). k < length ps) ports c.loop-port-test.true in
    let pass = egress_there m.plan k p c.history-history.ensures.valid.ports within (c.port-item.is ∙ ap (λ (ps : List PortPlan). get_or ps k p) ports) in
    let last : has_ended (base_of m) (length m.plan.ports + 2 + k) m.past ≡ true = sym (ap (λ (n : ℕ). has_ended (base_of m) n m.past) pass) ∙ sym c.ended.ensures ∙ c.if-not-ended.false in
    below_more (λ (place : ℕ). has_ended (base_of m) (length m.plan.ports + 2 + place) m.past ≡ true) k c.loop-port.invariant last
