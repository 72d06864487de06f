use Rattle.std.proofs.Common.{ap, sym, ◌∙◌}
use Rattle.savi_kinds.specs.declared.plan.Plan.{Plan}
use Rattle.savi_history.specs.Passes.{has_pass}
use Rattle.savi_core.specs.Machines.{base_of}
use Rattle.journal_check.proofs.OpenPasses.{open_iff, closed_iff}
use Rattle.journal_check.proofs.coming.is_open.Goals as goal

pub ended-requires : goal.ended-requires
ended-requires c = ap (λ (p : Plan). has_pass p c.args.who) (sym c.plan.ensures) ∙ sym c.has_pass.ensures ∙ c.if-has_pass.true

pub returns-then-has_pass : goal.returns-then-has_pass
returns-then-has_pass c =
    let m = c.args.core.now in
    open_iff m.plan (base_of m) m.past c.args.who c.ended.result (ap (λ (p : Plan). has_pass p c.args.who) (sym c.plan.ensures) ∙ sym c.has_pass.ensures ∙ c.if-has_pass.true) c.ended.ensures

pub returns-else-has_pass : goal.returns-else-has_pass
returns-else-has_pass c =
    let m = c.args.core.now in
    closed_iff m.plan (base_of m) m.past c.args.who (ap (λ (p : Plan). has_pass p c.args.who) (sym c.plan.ensures) ∙ sym c.has_pass.ensures ∙ c.if-has_pass.false)
