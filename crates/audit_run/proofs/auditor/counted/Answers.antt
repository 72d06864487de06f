use Rattle.std.proofs.Common.{◌≡◌, ◌+◌, Bool, sym, ◌∙◌, ap, arith}
use Rattle.savi_history.specs.Summary.{capped}
use Rattle.audit_run.specs.PassedFrames.{one_if}
use Rattle.audit_run.proofs.auditor.counted.Goals as goal

pub returns-then-one : goal.returns-then-one
returns-then-one c = c.saturating_add.ensures ∙ ap (λ (b : Bool). capped (c.args.count + one_if b)) (sym c.if-one.true)

pub returns-else-one : goal.returns-else-one
returns-else-one c =
    let small : c.args.count ≡ capped (c.args.count + 0) = omega (arith, c.ranges.count.fits) in
    small ∙ ap (λ (b : Bool). capped (c.args.count + one_if b)) (sym c.if-one.false)
