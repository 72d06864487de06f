use Rattle.std.proofs.Common.{ℕ, Result, Ok, Err, IfOk}
use Rattle.savi_access.specs.Plans.{rules_of}
use Rattle.access_table.specs.Kept.{Kept, IsAgedTo}
use Rattle.access_runs.proofs.switch.at_start.Goals as goal

pub returns : goal.returns
returns c = at_any c.make.result c.make.ensures.ready
  where
    at_any : {E : Type 0} (r : Result Kept E) → IfOk r (λ table. (t : ℕ) → IsAgedTo (rules_of c.args.plan.now) t table) → IfOk r (λ table. (from : ℕ) × IsAgedTo (rules_of c.args.plan.now) from table)
    at_any (Ok table) ready = (0, ready 0)
    at_any (Err e) ready = tt
