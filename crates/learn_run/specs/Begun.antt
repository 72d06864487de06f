-- Learning before anything came.
use Rattle.std.specs.Prelude.{◌≡◌, ℕ, ◌≤◌, [], length, vec_capacity}
use Rattle.savi_kinds.specs.declared.plan.Plan.{Plan}
use Rattle.savi_ends.specs.declared.sink.Put.{Put}
use Rattle.ra_learn.specs.Reports.{HasReported}
use Rattle.learn_run.specs.declared.learning.Learning.{Learning}

-- nothing came and nothing was written, for this plan and a window of this length (ms), and there is room for the ends of
-- all inputs
pub record IsBegun (plan : Plan) (window : ℕ) (learning : Learning) : Type 0 where
  pub tells : HasReported plan window [] learning.report
  pub put : learning.report.put ≡ Put.Done
  pub none : learning.endings.items ≡ []
  pub room : length plan.ports ≤ vec_capacity learning.endings
