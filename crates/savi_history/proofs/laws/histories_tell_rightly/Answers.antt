use Rattle.savi_access.specs.Plans.{rules_of}
use Rattle.checkpoint.specs.Bases.{access_of}
use Rattle.savi_history.specs.Moments.{last_moment}
use Rattle.savi_history.specs.Marks.{marks}
use Rattle.savi_history.proofs.Telling.{early, told_rightly}
use Rattle.savi_history.proofs.laws.histories_tell_rightly.Goals as goal

pub returns-clause-told : goal.returns-clause-told
returns-clause-told c = λ plan base past valid within legal bytes. told_rightly plan valid base within past legal bytes

pub returns-clause-limits : goal.returns-clause-limits
returns-clause-limits c = λ plan base past valid within legal bytes.
    let told = told_rightly plan valid base within past legal bytes in
    c.states_and_requests_stay_a_base.ensures.kept (rules_of plan) (access_of base) (marks plan base past) (last_moment base past) within.access told.right told.last (early plan valid base within past legal)
