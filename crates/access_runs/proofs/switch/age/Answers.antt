use Rattle.savi_access.specs.Plans.{rules_of}
use Rattle.access_runs.proofs.switch.age.Goals as goal

pub returns : goal.returns
returns c = c.age_to.ensures.ready (rules_of c.args.plan.now) c.requires.ready.0 c.requires.ready.1
