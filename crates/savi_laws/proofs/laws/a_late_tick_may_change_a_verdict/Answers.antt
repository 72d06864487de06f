use Rattle.savi_laws.proofs.Example.{late_tick_matters}
use Rattle.savi_laws.proofs.laws.a_late_tick_may_change_a_verdict.Goals as goal

pub returns : goal.returns
returns c = late_tick_matters
