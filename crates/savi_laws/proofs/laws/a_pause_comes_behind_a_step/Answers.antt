use Rattle.savi_laws.proofs.Progress.{pauses_behind_step}
use Rattle.savi_laws.proofs.laws.a_pause_comes_behind_a_step.Goals as goal

pub returns : goal.returns
returns c = λ plan base past valid legal paused. pauses_behind_step plan valid base past legal paused
