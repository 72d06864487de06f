use Rattle.savi_history.proofs.Cutting.{all_cut}
use Rattle.savi_history.proofs.laws.frames_are_cut_for_want_of_room.Goals as goal

pub returns : goal.returns
returns c plan base past legal = all_cut plan base past legal
