use Rattle.std.proofs.Common.{◌∷◌}
use Rattle.live_session.proofs.Same.{input_same}
use Rattle.live_session.proofs.StandsOn.{input_over, input_starts, same_input}
use Rattle.live_session.proofs.laws.inputs_stand_on.Goals as goal

pub returns-clause-start : goal.returns-clause-start
returns-clause-start c port = input_starts port

pub returns-clause-later : goal.returns-clause-later
returns-clause-later c plan before found now port taken kept legal later stands =
    input_same port (found ∷ before) (now ∷ before) taken kept (same_input plan before found now legal port later) stands

pub returns-clause-over : goal.returns-clause-over
returns-clause-over c plan before segment port taken kept legal ended stands = input_over plan before segment legal port taken kept ended stands

pub returns-clause-next : goal.returns-clause-next
returns-clause-next c before port taken kept stands = stands
