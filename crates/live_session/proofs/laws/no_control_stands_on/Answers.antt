use Rattle.std.proofs.Common.{◌∷◌}
use Rattle.live_session.proofs.Same.{no_control_same}
use Rattle.live_session.proofs.StandsOn.{no_control_over, no_control_starts, same_control}
use Rattle.live_session.proofs.laws.no_control_stands_on.Goals as goal

pub returns-clause-start : goal.returns-clause-start
returns-clause-start c = no_control_starts

pub returns-clause-later : goal.returns-clause-later
returns-clause-later c plan before found now legal later stands =
    no_control_same plan (found ∷ before) (now ∷ before) (same_control plan before found now legal later) stands

pub returns-clause-next : goal.returns-clause-next
returns-clause-next c before stands = record { none = stands.none; ended = stands.ended }

pub returns-clause-over : goal.returns-clause-over
returns-clause-over c plan before segment legal ended stands = no_control_over plan before segment legal ended stands
