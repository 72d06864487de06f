use Rattle.std.proofs.Common.{map, ◌+◌, ◌∷◌}
use Rattle.port_worker.specs.Inputs.{turn_moment}
use Rattle.port_worker.specs.LineInputs.{control_moment}
use Rattle.port_worker.specs.Choices.{IsFirstOf}
use Rattle.port_worker.proofs.choice.next_of.Given as goal

abbrev pub invariant-loop-place : goal.invariant-loop-place
invariant-loop-place g l = IsFirstOf (control_moment l.control ∷ map turn_moment l.ports) (l.place + 1) l.first
