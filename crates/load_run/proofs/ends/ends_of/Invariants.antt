use Rattle.load_run.proofs.Holding.{AreHeld}
use Rattle.load_run.proofs.ends.ends_of.Given as goal

abbrev pub invariant-loop-octets : goal.invariant-loop-octets
invariant-loop-octets l = AreHeld l.ports l.yielded l.held.items
