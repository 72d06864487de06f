use Rattle.std.proofs.Common.{ap}
use Rattle.intake_ring.proofs.Rules.{pushes}
use Rattle.intake_ring.proofs.filler.Filler.put.Goals as goal

pub push_as-requires-clause-rule : goal.push_as-requires-clause-rule
push_as-requires-clause-rule g c = (pushes _ _ _ _ (ap (λ v. v.puts) c.loop.self.puts), λ items views keeps at. tt)
