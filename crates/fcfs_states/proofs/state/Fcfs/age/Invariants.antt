use Rattle.fcfs_states.proofs.AgeingLemmas.{rank}
use Rattle.fcfs_states.proofs.AgedSoFar.{AgedSoFar}
use Rattle.fcfs_states.proofs.state.Fcfs.age.Given as goal

abbrev pub invariant-rows : goal.invariant-rows
invariant-rows l = AgedSoFar l.k l.t l.fn.self l.self l.aged.probes.items l.aged.changed

abbrev pub decreases-rows : goal.decreases-rows
decreases-rows l = rank l.self
