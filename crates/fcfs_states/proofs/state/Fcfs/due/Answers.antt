use Rattle.fcfs_states.proofs.AgeingLemmas.{due_first}
use Rattle.fcfs_states.proofs.state.Fcfs.due.Goals as goal

pub returns-clause-first : goal.returns-clause-first
returns-clause-first c = rw c.first_due.ensures (due_first c.args.k.now c.requires.times c.args.self.now)
