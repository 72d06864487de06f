use Rattle.mix_rules.proofs.EndLemmas.{due_first, due_never}
use Rattle.mix_rules.proofs.state.AddrState.due.Goals as goal

pub returns-clause-first : goal.returns-clause-first
returns-clause-first c = rw c.first_due.ensures (due_first c.args.k.now c.requires.times c.args.self.now)

pub returns-clause-never : goal.returns-clause-never
returns-clause-never c = due_never c.args.k.now c.requires.times c.args.self.now _ c.first_due.ensures
