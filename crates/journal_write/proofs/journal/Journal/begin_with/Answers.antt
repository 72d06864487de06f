use Rattle.std.proofs.Common.{ℕ, List, [], subst}
use Rattle.journal_write.specs.Written.{HasText}
use Rattle.journal_write.proofs.journal.Journal.begin_with.Goals as goal

pub returns-clause-begun : goal.returns-clause-begun
returns-clause-begun g c = λ first plan is was.
    subst (λ (t : List ℕ). HasText g.K.Sink.written g.K.Sink.faults first c.put_at_once.new.self t) is (c.put_at_once.ensures.text first [] was)
