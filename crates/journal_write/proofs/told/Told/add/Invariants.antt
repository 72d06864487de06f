use Rattle.std.proofs.Common.{◌≡◌, ◌++◌}
use Rattle.journal_write.proofs.Telling.{ends_first}
use Rattle.journal_write.proofs.told.Told.add.Given as goal

abbrev pub invariant-loop-n : goal.invariant-loop-n
invariant-loop-n l = record {
  entries : l.self.entries ≡ l.initial.self.entries;
  ends : l.self.ends.items ≡ l.initial.self.ends.items ++ ends_first l.hist.rows l.n;
}
