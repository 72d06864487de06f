use Rattle.std.proofs.Common.{◌≡◌, length}
use Rattle.savi_core.specs.Turns.{reopened}
use Rattle.savi_core.proofs.Reopening.{reopened_from}
use Rattle.savi_core.proofs.queues.Queues.reopen.Given as goal

abbrev pub invariant-loop-place : goal.invariant-loop-place
invariant-loop-place l = record {
  size : length l.self-inside.queues.items ≡ length l.fn.self.lanes;
  lanes : reopened_from l.first l.ends.ends l.place l.self-inside.queues.items ≡ reopened l.first l.ends.ends l.fn.self.lanes;
  shut : l.self-inside.shut ≡ l.fn.self.shut;
  joined : l.self-inside.queued ≡ l.fn.self.queued;
  lost : l.self-inside.lost ≡ l.fn.self.lost;
}
