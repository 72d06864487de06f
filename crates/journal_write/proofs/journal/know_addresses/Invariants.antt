use Rattle.std.proofs.Common.{take, All}
use Rattle.savi_history.specs.Journals.{IsAddress}
use Rattle.journal_write.proofs.journal.know_addresses.Given as goal

abbrev pub invariant-loop-plan : goal.invariant-loop-plan
invariant-loop-plan l = All (λ plan. IsAddress plan.prefix.net.0) (take l.plan-index l.prefixes)
