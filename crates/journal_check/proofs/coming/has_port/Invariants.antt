use Rattle.std.proofs.Common.{◌≡◌, ◌==◌, drop}
use Rattle.std.specs.List.{list_any}
use Rattle.savi_kinds.specs.Ports.{number_of}
use Rattle.savi_kinds.specs.ValidPlan.{numbers_of}
use Rattle.journal_check.proofs.coming.has_port.Given as goal

-- the ports before the loop's are others
abbrev pub invariant-loop-p : goal.invariant-loop-p
invariant-loop-p l = list_any (λ n. n == number_of l.port) (numbers_of l.p-items) ≡ list_any (λ n. n == number_of l.port) (numbers_of (drop l.p-index l.p-items))
