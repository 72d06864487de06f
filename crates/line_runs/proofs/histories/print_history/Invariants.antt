use Rattle.std.proofs.Common.{◌≡◌}
use Rattle.line_runs.proofs.histories.print_history.Given as goal

-- the history has the room that was asked for
abbrev pub invariant-loop-line : goal.invariant-loop-line
invariant-loop-line g l = (l.hist.entry_room ≡ l.entries) × (l.hist.byte_room ≡ l.octets)
