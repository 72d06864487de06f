use Rattle.std.proofs.Common.{◌≡◌, ℕ, ◌+◌, List, length}
use Rattle.savi_ends.specs.Octets.{Takes}
use Rattle.pcapng_io.proofs.taking.pass_over.Given as goal

-- what was taken so far and what is still missing are the octets to be passed over
abbrev pub invariant-loop-missing : goal.invariant-loop-missing
invariant-loop-missing g l = record {
  still : g.S.Source.faults l.source ≡ g.S.Source.faults l.initial.source;
  taken : (gave : List ℕ) × Takes (g.S.Source.left l.initial.source) (g.S.Source.left l.source) gave × (length gave + l.missing ≡ l.len);
}

abbrev pub decreases-loop-missing : goal.decreases-loop-missing
decreases-loop-missing g l = l.missing
