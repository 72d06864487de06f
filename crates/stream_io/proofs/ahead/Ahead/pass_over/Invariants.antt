use Rattle.std.proofs.Common.{◌≡◌, ◌+◌, ◌++◌, ℕ, List, length}
use Rattle.savi_ends.specs.Octets.{Takes}
use Rattle.stream_io.proofs.AheadHeld.{Unread}
use Rattle.stream_io.proofs.ahead.Ahead.pass_over.Given as goal

-- what was held at first and taken since is what was passed over and what is held
abbrev pub invariant-loop-missing : goal.invariant-loop-missing
invariant-loop-missing g l = record {
  still : g.S.Source.faults l.source ≡ g.S.Source.faults l.initial.source;
  taken : (front : List ℕ) × (gave : List ℕ) × (length front + l.missing ≡ l.len) × Takes (g.S.Source.left l.initial.source) (g.S.Source.left l.source) gave × (l.initial.self ++ gave ≡ front ++ l.self)
      × Unread l.source l.initial.source l.initial.self front l.self;
}

abbrev pub decreases-loop-missing : goal.decreases-loop-missing
decreases-loop-missing g l = l.missing
