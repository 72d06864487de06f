use Rattle.std.proofs.Common.{◌≡◌, ◌≤◌, ◌-◌, ◌++◌, ℕ, List, length, take}
use Rattle.savi_ends.specs.Octets.{Takes}
use Rattle.stream_io.proofs.AheadHeld.{Unread}
use Rattle.stream_io.proofs.ahead.Ahead.fill.Given as goal

-- what was held at first and taken since is the front of the buffer and what is held
abbrev pub invariant-loop-at : goal.invariant-loop-at
invariant-loop-at g l = record {
  still : g.S.Source.faults l.source ≡ g.S.Source.faults l.initial.source;
  within : l.at ≤ length l.buf;
  taken : (gave : List ℕ) × Takes (g.S.Source.left l.initial.source) (g.S.Source.left l.source) gave × (l.initial.self ++ gave ≡ take l.at l.buf ++ l.self);
  unread : Unread l.source l.initial.source l.initial.self (take l.at l.buf) l.self;
}

abbrev pub decreases-loop-at : goal.decreases-loop-at
decreases-loop-at g l = length l.initial.buf - l.at
