use Rattle.std.proofs.Common.{◌≡◌, ◌≤◌, ◌-◌, length, take}
use Rattle.savi_ends.specs.Octets.{Takes}
use Rattle.savi_ends.proofs.filling.fill.Given as goal

-- what was taken so far is the front of the buffer
abbrev pub invariant-loop-at : goal.invariant-loop-at
invariant-loop-at g l = record {
  still : g.S.Source.faults l.source ≡ g.S.Source.faults l.initial.source;
  within : l.at ≤ length l.buf;
  taken : Takes (g.S.Source.left l.initial.source) (g.S.Source.left l.source) (take l.at l.buf);
}

abbrev pub decreases-loop-at : goal.decreases-loop-at
decreases-loop-at g l = length l.initial.buf - l.at
