use Rattle.std.proofs.Common.{ℕ, ◌≡◌, ◌⊎◌, ◌≤◌, ◌-◌, ◌++◌, List, length, take}
use Rattle.savi_ends.specs.Octets.{Takes}
use Rattle.cli_lang.specs.Arrivals.{HasNoFeed}
use Rattle.cli_lang.proofs.taking.take_line.Given as goal

-- what was taken so far are the octets in the buffer and those that are held
abbrev pub invariant-loop-octet : goal.invariant-loop-octet
invariant-loop-octet g l = record {
  still : g.S.Source.faults l.source ≡ g.S.Source.faults l.initial.source;
  size : length l.buf ≡ 120;
  within : l.n ≤ 120;
  apart : HasNoFeed (take l.n l.buf);
  taken : (gave : List ℕ) × Takes (g.S.Source.left l.initial.source) (g.S.Source.left l.source) gave × (l.initial.ahead ++ gave ≡ take l.n l.buf ++ l.ahead);
  unread : ((l.source ≡ l.initial.source) × (l.initial.ahead ≡ take l.n l.buf ++ l.ahead)) ⊎ ((rest : List ℕ) × (take l.n l.buf ≡ l.initial.ahead ++ rest));
}

abbrev pub decreases-loop-octet : goal.decreases-loop-octet
decreases-loop-octet g l = 120 - l.n
