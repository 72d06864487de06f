use Rattle.std.proofs.Common.{◌≡◌, ◌≤◌, ◌<◌, ◌+◌, ◌-◌, ℕ, get_or}
use Rattle.bind_table.specs.Counts.{once_in}
use Rattle.bind_table.proofs.counts.count_ports.Given as goal

abbrev pub invariant-loop-place : goal.invariant-loop-place
invariant-loop-place l =
    ((port : ℕ) → 1 ≤ port → port ≤ l.place → get_or l.counts (port - 1) 0 + once_in l.left port ≡ get_or l.initial.counts (port - 1) 0 + once_in l.came port)
    × ((port : ℕ) → l.place < port → port ≤ 16 → get_or l.counts (port - 1) 0 ≡ get_or l.initial.counts (port - 1) 0)
