use Rattle.std.proofs.Common.{◌≡◌, ℕ, ◌+◌, ◌%◌, ◌<◌, List, length}
use Rattle.savi_ends.specs.Octets.{Takes}
use Rattle.pcapng_io.specs.Options.{BlockOption, Settle}
use Rattle.pcapng_io.proofs.Walks.{HasWalked}
use Rattle.pcapng_io.proofs.options.read_options.Given as goal

-- what was taken so far are whole options
abbrev pub invariant-loop-missing : goal.invariant-loop-missing
invariant-loop-missing g l = record {
  still : g.S.Source.faults l.source ≡ g.S.Source.faults l.initial.source;
  words : l.missing % 4 ≡ 0;
  some : 0 < l.units;
  walked : (gave : List ℕ) × (earlier : List BlockOption) × Takes (g.S.Source.left l.initial.source) (g.S.Source.left l.source) gave × (length gave + l.missing ≡ l.len) × HasWalked l.order earlier gave × Settle l.is_interface earlier l.units;
}

abbrev pub decreases-loop-missing : goal.decreases-loop-missing
decreases-loop-missing g l = l.missing
