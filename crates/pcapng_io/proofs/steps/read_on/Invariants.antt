use Rattle.std.proofs.Common.{◌≡◌, ℕ, ◌+◌, ◌-◌, ◌^◌, List, [], length}
use Rattle.savi_ends.specs.Octets.{Takes}
use Rattle.pcapng_io.specs.Readers.{Reading, HasRead, IsSound}
use Rattle.pcapng_io.specs.ReaderStates.{standing_of}
use Rattle.pcapng_io.proofs.steps.read_on.Given as goal

-- the blocks that were read so far tell nothing
abbrev pub invariant-loop-whole : goal.invariant-loop-whole
invariant-loop-whole g l = record {
  still : g.S.Source.faults l.source ≡ g.S.Source.faults l.initial.source;
  sound : IsSound (standing_of l.position);
  read : (gave : List ℕ) × Takes (g.S.Source.left l.initial.source) (g.S.Source.left l.source) gave × HasRead (Reading (standing_of l.initial.position)) (Reading (standing_of l.position)) gave [] × (l.position.place ≡ l.initial.position.place + length gave);
}

abbrev pub decreases-loop-whole : goal.decreases-loop-whole
decreases-loop-whole g l = 2 ^ 62 - l.position.place
