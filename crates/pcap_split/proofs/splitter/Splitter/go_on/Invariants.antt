use Rattle.std.proofs.Common.{◌≡◌, ℕ, ◌+◌, ◌-◌, ◌^◌, List, length, IfSome}
use Rattle.savi_kinds.specs.declared.entry.How.TheVariants as how
use Rattle.savi_ends.specs.Octets.{Takes}
use Rattle.pcapng_io.specs.Runs.{Event}
use Rattle.pcapng_io.specs.Readers.{Ended, HasRead, block_place}
use Rattle.pcap_split.specs.Splits.{tally}
use Rattle.pcap_split.specs.Counts.{interfaces_of, tally_of}
use Rattle.pcap_split.specs.Going.{EachOutput, HasTaken, last_got}
use Rattle.pcap_split.specs.States.{IsWithin}
use Rattle.pcap_split.proofs.Goings.{IsOn}
use Rattle.pcap_split.proofs.splitter.Splitter.go_on.Given as goal

-- what was read so far was counted and written
abbrev pub invariant-loop-got : goal.invariant-loop-got
invariant-loop-got g l = record {
  still : g.S.Source.faults l.source ≡ g.S.Source.faults l.initial.source;
  within : IsWithin l.self-inside.reader l.self-inside.counts;
  on : IsOn l.initial.self-inside.reader l.self-inside.reader;
  idle : IfSome (last_got l.initial.self-inside.reader) (λ got. (l.self-inside.reader ≡ l.initial.self-inside.reader) × (l.self-inside.counts ≡ l.initial.self-inside.counts) × (l.source ≡ l.initial.source) × (l.outputs ≡ l.initial.outputs));
  failed : l.self-inside.reader ≡ Ended how.Failed → l.initial.self-inside.reader ≡ Ended how.Failed;
  split : (gave : List ℕ) × (events : List Event) × Takes (g.S.Source.left l.initial.source) (g.S.Source.left l.source) gave × HasRead l.initial.self-inside.reader l.self-inside.reader gave events
      × (block_place l.self-inside.reader ≡ block_place l.initial.self-inside.reader + length gave)
      × EachOutput (HasTaken g.K.Sink.written g.K.Sink.faults events) l.initial.outputs l.outputs
      × (tally_of l.self-inside.counts (interfaces_of l.initial.outputs) ≡ tally (tally_of l.initial.self-inside.counts (interfaces_of l.initial.outputs)) events);
}

abbrev pub decreases-loop-got : goal.decreases-loop-got
decreases-loop-got g l = 2 ^ 62 - block_place l.self-inside.reader
