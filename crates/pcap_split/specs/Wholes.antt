-- A file that is split, over all calls of a splitter from its start on.
use Rattle.std.specs.Prelude.{IfSome, ◌≡◌, ◌≤◌, ◌+◌, ℕ, List, ◌++◌, length, Option}
use Rattle.savi_kinds.specs.declared.entry.How.{How}
use Rattle.savi_kinds.specs.declared.entry.How.TheVariants as how
use Rattle.savi_ends.specs.Octets.{behind}
use Rattle.pcapng_io.specs.Runs.{Event, Arrive, at_start}
use Rattle.pcapng_io.specs.Readers.{State, Reading, HasRead, block_place, longest_block}
use Rattle.pcap_split.specs.declared.counts.Counts.{Counts}
use Rattle.pcap_split.specs.declared.output.Output.{Output}
use Rattle.pcap_split.specs.declared.split.SplitGot.{SplitGot}
use Rattle.pcap_split.specs.Splits.{split_text, no_tally, tally}
use Rattle.pcap_split.specs.Counts.{interfaces_of, tally_of}
use Rattle.pcap_split.specs.Going.{BreaksOff, IsAtBlock, Tells, HasBegun, Writes, EachOutput, split_behind}

-- an output holds the capture of its interface, behind what its sink held when it was handed out
pub record HasCapture {K : Type 0} (written : K → Option (List ℕ)) (events : List Event) (handed now : Output K) : Type 0 where
  pub same : now.interface ≡ handed.interface
  pub text : written now.sink ≡ behind (written handed.sink) (split_text handed.interface events)

-- All octets so far told these events, and the reader stands behind them, at the next block: they are counted, and each
-- output has the capture of its interface.
pub record IsSplit {K : Type 0} (written : K → Option (List ℕ)) (state : State) (counts : Counts) (handed now : List (Output K)) (gave : List ℕ) (events : List Event) : Type 0 where
  pub read : HasRead (Reading at_start) state gave events
  pub reading : IsAtBlock state
  pub place : block_place state ≡ length gave
  pub counted_is : tally_of counts (interfaces_of handed) ≡ tally no_tally events
  pub captures : EachOutput (HasCapture written events) handed now

-- what one call of a splitter says, where it doesn't fail to write
pub record IsCall {K : Type 0} (written : K → Option (List ℕ)) (faults : K → ℕ) (result : SplitGot) (old new : State) (counts counts' : Counts) (outputs outputs' : List (Output K)) (gave : List ℕ) (left : Option (List ℕ)) (events : List Event) : Type 0 where
  pub tells : Tells result old new gave left events
  pub begun : HasBegun result (tally_of counts (interfaces_of outputs)) events
  pub writes : Writes written faults result events outputs outputs'
  pub counted_is : tally_of counts' (split_behind result (interfaces_of outputs)) ≡ tally (tally_of counts (interfaces_of outputs)) events

-- A whole file was split: it tells these events and ends so, whatever is left, where that is told; they are counted, and
-- each output has the capture of its interface. From a block at fault on no more was read than the longest block has.
pub record IsSplitWhole {K : Type 0} (written : K → Option (List ℕ)) (counts : Counts) (handed now : List (Output K)) (gave : List ℕ) (left : Option (List ℕ)) (events : List Event) (ending : How) : Type 0 where
  pub taken : Arrive gave (record { events = events; ending = ending })
  pub whole : IfSome left (λ rest. Arrive (gave ++ rest) (record { events = events; ending = ending }))
  pub near : (at : ℕ) → ending ≡ how.Malformed at → length gave ≤ at + longest_block
  pub counted_is : tally_of counts (interfaces_of handed) ≡ tally no_tally events
  pub captures : EachOutput (HasCapture written events) handed now

-- A read failed: what was taken tells these events, and the block in which it failed wasn't known to have a total length that
-- no block has; they are counted, and each output has the capture of its interface so far.
pub record IsSplitFront {K : Type 0} (written : K → Option (List ℕ)) (counts : Counts) (handed now : List (Output K)) (gave : List ℕ) (events : List Event) : Type 0 where
  pub taken : (ending : How) × Arrive gave (record { events = events; ending = ending })
  pub unread : BreaksOff (Reading at_start) gave events
  pub counted_is : tally_of counts (interfaces_of handed) ≡ tally no_tally events
  pub captures : EachOutput (HasCapture written events) handed now
