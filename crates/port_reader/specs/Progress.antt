-- What was put of an input while its reader goes on.
use Rattle.std.specs.Prelude.{◌≡◌, ℕ, Bool, true, false, List, [], length, Option}
use Rattle.savi_kinds.specs.declared.plan.Format.{Format}
use Rattle.savi_kinds.specs.declared.plan.Format.TheVariants as forms
use Rattle.savi_kinds.specs.Arrivals.{Arrival}
use Rattle.savi_ends.specs.Octets.{Takes}
use Rattle.pcap_io.specs.Kinds.{classic_kinds}
use Rattle.pcap_io.specs.Readers as captures
use Rattle.stream_io.specs.Calls.{AddsReadings, stamps_in}
use Rattle.stream_io.specs.Readers as streams
use Rattle.input_read.specs.Readers.{HasFailed}
use Rattle.input_read.specs.declared.input.PortInput.{PortInput}
use Rattle.input_read.specs.declared.reader.InputReader.{InputReader}
use Rattle.input_read.specs.declared.reader.InputReader.TheVariants as readers
use Rattle.parcel_ring.specs.Handed.{Handed}
use Rattle.port_reader.specs.Rows.{WasPut, all_handed}

-- the form that a reader reads
abbrev pub input_form : InputReader → Format
input_form (readers.Pcap state) = forms.Pcap
input_form (readers.Stream state) = forms.Stream

-- a reader that was new has taken these octets, and they gave these arrivals
abbrev pub HasRead : InputReader → List ℕ → List Arrival → Type 0
HasRead (readers.Pcap state) gave arrivals = captures.HasRead (captures.Fresh classic_kinds) state gave arrivals
HasRead (readers.Stream state) gave arrivals = streams.HasRead (streams.Running 0 []) state gave arrivals

-- The clock wasn't read for a capture, and made the stamps of these arrivals of a stream.
abbrev pub StampsSoFar : InputReader → Option (List ℕ) → Option (List ℕ) → List Arrival → Type 0
StampsSoFar (readers.Pcap state) read read_more arrivals = read_more ≡ read
StampsSoFar (readers.Stream state) read read_more arrivals = AddsReadings read read_more (stamps_in arrivals)

-- how many octets a reader has taken so far
abbrev pub octets_taken : InputReader → ℕ
octets_taken (readers.Pcap state) = captures.record_place state
octets_taken (readers.Stream state) = streams.octets_taken state

module _ {S C : Type 0} (left : S → Option (List ℕ)) (faults : S → ℕ) (readings : C → Option (List ℕ)) where
  -- what was read of an input of this form, from its first source and clock on, is what was put, and no read has failed
  pub record GoesOn (format : Format) (source : S) (clock : C) (input : PortInput S C) (put : List Handed) : Type 0 where
    pub arrivals : List Arrival
    pub given : put ≡ all_handed arrivals
    pub form : input_form input.reader ≡ format
    pub gave : List ℕ
    pub takes : Takes (left source) (left input.source) gave
    pub read : HasRead input.reader gave arrivals
    pub taken : octets_taken input.reader ≡ length gave
    pub stamped : StampsSoFar input.reader (readings clock) (readings input.clock) arrivals
    pub still : faults input.source ≡ faults source
    pub unbroken : ¬ HasFailed input.reader

  -- the input goes on, or has ended
  abbrev pub GoesOnOrEnds : Format → S → C → PortInput S C → List Handed → Bool → Type 0
  GoesOnOrEnds format source clock input put true = GoesOn format source clock input put
  GoesOnOrEnds format source clock input put false =
      WasPut left faults readings format put source input.source clock input.clock
