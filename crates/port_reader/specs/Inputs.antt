-- What the octets of an input are, in either form, and how the arrivals that were read of a source fit it. `before` and
-- `after` are what the source had left, `read` and `read_more` what the clock had read, where they tell that.
use Rattle.std.specs.Prelude.{◌≡◌, ℕ, Bool, true, false, List, Option, IfSome}
use Rattle.savi_kinds.specs.declared.plan.Format.{Format}
use Rattle.savi_kinds.specs.declared.plan.Format.TheVariants.{Pcap, Stream}
use Rattle.savi_kinds.specs.declared.entry.How.{How}
use Rattle.savi_kinds.specs.declared.entry.How.TheVariants as hows
use Rattle.savi_kinds.specs.Arrivals.{Arrival}
use Rattle.savi_ends.specs.Octets.{Takes}
use Rattle.pcap_io.specs.Kinds.{classic_kinds}
use Rattle.pcap_io.specs.Runs.{Arrive}
use Rattle.pcap_io.specs.Readers as captures
use Rattle.stream_io.specs.Readers as streams
use Rattle.stream_io.specs.Streams.{IsRun}
use Rattle.stream_io.specs.Calls.{stamps_in, AddsReadings}

-- these octets are these arrivals, one after the other, and end so, where the input was seen to end or not
abbrev pub AreArrivals : Format → Bool → List ℕ → List Arrival → How → Type 0
AreArrivals Pcap seen octets arrivals ending =
    Arrive classic_kinds seen octets (record { arrivals = arrivals; ending = ending })
AreArrivals Stream seen octets arrivals ending = IsRun seen 0 arrivals ending octets

-- all that the source had left is these arrivals, and ends so
abbrev pub IsReadWhole : Format → Option (List ℕ) → List Arrival → How → Type 0
IsReadWhole format before arrivals ending = IfSome before (λ octets. AreArrivals format true octets arrivals ending)

-- What the source gave up is these arrivals, in front of the read that failed: behind them no whole arrival was read, and
-- none that is at fault.
pub record IsReadBroken (format : Format) (before after : Option (List ℕ)) (arrivals : List Arrival) : Type 0 where
  pub gave : List ℕ
  pub takes : Takes before after gave
  pub read : AreArrivals format false gave arrivals hows.Failed

-- An input that is read up to its end ends in no other way.
abbrev pub FitsRead : Format → Option (List ℕ) → Option (List ℕ) → List Arrival → How → Type 0
FitsRead format before after arrivals hows.End = IsReadWhole format before arrivals hows.End
FitsRead format before after arrivals (hows.Malformed at) = IsReadWhole format before arrivals (hows.Malformed at)
FitsRead format before after arrivals hows.Failed = IsReadBroken format before after arrivals
FitsRead format before after arrivals hows.Quit = ⊥
FitsRead format before after arrivals (hows.Overlong at) = ⊥
FitsRead format before after arrivals hows.Unwritten = ⊥
FitsRead format before after arrivals hows.Paused = ⊥

-- The arrivals of a capture carry their stamps, and the clock isn't read; those of a stream are stamped by the clock.
abbrev pub AreReadStamped : Format → Option (List ℕ) → Option (List ℕ) → List Arrival → Type 0
AreReadStamped Pcap read read_more arrivals = read_more ≡ read
AreReadStamped Stream read read_more arrivals = AddsReadings read read_more (stamps_in arrivals)

-- So many octets were taken of an input of this form that is at fault at this place: no more than the longest record has from
-- there on, and where octets are left no more than the front that is at fault; of a stream with the piece that came last.
abbrev pub IsNearInputFault : Format → ℕ → ℕ → Option (List ℕ) → Type 0
IsNearInputFault Pcap at taken left = captures.IsNearFault at taken left
IsNearInputFault Stream at taken left = streams.IsNearStreamFault at taken left
