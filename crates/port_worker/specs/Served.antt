-- What a replay was to the ends of control and of the ports: its segments, and at each port what they say of its ends,
-- before and after.
use Rattle.std.specs.Prelude.{◌≡◌, ◌≢◌, ℕ, ◌<◌, ◌≤◌, Bool, true, false, List, length, slice_index_or, Option, Some}
use Rattle.savi_kinds.specs.declared.plan.Plan.{Plan}
use Rattle.savi_kinds.specs.declared.entry.How.{How}
use Rattle.savi_kinds.specs.declared.entry.How.TheVariants as hows
use Rattle.savi_kinds.specs.Arrivals.{Arrival, Input}
use Rattle.cli_lang.specs.Arrivals as control
use Rattle.savi_ends.specs.declared.world.Ends.{Ends}
use Rattle.savi_ends.specs.Faults.{Rose}
use Rattle.pcap_io.specs.Readers.{Comes}
use Rattle.hist_store.specs.Rows.{Row}
use Rattle.savi_history.specs.Fits.{Fits, IsWhole, IsBroken}
use Rattle.savi_history.specs.PortInputs.{arrived, input_end}
use Rattle.savi_history.specs.PortOutputs.{output_end, pieces, TookPieces}
use Rattle.savi_history.specs.Replay.{Stops}
use Rattle.savi_segments.specs.Replay.{replayed}
use Rattle.savi_segments.specs.Segments.{IsWholeSession}
use Rattle.savi_segments.specs.Sent.{sent_in, FitsOutputIn}
use Rattle.savi_segments.specs.Unbroken.{unbroken}
use Rattle.savi_core.specs.Machines.{port_number_at}
use Rattle.port_worker.specs.declared.control_ends.ControlEnds.{ControlEnds}
use Rattle.port_worker.specs.declared.port_ends.PortEnds.{PortEnds}
use Rattle.port_worker.specs.ControlServed.{ServesControl}
use Rattle.port_worker.specs.Used.{GaveNear, IsUsed}

-- these octets are the input of these arrivals that ends so, where it was seen to end or not
abbrev pub AreInput : (Bool → List ℕ → Input → Type 0) → Bool → List ℕ → List Arrival → How → Type 0
AreInput Arrives seen octets arrivals ending = Arrives seen octets (record { arrivals = arrivals; ending = ending })

-- What the octets of a port's source are to its input, by how the input ends; `ended_so` is how it ended for good.
-- At its end or at a place at fault: they are all that the source had left, read to the end or not. At a read that failed:
-- the history says so, and they are what the source gave up, with no whole arrival behind the input's, nor one at fault.
-- The input of a capture ends in no other way.
abbrev pub IsInputOf : (Bool → List ℕ → Input → Type 0) → Option (List ℕ) → Option (List ℕ) → Option How → List Arrival → How → Type 0
IsInputOf Arrives before after ended_so arrivals hows.End = IsWhole (AreInput Arrives true) before arrivals hows.End
IsInputOf Arrives before after ended_so arrivals (hows.Malformed at) = IsWhole (AreInput Arrives true) before arrivals (hows.Malformed at)
IsInputOf Arrives before after ended_so arrivals hows.Failed = (ended_so ≡ Some hows.Failed) × IsBroken (AreInput Arrives false) before after arrivals
IsInputOf Arrives before after ended_so arrivals hows.Quit = ⊥
IsInputOf Arrives before after ended_so arrivals (hows.Overlong at) = ⊥
IsInputOf Arrives before after ended_so arrivals hows.Unwritten = ⊥
IsInputOf Arrives before after ended_so arrivals hows.Paused = ⊥

-- What segments were to the ends of the port of this number. The octets of the source are this input, and what it gave up
-- fits what the segments hold of it; from a place at fault on it gave up no more than one record may have, and where octets
-- are left no more than its front. The sink took the pieces of the capture of what the segments send there, as this stop
-- says, and they fit how the segments say that the output ended. No count of faults fell; an input ended by a failed read
-- exactly where that of its own source rose, an output by a failed write exactly where that of its own sink did.
pub record IsServed {S K C : Type 0} (left : S → Option (List ℕ)) (written : K → Option (List ℕ)) (source_faults : S → ℕ) (sink_faults : K → ℕ) (Arrives : Bool → List ℕ → Input → Type 0) (plan : Plan) (segments : List (List Row)) (port : ℕ) (input : Input) (stop : Option ℕ) (old new : Ends S K C) : Type 0 where
  pub used : IsUsed left written old new
  pub gave : IsInputOf Arrives (left old.source) (left new.source) (input_end port (unbroken segments)) input.arrivals input.ending
  pub fits : Fits (AreInput Arrives) (left old.source) (left new.source) (arrived port (unbroken segments)) (input_end port (unbroken segments))
  pub near : (at : ℕ) → input_end port (unbroken segments) ≡ Some (hows.Malformed at) → GaveNear (left old.source) (left new.source) at
  pub took : TookPieces (written old.sink) (written new.sink) (pieces (sent_in plan port segments)) stop
  pub fits_out : FitsOutputIn plan (written old.sink) (written new.sink) port segments
  pub source : source_faults old.source ≤ source_faults new.source
  pub sink : sink_faults old.sink ≤ sink_faults new.sink
  pub broken : input_end port (unbroken segments) ≡ Some hows.Failed → Rose (source_faults old.source) (source_faults new.source)
  pub still : input_end port (unbroken segments) ≢ Some hows.Failed → source_faults new.source ≡ source_faults old.source
  pub broken_out : output_end port (unbroken segments) ≡ Some hows.Failed → Rose (sink_faults old.sink) (sink_faults new.sink)
  pub still_out : output_end port (unbroken segments) ≢ Some hows.Failed → sink_faults new.sink ≡ sink_faults old.sink

-- The segments are those of a session: they are the replay of control's input, where it has one, and of inputs, one for each
-- port of the plan in its order, to sinks that stop so. This holds of control's input and its stop, and of each port that:
-- of its place in the plan, its number, its input and its stop.
pub record ServesPorts (plan : Plan) (segments : List (List Row)) (HoldsControl : Option control.Input → Option ℕ → Type 0) (Holds : ℕ → ℕ → Input → Option ℕ → Type 0) : Type 0 where
  pub lines : Option control.Input
  pub inputs : List Input
  pub stops : Stops
  pub size : length inputs ≡ length plan.ports
  pub replay : segments ≡ replayed plan lines inputs stops
  pub session : IsWholeSession plan segments
  pub control : HoldsControl lines stops.control
  pub each : (place : ℕ) (i : Input) → place < length plan.ports → Holds place (port_number_at plan place) (slice_index_or inputs place i) (stops.ports (port_number_at plan place))

-- the same of the ends of control, where there are any, and of ends that are held in the order of the plan, each read on
-- from where its reader stands
abbrev pub ServesEnds : {S K C : Type 0} → (S → Option (List ℕ)) → (K → Option (List ℕ)) → (S → ℕ) → (K → ℕ) → Plan → List (List Row) → Option (ControlEnds S K C) → Option (ControlEnds S K C) → List (PortEnds S K C) → List (PortEnds S K C) → Type 0
ServesEnds {S} {K} {C} left written source_faults sink_faults plan segments control_old control_new old new =
    ServesPorts plan segments (λ lines stop. ServesControl left written source_faults sink_faults plan segments control_old control_new lines stop) (λ place port input stop. (d : PortEnds S K C) →
    IsServed left written source_faults sink_faults (Comes (slice_index_or old place d).reader) plan segments port input stop (slice_index_or old place d).ends (slice_index_or new place d).ends)

-- the port is the same
abbrev pub IsSamePort : {S K C : Type 0} → PortEnds S K C → PortEnds S K C → Type 0
IsSamePort old new = new.port ≡ old.port
