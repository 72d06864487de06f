-- How the ends of a session are dealt to who serves them and come back, and what the workers of a port take of a shift.
use Rattle.std.specs.Prelude.{◌≡◌, ℕ, ◌+◌, ◌<◌, false, List, [], ◌∷◌, ◌++◌, length, slice_index_or, vec_len, vec_capacity, Option, Some, None}
use Rattle.std.specs.List.{SameBelow, ShiftedDown}
use mathlib.Core.List.{IsPrefix}
use Rattle.savi_ends.specs.declared.world.Ends.{Ends}
use Rattle.intake_ring.specs.Sides.{ArePaired}
use Rattle.parcel_ring.specs.Sides.{AreTwoEnds, was_put, was_taken}
use Rattle.port_reader.specs.declared.reader.Reader.{Reader}
use Rattle.control_reader.specs.Heard.{lines_put, lines_taken}
use Rattle.control_reader.specs.declared.reader.LineReader.{LineReader}
use Rattle.table_lock.specs.declared.pass.Pass.{Pass}
use Rattle.live_control.specs.declared.side.ControlSide.{ControlSide}
use Rattle.live_control.specs.declared.worker.ControlWorker.{ControlWorker}
use Rattle.live_switch.specs.declared.seats.LineSeat.{LineSeat}
use Rattle.live_switch.specs.declared.seats.Seat.{Seat}
use Rattle.live_switch.specs.declared.services.PortService.{PortService}
use Rattle.live_switch.specs.declared.workers.PortShift.{PortShift}
use Rattle.live_switch.specs.declared.workers.Shift.{Shift}

module _ {S K C : Type 0} where
  -- who reads at a port, by its ends and its seat
  abbrev pub reader_of : Ends S K C → Seat → Reader S C
  reader_of ends seat = record { port = seat.port; format = seat.format; source = ends.source; clock = ends.clock; filler = seat.filler }

  -- what serves a port behind its reader: nothing is kept, and nothing was begun
  abbrev pub service_of : Ends S K C → Seat → PortService K
  service_of ends seat = record {
    judge = record { port = seat.port; taker = seat.taker; kept = None };
    writer = record { port = seat.port; format = seat.format; sink = ends.sink; room = seat.room; begun = false };
  }

  -- the ends of a port again
  abbrev pub ends_of : Reader S C → PortService K → Ends S K C
  ends_of reader service = record { source = reader.source; sink = service.writer.sink; clock = reader.clock }

  -- Behind those that were there stand a reader and what serves the port for each of these ports, in their order.
  pub record ArePorts (ports : List (Ends S K C)) (seats : List Seat) (readers readers' : List (Reader S C)) (services services' : List (PortService K)) : Type 0 where
    pub made_readers : List (Reader S C)
    pub made_services : List (PortService K)
    pub readers_are : readers' ≡ readers ++ made_readers
    pub services_are : services' ≡ services ++ made_services
    pub size : (length made_readers ≡ length ports) × (length made_services ≡ length ports)
    pub each_reader : (k : ℕ) (e : Ends S K C) (s : Seat) (d : Reader S C) → k < length ports → slice_index_or made_readers k d ≡ reader_of (slice_index_or ports k e) (slice_index_or seats k s)
    pub each_service : (k : ℕ) (e : Ends S K C) (s : Seat) (d : PortService K) → k < length ports → slice_index_or made_services k d ≡ service_of (slice_index_or ports k e) (slice_index_or seats k s)

  -- the reader and the judge of each port have the two ends of one ring
  abbrev pub AreMatched : List (Reader S C) → List (PortService K) → Type 0
  AreMatched readers services =
      (k : ℕ) (d : Reader S C) (e : PortService K) → k < length readers
      → AreTwoEnds (slice_index_or readers k d).filler (slice_index_or services k e).judge.taker

  -- Behind those that were there stand the ends of each port, in their order; and of each ring, which is closed, what was
  -- taken is a front of what was put.
  pub record AreGathered (readers : List (Reader S C)) (services : List (PortService K)) (ports ports' : List (Ends S K C)) : Type 0 where
    pub made : List (Ends S K C)
    pub ports_are : ports' ≡ ports ++ made
    pub size : length made ≡ length readers
    pub each : (k : ℕ) (r : Reader S C) (e : PortService K) (d : Ends S K C) → k < length readers → slice_index_or made k d ≡ ends_of (slice_index_or readers k r) (slice_index_or services k e)
    pub fronts : (k : ℕ) (r : Reader S C) (e : PortService K) → k < length readers → IsPrefix (was_taken (slice_index_or services k e).judge.taker) (was_put (slice_index_or readers k r).filler)

  -- The ends of control, where there are any, and its seat were dealt to its reader and to who answers.
  abbrev pub IsControlDealt : Option (Ends S K C) → Option LineSeat → Option (LineReader S C) → ControlWorker K → Type 0
  IsControlDealt (Some ends) (Some seat) (Some reader) worker =
      (reader ≡ record { source = ends.source; clock = ends.clock; filler = seat.filler })
      × (worker.ends ≡ Some (record { taker = seat.taker; kept = None; sink = ends.sink; passes_over = false }))
  IsControlDealt None None None worker = worker.ends ≡ None
  IsControlDealt (Some ends) None reader worker = ⊥
  IsControlDealt (Some ends) (Some seat) None worker = ⊥
  IsControlDealt None (Some seat) reader worker = ⊥
  IsControlDealt None None (Some reader) worker = ⊥

  abbrev pub AreLinesMatched : Option (LineReader S C) → Option (ControlSide K) → Type 0
  AreLinesMatched (Some reader) (Some side) = ArePaired reader.filler side.taker
  AreLinesMatched None None = Unit {0}
  AreLinesMatched (Some reader) None = ⊥
  AreLinesMatched None (Some side) = ⊥

  -- where there is control, its reader and who answers have the two ends of one ring
  abbrev pub IsControlMatched : Option (LineReader S C) → ControlWorker K → Type 0
  IsControlMatched reader worker = AreLinesMatched reader worker.ends

  abbrev pub AreLinesGathered : Option (LineReader S C) → Option (ControlSide K) → Option (Ends S K C) → Type 0
  AreLinesGathered (Some reader) (Some side) (Some ends) =
      (ends ≡ record { source = reader.source; sink = side.sink; clock = reader.clock })
      × IsPrefix (lines_taken side.taker) (lines_put reader.filler)
  AreLinesGathered None None None = Unit {0}
  AreLinesGathered (Some reader) None back = ⊥
  AreLinesGathered (Some reader) (Some side) None = ⊥
  AreLinesGathered None (Some side) back = ⊥
  AreLinesGathered None None (Some ends) = ⊥

  -- the ends of control come back where they were there, and of its ring, which is closed, what was taken is a front of what
  -- was put
  abbrev pub IsControlGathered : Option (LineReader S C) → ControlWorker K → Option (Ends S K C) → Type 0
  IsControlGathered reader worker back = AreLinesGathered reader worker.ends back

-- what serves a port as its workers have it
abbrev pub port_service : {K : Type 0} → PortShift K → PortService K
port_service port = record { judge = port.judge; writer = port.writer }

module _ {K C : Type 0} where
  -- What serves the last port, the pass behind all others, and that at the place of the port; the rest is as it was.
  pub record Took (shift : Shift K C) (port : PortShift K) (rest : Shift K C) : Type 0 where
    pub ports : shift.service.ports.items ≡ rest.service.ports.items ++ port_service port ∷ []
    pub ports_len : vec_len rest.service.ports + 1 ≡ vec_len shift.service.ports
    pub ports_room : vec_capacity rest.service.ports ≡ vec_capacity shift.service.ports
    pub most : List Pass
    pub last : shift.passes.items ≡ most ++ port.output ∷ []
    pub here : port.input ≡ slice_index_or most (vec_len rest.service.ports) port.input
    pub below : SameBelow most rest.passes.items (vec_len rest.service.ports)
    pub above : ShiftedDown most rest.passes.items (vec_len rest.service.ports)
    pub size : length rest.passes.items + 1 ≡ length most
    pub passes_len : vec_len rest.passes + 2 ≡ vec_len shift.passes
    pub passes_room : vec_capacity rest.passes ≡ vec_capacity shift.passes
    pub control : rest.service.control ≡ shift.service.control
    pub ticker : rest.service.ticker ≡ shift.service.ticker

  -- What serves a port behind what serves the others, and the passes behind theirs.
  pub record Gave (shift : Shift K C) (port : PortShift K) (new : Shift K C) : Type 0 where
    pub ports : new.service.ports.items ≡ shift.service.ports.items ++ port_service port ∷ []
    pub ports_len : vec_len new.service.ports ≡ vec_len shift.service.ports + 1
    pub ports_room : vec_capacity new.service.ports ≡ vec_capacity shift.service.ports
    pub passes : new.passes.items ≡ (shift.passes.items ++ port.input ∷ []) ++ port.output ∷ []
    pub passes_len : vec_len new.passes ≡ vec_len shift.passes + 2
    pub passes_room : vec_capacity new.passes ≡ vec_capacity shift.passes
    pub control : new.service.control ≡ shift.service.control
    pub ticker : new.service.ticker ≡ shift.service.ticker
