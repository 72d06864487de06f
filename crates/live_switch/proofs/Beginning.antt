-- A session begins: its first segment can start, its readers have put nothing, and what serves the ends stands at the start.
use Rattle.std.proofs.Common.{◌≡◌, ◌<◌, ℕ, Bool, true, false, List, [], length, map, slice_index_or, vec_len, Option, Some, None, IfSome, sym, ap, subst, ◌∙◌, arith}
use Rattle.std.proofs.lemmas.Bool.{false≢true}
use Rattle.std.proofs.lemmas.List.{get_or-map, length-map}
use Rattle.savi_kinds.specs.declared.plan.Plan.{Plan}
use Rattle.savi_kinds.specs.declared.plan.PortPlan.{PortPlan}
use Rattle.savi_kinds.specs.Ports.{number_of}
use Rattle.savi_kinds.specs.ValidPlan.{IsValidPlan}
use Rattle.savi_kinds.proofs.Lists.{element}
use Rattle.savi_ends.specs.declared.world.Ends.{Ends}
use Rattle.parcel_ring.specs.Handed.{Handed}
use Rattle.parcel_ring.specs.Sides.{was_put}
use Rattle.control_reader.specs.Heard.{HeardLine, all_heard, lines_put}
use Rattle.control_reader.specs.declared.reader.LineReader.{LineReader}
use Rattle.port_reader.specs.declared.reader.Reader.{Reader}
use Rattle.savi_history.specs.Passes.{pass_count}
use Rattle.savi_segments.specs.Journals.{journal_of}
use Rattle.table_lock.specs.Passes.{lock_seats}
use Rattle.table_lock.specs.declared.lock.TableLock.{TableLock}
use Rattle.table_lock.specs.declared.pass.Pass.{Pass}
use Rattle.core_keep.specs.declared.keep.KeptCore.{KeptCore}
use Rattle.live_session.specs.Standing.{ControlStands, InputStands}
use Rattle.live_session.proofs.StandsOn.{control_starts, input_starts, no_control_starts, output_starts, ticker_starts}
use Rattle.live_turns.specs.Seats.{lock_base, lock_plan}
use Rattle.live_control.specs.Sides.{WorkerStands}
use Rattle.live_control.specs.declared.side.ControlSide.{ControlSide}
use Rattle.live_control.specs.declared.worker.ControlWorker.{ControlWorker}
use Rattle.live_switch.specs.declared.ready.Ready.{Ready}
use Rattle.live_switch.specs.declared.room.Room.{Room}
use Rattle.live_switch.specs.declared.seats.LineSeat.{LineSeat}
use Rattle.live_switch.specs.declared.seats.Seat.{Seat}
use Rattle.live_switch.specs.declared.services.PortService.{PortService}
use Rattle.live_switch.specs.declared.sessions.Begun.{Begun}
use Rattle.live_switch.specs.Beginnings.{FitsRoom, HasDealt}
use Rattle.live_switch.specs.Dealt.{AreFor}
use Rattle.live_switch.specs.Filled.{AreUnfilled, IsLineUnfilled}
use Rattle.live_switch.specs.Joined.{AllStand, PortStands, firsts_of, sink_of}
use Rattle.live_switch.specs.Open.{AreOpenIn}
use Rattle.live_switch.specs.Ran.{CanStart}
use Rattle.live_switch.specs.Seated.{IsLineSeat, IsSeat}
use Rattle.live_switch.specs.Sharing.{IsControlDealt, reader_of, service_of}
use Rattle.live_switch.specs.Works.{IsPortService, IsServiceOf}

-- what serves a port stands so at the start
module _ {S K C : Type 0} (written : K → Option (List ℕ)) (faults : K → ℕ) (plan : Plan) where
  port_starts : (p : PortPlan) (ends : Ends S K C) (seat : Seat) → IsSeat p seat → PortStands written faults plan [] p ends.sink (service_of ends seat)
  port_starts p ends seat is = record {
    input = subst (λ (taken : List Handed). InputStands (number_of p.number) [] taken None) (sym is.untaken) (input_starts (number_of p.number));
    output = output_starts written faults p.format plan (number_of p.number) ends.sink;
  }

  -- and control, where it is there
  line_starts : (ends : Option (Ends S K C)) (seat : Option LineSeat) (reader : Option (LineReader S C)) (worker : ControlWorker K) → IfSome seat IsLineSeat → IsControlDealt ends seat reader worker
      → WorkerStands written faults plan [] (sink_of worker.ends) worker.ends
  line_starts (Some ends) (Some seat) (Some reader) worker is dealt =
      subst (λ (o : Option (ControlSide K)). WorkerStands written faults plan [] (sink_of o) o) (sym dealt.1)
      (record {
        stands = subst (λ (taken : List HeardLine). ControlStands written faults plan [] taken None ends.sink ends.sink) (sym (ap all_heard is.untaken)) (control_starts written faults plan ends.sink);
        passes = λ so. absurd (false≢true so);
      })
  line_starts None None None worker is dealt =
      subst (λ (o : Option (ControlSide K)). WorkerStands written faults plan [] (sink_of o) o) (sym dealt) no_control_starts
  line_starts (Some ends) None reader worker is dealt = absurd dealt
  line_starts (Some ends) (Some seat) None worker is dealt = absurd dealt
  line_starts None (Some seat) reader worker is dealt = absurd dealt
  line_starts None None (Some reader) worker is dealt = absurd dealt

-- its reader has put nothing
line_unfilled : {S K C : Type 0} (ends : Option (Ends S K C)) (seat : Option LineSeat) (reader : Option (LineReader S C)) (worker : ControlWorker K) → IfSome seat IsLineSeat → IsControlDealt ends seat reader worker → IsLineUnfilled reader
line_unfilled (Some ends) (Some seat) (Some reader) worker is dealt = ap (λ r. lines_put r.filler) dealt.0 ∙ ap all_heard is.unfilled
line_unfilled None None None worker is dealt = tt
line_unfilled (Some ends) None reader worker is dealt = absurd dealt
line_unfilled (Some ends) (Some seat) None worker is dealt = absurd dealt
line_unfilled None (Some seat) reader worker is dealt = absurd dealt
line_unfilled None None (Some reader) worker is dealt = absurd dealt

module _ {S K C : Type 0} (ready : Ready S K C) (room : Room S K C) (begun : Begun S K C) (fits : FitsRoom ready room) (has : HasDealt ready room begun) where
  abbrev count : ℕ
  count = length fits.plan.ports

  size : length ready.ports.items ≡ count
  size = omega (arith, ready.ports.ok.0, fits.size)

  -- a seat, where there is a port
  pub some_seat : (k : ℕ) → k < count → Seat
  some_seat k within = element room.seats.items k (omega (arith, within, fits.seats.size))

  pub seat_is : (k : ℕ) (p : PortPlan) (s : Seat) → k < count → IsSeat (slice_index_or fits.plan.ports k p) (slice_index_or room.seats.items k s)
  seat_is k p s within = fits.seats.each k p s within

  pub reader_is : (k : ℕ) (e : Ends S K C) (s : Seat) (d : Reader S C) → k < count
      → slice_index_or begun.readers.ports.items k d ≡ reader_of (slice_index_or ready.ports.items k e) (slice_index_or room.seats.items k s)
  reader_is k e s d within = ap (λ (l : List (Reader S C)). slice_index_or l k d) has.ports.readers_are ∙ has.ports.each_reader k e s d (omega (arith, within, size))

  pub service_is : (k : ℕ) (e : Ends S K C) (s : Seat) (d : PortService K) → k < count
      → slice_index_or begun.start.course.service.ports.items k d ≡ service_of (slice_index_or ready.ports.items k e) (slice_index_or room.seats.items k s)
  service_is k e s d within = ap (λ (l : List (PortService K)). slice_index_or l k d) has.ports.services_are ∙ has.ports.each_service k e s d (omega (arith, within, size))

  pub readers_len : vec_len begun.readers.ports ≡ count
  readers_len = omega (arith, ap (λ (l : List (Reader S C)). length l) has.ports.readers_are, has.ports.size.0, size, begun.readers.ports.ok.0)

  pub services_len : vec_len begun.start.course.service.ports ≡ count
  services_len = omega (arith, ap (λ (l : List (PortService K)). length l) has.ports.services_are, has.ports.size.1, size, begun.start.course.service.ports.ok.0)

  pub plan_here : lock_plan begun.start.lock ≡ fits.plan
  plan_here = ap (λ (l : TableLock KeptCore). lock_plan l) has.first.0 ∙ fits.first.plan_is

  some_ends : (k : ℕ) → k < count → Ends S K C
  some_ends k within = element ready.ports.items k (omega (arith, within, size))

  -- it serves the ports of the plan
  pub serves : IsServiceOf fits.plan begun.start.course.service
  serves = record {
    size = services_len;
    ports = λ k p d below.
        let within : k < count = omega (arith, below, services_len) in
        let e = some_ends k within in
        let s = some_seat k within in
        let seat : IsSeat (slice_index_or fits.plan.ports k p) (slice_index_or room.seats.items k s) = seat_is k p s within in
        subst (IsPortService (slice_index_or fits.plan.ports k p)) (sym (service_is k e s d within)) (record { judge = seat.port; writer = seat.port; format = seat.format });
  }

  pub unfilled : AreUnfilled begun.readers
  unfilled = record {
    ports = λ k d below.
        let within : k < count = omega (arith, below, readers_len) in
        let e = some_ends k within in
        let s = some_seat k within in
        let p = element fits.plan.ports k within in
        let seat : IsSeat (slice_index_or fits.plan.ports k p) (slice_index_or room.seats.items k s) = seat_is k p s within in
        subst (λ (r : Reader S C). was_put r.filler ≡ []) (sym (reader_is k e s d within)) seat.unfilled;
    control = line_unfilled ready.control room.line_seat begun.readers.control begun.start.course.service.control fits.line_seat has.control;
  }

  pub can_start : IsValidPlan fits.plan → CanStart begun.start
  can_start valid =
      let first = fits.first in
      let lock = begun.start.lock in
      let lock_is : lock ≡ room.first.lock = has.first.0 in
      let passes_are : begun.start.passes.items ≡ room.first.passes.items = ap (λ v. v.items) has.first.1 in
      let going_is : begun.start.going.items ≡ room.first.going.items = ap (λ v. v.items) has.first.2 in
      let header_is : begun.start.header.items ≡ room.first.header.items = ap (λ v. v.items) has.first.3 in
      record {
        valid = subst IsValidPlan (sym plan_here) valid;
        base = ap (λ (l : TableLock KeptCore). lock_base l) lock_is ∙ first.base;
        seats = ap (λ (l : TableLock KeptCore). lock_seats l) lock_is ∙ first.seats ∙ ap pass_count (sym plan_here);
        going = subst (λ (t : TableLock KeptCore × List Bool). AreOpenIn t.0 t.1) (λ i. (sym lock_is i, sym going_is i)) first.going;
        passes = subst (λ (t : TableLock KeptCore × ℕ × List Pass). AreFor t.0 t.1 t.2) (λ i. (sym lock_is i, ap (λ (p : Plan). length p.ports) (sym plan_here) i, sym passes_are i)) first.passes;
        service = subst (λ (p : Plan). IsServiceOf p begun.start.course.service) (sym plan_here) serves;
        header = header_is ∙ first.header ∙ ap (λ (p : Plan). journal_of p []) (sym plan_here);
        whole = ap (λ j. j.failed) has.journal;
        blank = ap (λ j. j.buffer.octets) has.journal ∙ ap (λ b. b.octets) fits.buffer;
        room = let is : begun.start.course.journal.buffer.room ≡ 131072 = ap (λ j. j.buffer.room) has.journal ∙ ap (λ b. b.room) fits.buffer in omega (arith, is);
        none = has.none;
        no_ends = has.no_ends;
      }

  module _ (written : K → Option (List ℕ)) (faults : K → ℕ) (readings : C → Option (List ℕ)) where
    -- all stand so at the start, whatever the plan is
    pub all_start : AllStand written faults readings fits.plan [] (firsts_of begun.start.course.service) begun.start.course.service
    all_start =
        let services : List (PortService K) = begun.start.course.service.ports.items in
        let sinks_len : length (map (λ port. port.writer.sink) services) ≡ length services = length-map services (λ port. port.writer.sink) in
        record {
          size = sym sinks_len;
          ports = λ k p f d below.
              let within : k < count = omega (arith, below, sinks_len, services_len, begun.start.course.service.ports.ok.0) in
              let e = some_ends k within in
              let s = some_seat k within in
              let here = service_is k e s d within in
              let sink : slice_index_or (map (λ port. port.writer.sink) services) k f ≡ (slice_index_or ready.ports.items k e).sink =
              get_or-map (λ port. port.writer.sink) services k d f (omega (arith, below, sinks_len)) ∙ ap (λ port. port.writer.sink) here in
              subst (λ (t : K × PortService K). PortStands written faults fits.plan [] (slice_index_or fits.plan.ports k p) t.0 t.1) (λ i. (sym sink i, sym here i))
              (port_starts written faults fits.plan (slice_index_or fits.plan.ports k p) (slice_index_or ready.ports.items k e) (slice_index_or room.seats.items k s) (seat_is k p s within));
          control = line_starts written faults fits.plan ready.control room.line_seat begun.readers.control begun.start.course.service.control fits.line_seat has.control;
          ticker = ticker_starts readings fits.plan begun.start.course.service.ticker.clock;
        }
