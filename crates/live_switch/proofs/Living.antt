-- A session has ended: what its readers and its segments left is what it was to each of its ends.
use Rattle.std.proofs.Common.{◌≡◌, ◌<◌, ◌≤◌, ℕ, Bool, true, false, List, [], ◌∷◌, length, map, slice_index_or, vec_len, vec_capacity, Option, Some, None, IfSome, refl, sym, ap, subst, ◌∙◌, arith}
use Rattle.std.proofs.lemmas.List.{get_or-map, get_or_default, length-map}
use mathlib.Core.List.{IsPrefix}
use Rattle.atomic_table.specs.Seated.{TableId}
use Rattle.savi_kinds.specs.declared.entry.How.{How}
use Rattle.savi_kinds.specs.declared.entry.Who.{Who}
use Rattle.savi_kinds.specs.declared.plan.Format.{Format}
use Rattle.savi_kinds.specs.declared.plan.Plan.{Plan}
use Rattle.savi_kinds.specs.declared.plan.PortPlan.{PortPlan}
use Rattle.savi_kinds.specs.Ports.{number_of}
use Rattle.savi_kinds.proofs.Lists.{element}
use Rattle.savi_ends.specs.declared.world.Ends.{Ends}
use Rattle.intake_ring.specs.Sides.{filler_ring}
use Rattle.parcel_ring.specs.Handed.{Handed}
use Rattle.parcel_ring.specs.Sides.{filler_rings, taker_rings, was_put, was_taken}
use Rattle.port_reader.specs.Readers as ports
use Rattle.port_reader.specs.Rows.{WasPut}
use Rattle.port_reader.specs.declared.reader.Reader.{Reader}
use Rattle.control_reader.specs.Heard.{HeardLine, lines_put, lines_taken}
use Rattle.control_reader.specs.Rows.{WerePut}
use Rattle.control_reader.specs.declared.reader.LineReader.{LineReader}
use Rattle.hist_store.specs.Rows.{Row}
use Rattle.savi_history.specs.Passes.{has_port}
use Rattle.savi_segments.specs.Journals.{journal_of}
use Rattle.savi_segments.specs.Segments.{IsWholeSession, base_after}
use Rattle.savi_core.specs.Machines.{Machine, base_of}
use Rattle.journal_write.specs.Told.{TellsOf}
use Rattle.journal_write.specs.Written.{WasGiven}
use Rattle.live_session.specs.LiveRows.{ControlRow, EgressRow, IngressRow, NoControlRow, TickerRow}
use Rattle.live_session.specs.LiveSession.{ControlOf, IsLive, PortRow}
use Rattle.live_session.specs.Standing.{ControlStands, InputStands, NoControlStands, OutputStands, TickerStands}
use Rattle.live_turns.specs.Seats.{lock_plan}
use Rattle.live_input.specs.Judged.{kept_of}
use Rattle.live_control.specs.Sides.{WorkerStands, heard_in, worker_ring}
use Rattle.live_control.specs.declared.side.ControlSide.{ControlSide}
use Rattle.live_control.specs.declared.worker.ControlWorker.{ControlWorker}
use Rattle.live_switch.specs.declared.ready.Closed.{Closed}
use Rattle.live_switch.specs.declared.ready.Ready.{Ready}
use Rattle.live_switch.specs.declared.readers.Readers.{Readers}
use Rattle.live_switch.specs.declared.room.Room.{Room}
use Rattle.live_switch.specs.declared.seats.LineSeat.{LineSeat}
use Rattle.live_switch.specs.declared.seats.Seat.{Seat}
use Rattle.live_switch.specs.declared.segments.Left.{Left}
use Rattle.live_switch.specs.declared.services.PortService.{PortService}
use Rattle.live_switch.specs.declared.sessions.Begun.{Begun}
use Rattle.live_switch.specs.Beginnings.{FitsRoom, HasDealt}
use Rattle.live_switch.specs.Endings.{HasServed, IsClosedBy}
use Rattle.live_switch.specs.Filled.{AreFilled, IsLineFilled}
use Rattle.live_switch.specs.Joined.{AllStand, PortStands, firsts_of, sink_of}
use Rattle.live_switch.specs.Ran.{HasRun}
use Rattle.live_switch.specs.Seated.{IsLineSeat, IsSeat}
use Rattle.live_switch.specs.Sharing.{AreLinesGathered, AreLinesMatched, AreMatched, IsControlDealt, ends_of, reader_of}
use Rattle.live_switch.proofs.Beginning.{all_start, plan_here, reader_is, readers_len, seat_is, service_is, services_len, some_seat}
use Rattle.live_switch.proofs.Opening.{known_here}

-- The two ends of control's ring stay so.
pub lines_matched : {S K C : Type 0} (left : S → Option (List ℕ)) (faults : S → ℕ) (readings : C → Option (List ℕ)) (ends : Option (Ends S K C)) (seat : Option LineSeat) (reader read : Option (LineReader S C)) (worker : ControlWorker K) (side : Option (ControlSide K))
    → IfSome seat IsLineSeat → IsControlDealt ends seat reader worker → IsLineFilled left faults readings reader read → worker_ring side ≡ worker_ring worker.ends → AreLinesMatched read side
lines_matched left faults readings (Some ends) (Some seat) (Some reader) (Some read) worker (Some side) is dealt filled ring =
    let dealt_ring : worker_ring worker.ends ≡ Some (filler_ring seat.filler) = ap worker_ring dealt.1 ∙ ap (λ (id : TableId). Some id) (sym is.ring) in
    let put : filler_ring reader.filler ≡ filler_ring seat.filler = ap (λ r. filler_ring r.filler) dealt.0 in
    cc (filled.ring, put, ring, dealt_ring)
lines_matched left faults readings (Some ends) (Some seat) (Some reader) (Some read) worker None is dealt filled ring =
    let there : worker_ring worker.ends ≡ Some (filler_ring seat.filler) = ap worker_ring dealt.1 ∙ ap (λ (id : TableId). Some id) (sym is.ring) in
    cc (there, ring)
lines_matched left faults readings (Some ends) (Some seat) (Some reader) None worker side is dealt filled ring = absurd filled
lines_matched left faults readings None None None None worker None is dealt filled ring = tt
lines_matched left faults readings None None None None worker (Some side) is dealt filled ring =
    let none : worker_ring worker.ends ≡ None = ap worker_ring dealt in
    cc (none, ring)
lines_matched left faults readings None None None (Some read) worker side is dealt filled ring = absurd filled
lines_matched left faults readings (Some ends) None reader read worker side is dealt filled ring = absurd dealt
lines_matched left faults readings (Some ends) (Some seat) None read worker side is dealt filled ring = absurd dealt
lines_matched left faults readings None (Some seat) reader read worker side is dealt filled ring = absurd dealt
lines_matched left faults readings None None (Some reader) read worker side is dealt filled ring = absurd dealt

module _ {S K C : Type 0} (left : S → Option (List ℕ)) (written : K → Option (List ℕ)) (source_faults : S → ℕ) (sink_faults : K → ℕ) (readings : C → Option (List ℕ)) where
  -- what the law on whole sessions says
  pub record LeaveRows : Type 0 where
    pub ingress : (plan : Plan) (segments : List (List Row)) (format : Format) (port : ℕ) (put taken : List Handed) (kept : Option Handed)
        (old new : S) (clock later : C)
        → IsWholeSession plan segments → has_port plan port ≡ true
        → WasPut left source_faults readings format put old new clock later → IsPrefix taken put → InputStands port segments taken kept
        → IngressRow left source_faults readings format port segments old new clock later
    pub egress : (plan : Plan) (segments : List (List Row)) (format : Format) (port : ℕ) (begun : Bool) (old new : K)
        → IsWholeSession plan segments → has_port plan port ≡ true
        → OutputStands written sink_faults format plan port segments begun old new
        → EgressRow written sink_faults format plan port segments old new
    pub control : (plan : Plan) (segments : List (List Row)) (put taken : List HeardLine) (kept : Option HeardLine) (old new : Ends S K C)
        → IsWholeSession plan segments
        → WerePut left source_faults readings put old.source new.source old.clock new.clock → IsPrefix taken put
        → ControlStands written sink_faults plan segments taken kept old.sink new.sink
        → ControlRow left written source_faults sink_faults readings plan segments old new
    pub none : (plan : Plan) (segments : List (List Row)) → IsWholeSession plan segments → NoControlStands segments → NoControlRow segments
    pub ticker : (plan : Plan) (segments : List (List Row)) (old new : C)
        → IsWholeSession plan segments → TickerStands readings plan segments old new
        → TickerRow readings plan segments old new

  module _ (law : LeaveRows) (plan : Plan) (segments : List (List Row)) (whole : IsWholeSession plan segments) where
    -- control's ends
    line_lives : (ends : Option (Ends S K C)) (seat : Option LineSeat) (reader read : Option (LineReader S C)) (worker : ControlWorker K) (side : Option (ControlSide K)) (back : Option (Ends S K C))
        → IsControlDealt ends seat reader worker → IsLineFilled left source_faults readings reader read → AreLinesGathered read side back → WorkerStands written sink_faults plan segments (sink_of worker.ends) side
        → ControlOf left written source_faults sink_faults readings plan segments ends back
    line_lives (Some ends) (Some seat) (Some reader) (Some read) worker (Some side) (Some back) dealt filled gathered stands =
        let sink : sink_of worker.ends ≡ Some ends.sink = ap sink_of dealt.1 in
        let side_stands : WorkerStands written sink_faults plan segments (Some ends.sink) (Some side) = subst (λ (o : Option K). WorkerStands written sink_faults plan segments o (Some side)) sink stands in
        let put : WerePut left source_faults readings (lines_put read.filler) ends.source read.source ends.clock read.clock =
        subst (λ (r : LineReader S C). WerePut left source_faults readings (lines_put read.filler) r.source read.source r.clock read.clock) dealt.0 filled.put in
        subst (λ (e : Ends S K C). ControlRow left written source_faults sink_faults readings plan segments ends e) (sym gathered.0)
        (law.control plan segments (lines_put read.filler) (lines_taken side.taker) (heard_in side.kept) ends (record { source = read.source; sink = side.sink; clock = read.clock })
        whole put gathered.1 side_stands.stands)
    line_lives None None None None worker None None dealt filled gathered stands =
        law.none plan segments whole (subst (λ (o : Option K). WorkerStands written sink_faults plan segments o None) (ap sink_of dealt) stands)
    line_lives (Some ends) (Some seat) (Some reader) (Some read) worker (Some side) None dealt filled gathered stands = absurd gathered
    line_lives (Some ends) (Some seat) (Some reader) (Some read) worker None back dealt filled gathered stands = absurd gathered
    line_lives (Some ends) (Some seat) (Some reader) None worker side back dealt filled gathered stands = absurd filled
    line_lives None None None None worker None (Some back) dealt filled gathered stands = absurd gathered
    line_lives None None None None worker (Some side) back dealt filled gathered stands = absurd gathered
    line_lives None None None (Some read) worker side back dealt filled gathered stands = absurd filled
    line_lives (Some ends) None reader read worker side back dealt filled gathered stands = absurd dealt
    line_lives (Some ends) (Some seat) None read worker side back dealt filled gathered stands = absurd dealt
    line_lives None (Some seat) reader read worker side back dealt filled gathered stands = absurd dealt
    line_lives None None (Some reader) read worker side back dealt filled gathered stands = absurd dealt

    -- a port's ends, of what its reader and who serves it left
    port_lives : (p : PortPlan) (ends back : Ends S K C) (seat : Seat) (read : Reader S C) (service : PortService K) → has_port plan (number_of p.number) ≡ true → IsSeat p seat
        → ports.HasFilled left source_faults readings (reader_of ends seat) read → IsPrefix (was_taken service.judge.taker) (was_put read.filler)
        → PortStands written sink_faults plan segments p ends.sink service → back ≡ ends_of read service
        → PortRow left written source_faults sink_faults readings plan segments p ends back
    port_lives p ends back seat read service known is filled front stands is_back =
        let put : WasPut left source_faults readings p.format (was_put read.filler) ends.source read.source ends.clock read.clock =
        subst (λ (f : Format). WasPut left source_faults readings f (was_put read.filler) ends.source read.source ends.clock read.clock) is.format filled.put in
        subst (λ (e : Ends S K C). PortRow left written source_faults sink_faults readings plan segments p ends e) (sym is_back) (
          law.ingress plan segments p.format (number_of p.number) (was_put read.filler) (was_taken service.judge.taker) (kept_of service.judge.kept) ends.source read.source ends.clock read.clock whole known put front stands.input,
          law.egress plan segments p.format (number_of p.number) service.writer.begun ends.sink service.writer.sink whole known stands.output,
        )

-- what was given to a journal that is settled
given_settled : {K : Type 0} (written : K → Option (List ℕ)) (faults : K → ℕ) (first now : K) (waits text : List ℕ) (failed : Bool) → (failed ≡ false → waits ≡ []) → WasGiven written faults first now waits failed text → WasGiven written faults first now [] failed text
given_settled written faults first now waits text false settled given = subst (λ (l : List ℕ). WasGiven written faults first now l false text) (settled refl) given
given_settled written faults first now waits text true settled given = given

module _ {S K C : Type 0} (left : S → Option (List ℕ)) (written : K → Option (List ℕ)) (source_faults : S → ℕ) (sink_faults : K → ℕ) (readings : C → Option (List ℕ))
    (ready : Ready S K C) (room : Room S K C) (begun : Begun S K C) (fits : FitsRoom ready room) (has : HasDealt ready room begun)
    (read : Readers S C) (run : Left K C) (filled : AreFilled left source_faults readings begun.readers read) (ran : HasRun written sink_faults readings begun.start run) where
  abbrev count : ℕ
  count = length fits.plan.ports

  pub reads_len : vec_len read.ports ≡ count
  reads_len = omega (arith, filled.size, readers_len ready room begun fits has)

  pub services_left : vec_len run.course.service.ports ≡ count
  services_left = omega (arith, ran.same.len, services_len ready room begun fits has)

  -- there is room for all ends where they came from
  pub room_left : vec_len read.ports ≤ vec_capacity begun.ports
  room_left = omega (arith, reads_len, has.capacity, fits.size, ready.ports.ok.0, ready.ports.ok.1)

  -- the readers and the judges have the ends of the same rings still
  pub matched : AreMatched read.ports.items run.course.service.ports.items
  matched k d e below =
      let within : k < count = omega (arith, below, reads_len, read.ports.ok.0) in
      let p = element fits.plan.ports k within in
      let s = some_seat ready room begun fits has k within in
      let x = element ready.ports.items k (omega (arith, within, ready.ports.ok.0, fits.size)) in
      let seat : IsSeat (slice_index_or fits.plan.ports k p) (slice_index_or room.seats.items k s) = seat_is ready room begun fits has k p s within in
      let put : filler_rings (slice_index_or read.ports.items k d).filler ≡ filler_rings (slice_index_or begun.readers.ports.items k d).filler =
      (filled.ports k d (omega (arith, within, readers_len ready room begun fits has))).rings in
      let read_by : filler_rings (slice_index_or begun.readers.ports.items k d).filler ≡ filler_rings (slice_index_or room.seats.items k s).filler =
      ap (λ (r : Reader S C). filler_rings r.filler) (reader_is ready room begun fits has k x s d within) in
      let judged_by : taker_rings (slice_index_or begun.start.course.service.ports.items k e).judge.taker ≡ taker_rings (slice_index_or room.seats.items k s).taker =
      ap (λ (w : PortService K). taker_rings w.judge.taker) (service_is ready room begun fits has k x s e within) in
      let kept : taker_rings (slice_index_or run.course.service.ports.items k e).judge.taker ≡ taker_rings (slice_index_or begun.start.course.service.ports.items k e).judge.taker =
      (ran.same.ports k e (omega (arith, within, services_len ready room begun fits has))).rings in
      put ∙ read_by ∙ seat.rings ∙ sym judged_by ∙ sym kept

  pub line_matched : AreLinesMatched read.control run.course.service.control.ends
  line_matched =
      lines_matched left source_faults readings ready.control room.line_seat begun.readers.control read.control begun.start.course.service.control run.course.service.control.ends
      fits.line_seat has.control filled.control ran.same.ring

  module _ (law : LeaveRows left written source_faults sink_faults readings) (closed : Closed S K C) (by : IsClosedBy read run closed) where
    abbrev segments : List (List Row)
    segments = run.kept.core.value.past ∷ ran.before

    plan_was : lock_plan begun.start.lock ≡ fits.plan
    plan_was = plan_here ready room begun fits has

    whole : IsWholeSession fits.plan segments
    whole = subst (λ (p : Plan). IsWholeSession p segments) plan_was ran.session

    stand : AllStand written sink_faults readings fits.plan segments (firsts_of begun.start.course.service) run.course.service
    stand =
        subst (λ (p : Plan). AllStand written sink_faults readings p segments (firsts_of begun.start.course.service) run.course.service) plan_was
        (ran.stands (firsts_of begun.start.course.service)
        (subst (λ (p : Plan). AllStand written sink_faults readings p [] (firsts_of begun.start.course.service) begun.start.course.service) (sym plan_was)
        (all_start ready room begun fits has written sink_faults readings)))

    closed_size : length closed.ready.ports.items ≡ length ready.ports.items
    closed_size = omega (arith, ap (λ (l : List (Ends S K C)). length l) by.ports.ports_are, by.ports.size, reads_len, read.ports.ok.0, ready.ports.ok.0, fits.size)

    port_row : (k : ℕ) (p : PortPlan) (d : Ends S K C) → k < count
        → PortRow left written source_faults sink_faults readings fits.plan segments (slice_index_or fits.plan.ports k p) (slice_index_or ready.ports.items k d) (slice_index_or closed.ready.ports.items k d)
    port_row k p d within =
        let s = some_seat ready room begun fits has k within in
        let reading = element begun.readers.ports.items k (omega (arith, within, readers_len ready room begun fits has, begun.readers.ports.ok.0)) in
        let service = element begun.start.course.service.ports.items k (omega (arith, within, services_len ready room begun fits has, begun.start.course.service.ports.ok.0)) in
        let seat : IsSeat (slice_index_or fits.plan.ports k p) (slice_index_or room.seats.items k s) = seat_is ready room begun fits has k p s within in
        let inside : k < length read.ports.items = omega (arith, within, reads_len, read.ports.ok.0) in
        let known : has_port fits.plan (number_of (slice_index_or fits.plan.ports k p).number) ≡ true =
        known_here fits.plan k (slice_index_or fits.plan.ports k p) within (λ q. get_or_default fits.plan.ports k p q within) in
        let began = service_is ready room begun fits has k d s service within in
        let services : List (PortService K) = begun.start.course.service.ports.items in
        let some_sink : K = (slice_index_or ready.ports.items k d).sink in
        let sinks_len : length (map (λ port. port.writer.sink) services) ≡ length services = length-map services (λ port. port.writer.sink) in
        let place : k < length services = omega (arith, within, services_len ready room begun fits has, begun.start.course.service.ports.ok.0) in
        let sink : slice_index_or (map (λ port. port.writer.sink) services) k some_sink ≡ some_sink =
        get_or-map (λ port. port.writer.sink) services k service some_sink place ∙ ap (λ port. port.writer.sink) began in
        let stands : PortStands written sink_faults fits.plan segments (slice_index_or fits.plan.ports k p) some_sink (slice_index_or run.course.service.ports.items k service) =
        subst (λ (f : K). PortStands written sink_faults fits.plan segments (slice_index_or fits.plan.ports k p) f (slice_index_or run.course.service.ports.items k service)) sink
        (stand.ports k p some_sink service (omega (arith, place, sinks_len))) in
        let put : ports.HasFilled left source_faults readings (reader_of (slice_index_or ready.ports.items k d) (slice_index_or room.seats.items k s)) (slice_index_or read.ports.items k reading) =
        subst (λ (r : Reader S C). ports.HasFilled left source_faults readings r (slice_index_or read.ports.items k reading)) (reader_is ready room begun fits has k d s reading within)
        (filled.ports k reading (omega (arith, within, readers_len ready room begun fits has))) in
        port_lives left written source_faults sink_faults readings law fits.plan segments whole (slice_index_or fits.plan.ports k p) (slice_index_or ready.ports.items k d) (slice_index_or closed.ready.ports.items k d)
        (slice_index_or room.seats.items k s) (slice_index_or read.ports.items k reading) (slice_index_or run.course.service.ports.items k service) known seat put
        (by.ports.fronts k reading service inside) stands
        (ap (λ (l : List (Ends S K C)). slice_index_or l k d) by.ports.ports_are ∙ by.ports.each k reading service d inside)

    lives : IsLive left written source_faults sink_faults readings fits.plan segments ready.ports.items closed.ready.ports.items ready.control closed.ready.control ready.ticker closed.ready.ticker
    lives = record {
      session = whole;
      size = closed_size;
      ports = port_row;
      control = line_lives left written source_faults sink_faults readings law fits.plan segments whole ready.control room.line_seat begun.readers.control read.control begun.start.course.service.control
          run.course.service.control.ends closed.ready.control has.control filled.control by.control stand.control;
      ticker = subst (λ (c : C). TickerRow readings fits.plan segments ready.ticker c) (sym by.ticker)
          (law.ticker fits.plan segments ready.ticker run.course.service.ticker.clock whole
          (subst (λ (c : C). TickerStands readings fits.plan segments c run.course.service.ticker.clock) has.ticker stand.ticker));
    }

    given : WasGiven written sink_faults ready.journal run.course.journal.sink [] run.course.journal.failed (journal_of fits.plan segments)
    given =
        let first : begun.start.course.journal.sink ≡ ready.journal = ap (λ j. j.sink) has.journal in
        subst (λ (t : K × Plan). WasGiven written sink_faults t.0 run.course.journal.sink [] run.course.journal.failed (journal_of t.1 segments)) (λ i. (first i, plan_was i))
        (given_settled written sink_faults begun.start.course.journal.sink run.course.journal.sink run.course.journal.buffer.octets (journal_of (lock_plan begun.start.lock) segments) run.course.journal.failed ran.settled ran.text)

    -- so it was
    pub served : HasServed left written source_faults sink_faults readings fits.plan ready closed
    served =
        let past : closed.core.past ≡ run.kept.core.value.past = ap (λ (m : Machine). m.past) by.core in
        record {
          before = ran.before;
          base = ap base_of by.core ∙ ran.base_is ∙ ap (λ (p : Plan). base_after p ran.before) plan_was;
          live = subst (λ (rows : List Row). IsLive left written source_faults sink_faults readings fits.plan (rows ∷ ran.before) ready.ports.items closed.ready.ports.items ready.control closed.ready.control ready.ticker closed.ready.ticker)
              (sym past) lives;
          tells = subst (λ (rows : List Row). TellsOf closed.entries closed.ends.items (rows ∷ ran.before)) (sym past)
              (subst (λ (t : ℕ × List (Who × How)). TellsOf t.0 t.1 segments) (λ i. (sym by.told.0 i, sym (ap (λ v. v.items) by.told.1) i)) ran.tells);
          journal = subst (λ (rows : List Row). WasGiven written sink_faults ready.journal closed.ready.journal [] closed.journal_failed (journal_of fits.plan (rows ∷ ran.before))) (sym past)
              (subst (λ (t : K × Bool). WasGiven written sink_faults ready.journal t.0 [] t.1 (journal_of fits.plan segments)) (λ i. (sym by.journal.0 i, sym by.journal.1 i)) given);
        }

    pub plan_closed : closed.core.plan ≡ fits.plan
    plan_closed = ap (λ (m : Machine). m.plan) by.core ∙ ran.plan_is ∙ plan_was
