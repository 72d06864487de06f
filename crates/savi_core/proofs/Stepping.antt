-- What a core keeps after each kind of event.
use Rattle.std.proofs.Common.{ℕ, ◌≡◌, ◌+◌, ◌^◌, ◌<◌, ◌≤◌, ◌==◌, ◌&&◌, ◌||◌, Bool, true, false, List, [], ◌∷◌, ◌++◌, length, map, fold, get_or, set, drop, cond, inl, inr, refl, sym, ap, subst, ◌∙◌, arith, length-drop, length-set, get_or-set_same, get_or-set_other}
use Rattle.std.specs.Prelude.{reverse}
use Rattle.std.proofs.lemmas.Bool.{cases_eq, cases_Bool, eq-eqb, ne_eqb, or_left, or_right, cond-true, cond-false}
use Rattle.savi_kinds.specs.declared.plan.Plan.{Plan}
use Rattle.savi_kinds.specs.declared.port.Port.{Port}
use Rattle.savi_kinds.specs.declared.entry.Entry.{Entry}
use Rattle.savi_kinds.specs.declared.entry.Act.{Act}
use Rattle.savi_kinds.specs.declared.entry.Act.TheVariants as acts
use Rattle.savi_kinds.specs.declared.entry.Who.{Who}
use Rattle.savi_kinds.specs.declared.entry.Who.TheVariants.{Ingress, Control, Ticker, Egress}
use Rattle.savi_kinds.specs.declared.entry.How.{How}
use Rattle.savi_kinds.specs.Ports.{number_of}
use Rattle.savi_kinds.specs.PortSets.{is_member}
use Rattle.savi_kinds.specs.ValidPlan.{numbers_of}
use Rattle.egress_ring.specs.declared.item.Item.{Item as Queued}
use Rattle.egress_ring.specs.declared.item.Item.TheVariants as queued
use Rattle.hist_store.specs.Rows.{Row, held}
use Rattle.checkpoint.specs.Columns.{Columns, kept_base as base_kept}
use Rattle.savi_history.specs.Offers.{Offer, offers}
use Rattle.savi_history.specs.Passes.{has_ended, has_port, pass_of, egress_pass, place_of, pass_count, is_end}
use Rattle.savi_history.specs.Limits.{has_room}
use Rattle.savi_history.specs.Queues.{queue, waiting_after, probes, lost}
use Rattle.savi_history.proofs.Depth.{ended_fewer}
use Rattle.savi_history.specs.Events as events
use Rattle.savi_history.specs.Events.{Event, row_of}
use Rattle.savi_history.specs.Legal.{IsOpen, MayCome}
use Rattle.savi_history.specs.Ticks.{HasChangedBy}
use Rattle.savi_core.specs.Machines.{Machine, base_of, with_event}
use Rattle.savi_core.specs.Steps.{MayStep, tick_moment}
use Rattle.savi_core.specs.Counts.{still_to_come, open_below}
use Rattle.savi_core.specs.Lanes.{Lane, with_frame, with_drained, with_ended, no_lane, lane_of, AreEnded}
use Rattle.savi_core.specs.Waits.{Show}
use Rattle.savi_kinds.specs.declared.port.PortSet.{PortSet}
use Rattle.std.proofs.Math.Path.{fun_ext}
use Rattle.cli_lang.specs.CommandOf.{command_of}
use Rattle.savi_history.specs.ShutPorts.{shut_by as shut_by_command, shut_after, is_shut}
use Rattle.savi_core.specs.Rings.{Rings, shut_in, rings_after_probe}
use Rattle.savi_core.specs.Remembers.{CoreState, Remembers}
use Rattle.savi_core.proofs.Places.{placed, pass_within}
use Rattle.savi_core.proofs.Lanes.{probed_lane, there_drained, shown_drained, there_ended, shown_ended, lane_long, lane_ticked, lane_commanded, lane_drained, lane_elsewhere, IsNoEgress, lane_behind_input, lane_ended, lane_apart}
use Rattle.savi_core.proofs.Probing.{shut_by, show_probed}
use Rattle.savi_core.proofs.ProbeCounts.{queued_exact, lost_exact}
use Rattle.savi_core.proofs.Showing.{lane_at, there_in, show_more, show_by, show_set, show_framed}
use Rattle.savi_core.proofs.Counting.{open_below-later, open_below-ended, open_below-some, waiting_at-later, waiting_at-taken, waiting_at-some}
use Rattle.savi_core.proofs.Remembering.{reverse_push, remembers_next, shut_still, fits, room_less, room_for}

-- a row of an entry and its octets
abbrev pub row : Entry → List ℕ → Row
row entry octets = record { entry = entry; octets = octets }

abbrev pub machine : Plan → Columns → List Row → Machine
machine plan checkpoint past = record { plan = plan; checkpoint = checkpoint; past = past }

-- an input that may be put to a switch with room may come
pub may_long : (m : Machine) (port : Port) (stamp len : ℕ) → MayStep m (events.Long port stamp len) → has_room m.plan m.past ≡ true → stamp < 2 ^ 64 → len < 2 ^ 32 → MayCome m.plan (base_of m) m.past (events.Long port stamp len)
may_long m port stamp len may room fits len_fits = (record { open_pass = may.0; room = room; fits = fits }, may.1, len_fits)

pub may_frame : (m : Machine) (port : Port) (stamp : ℕ) (octets : List ℕ) → MayStep m (events.Frame port stamp octets) → has_room m.plan m.past ≡ true → stamp < 2 ^ 64 → MayCome m.plan (base_of m) m.past (events.Frame port stamp octets)
may_frame m port stamp octets may room fits = (record { open_pass = may.0; room = room; fits = fits }, may.1)

pub may_command : (m : Machine) (stamp : ℕ) (line : List ℕ) → MayStep m (events.Command stamp line) → has_room m.plan m.past ≡ true → stamp < 2 ^ 64 → MayCome m.plan (base_of m) m.past (events.Command stamp line)
may_command m stamp line may room fits = (record { open_pass = may.0; room = room; fits = fits }, may.1)

pub may_tick : (m : Machine) (stamp : ℕ) → MayStep m (events.Tick stamp) → has_room m.plan m.past ≡ true → stamp < 2 ^ 64 → HasChangedBy m.plan (base_of m) m.past (tick_moment m stamp) → MayCome m.plan (base_of m) m.past (events.Tick stamp)
may_tick m stamp may room fits changed = record { open_pass = may; room = room; fits = fits; changed = changed }

-- a switch with the row of an event behind the others, as a contract says it
pub stepped_view : (plan : Plan) (checkpoint : Columns) (rows : List Row) (e : Entry) (octets : List ℕ) (event : Event) (m : Machine) → machine plan checkpoint (reverse rows) ≡ m
    → row e octets ≡ row_of plan (base_kept checkpoint) (reverse rows) event → machine plan checkpoint (reverse (rows ++ row e octets ∷ [])) ≡ with_event m event
stepped_view plan checkpoint rows e octets event m view is_row =
    ap (machine plan checkpoint) (reverse_push rows (row e octets) ∙ ap (λ (r : Row). r ∷ reverse rows) is_row) ∙ ap (λ (x : Machine). with_event x event) view

module _ {k : CoreState} (was : Remembers k) where
  -- the lanes once the probes of an entry were offered, whatever they are
  pub probed_now : (act : Act) (octets : List ℕ) (sents : List Offer) (rings : Rings) → shut_in rings.shut ≡ shut_by k.plan k.base (reverse k.rows) → sents ≡ offers k.plan k.base (reverse k.rows) act octets → rings.lanes ≡ k.lanes
      → Show k.plan k.rows (fold rings_after_probe rings sents).lanes (probed_lane k.plan k.base (reverse k.rows) act octets)
  probed_now act octets sents rings shut_is came are =
      show_probed k.plan k.base (reverse k.rows) k.rows act octets sents rings was.valid shut_is came
      (subst (λ (lanes : List (Lane Queued)). Show k.plan k.rows lanes (lane_of k.plan k.base (reverse k.rows))) (sym are) was.queues)

  -- how many of them joined, and how many were left out, since the counts were reset
  pub probes_now : (act : Act) (octets : List ℕ) (sents : List Offer) (rings : Rings) → sents ≡ offers k.plan k.base (reverse k.rows) act octets → rings ≡ record { lanes = k.lanes; shut = k.shut; queued = 0; lost = 0 }
      → length sents < 268435456 → ((fold rings_after_probe rings sents).queued ≡ probes k.plan k.base (reverse k.rows) act octets) × ((fold rings_after_probe rings sents).lost ≡ lost k.plan k.base (reverse k.rows) act octets)
  probes_now act octets sents rings came are short =
      let start : Rings = record { lanes = k.lanes; shut = k.shut; queued = 0; lost = 0 } in
      rw are (
        queued_exact k.plan k.base (reverse k.rows) act octets k.rows sents start was.shut_ports was.valid came was.queues refl,
        lost_exact k.plan k.base (reverse k.rows) act octets k.rows sents start was.shut_ports was.valid came was.queues short refl,
      )

  pub remembers_long : (port : Port) (stamp len : ℕ) (e : Entry) (lanes' : List (Lane Queued)) → MayCome k.plan k.base (reverse k.rows) (events.Long port stamp len) → e ≡ (row_of k.plan k.base (reverse k.rows) (events.Long port stamp len)).entry
      → Show k.plan k.rows lanes' (probed_lane k.plan k.base (reverse k.rows) (acts.Long port stamp len) []) → Remembers (record k { rows = k.rows ++ row e [] ∷ []; moment = e.moment; lanes = lanes' })
  remembers_long port stamp len e lanes' may e_is shows =
      let act_is : e.act ≡ acts.Long port stamp len = ap (λ (x : Entry). x.act) e_is in
      remembers_next was (events.Long port stamp len) (row e []) e.moment k.ended k.shut lanes' may (ap (λ (x : Entry). row x []) e_is) refl (record {
        passes = λ pass below. ap (λ (a : Act). (is_end a && (e.by == pass)) || get_or k.ended pass false) (sym act_is);
        marks = refl;
        shut_ports = shut_still was (row e []) (acts.Long port stamp len) act_is (λ number. refl);
        queues = show_by (show_more shows (row e [])) (lane_of k.plan k.base (row e [] ∷ reverse k.rows)) (λ q known. lane_long k.plan k.base (reverse k.rows) (row e []) q port stamp len act_is);
        octets = omega (arith, was.octets);
        room = λ near. absurd (omega (arith, near, (room_for was may.0.room).0));
      })

  -- a line of control may have shut a port, or opened one
  pub remembers_command : (stamp : ℕ) (line : List ℕ) (e : Entry) (shut' : PortSet) (lanes' : List (Lane Queued)) → MayCome k.plan k.base (reverse k.rows) (events.Command stamp line) → e ≡ (row_of k.plan k.base (reverse k.rows) (events.Command stamp line)).entry
      → shut_in shut' ≡ (λ number. shut_by_command k.plan number (command_of line) (shut_in k.shut number))
      → Show k.plan k.rows lanes' (probed_lane k.plan k.base (reverse k.rows) (events.command_act (reverse k.rows) stamp line) line)
      → Remembers (record k { rows = k.rows ++ row e line ∷ []; moment = e.moment; shut = shut'; lanes = lanes' })
  remembers_command stamp line e shut' lanes' may e_is shut_is shows =
      let act_is : e.act ≡ acts.Command stamp (held (reverse k.rows)) (length line) = ap (λ (x : Entry). x.act) e_is in
      let room = room_for was may.0.room in
      remembers_next was (events.Command stamp line) (row e line) e.moment k.ended shut' lanes' may (ap (λ (x : Entry). row x line) e_is) refl (record {
        passes = λ pass below. ap (λ (a : Act). (is_end a && (e.by == pass)) || get_or k.ended pass false) (sym act_is);
        marks = refl;
        shut_ports =
            shut_is
            ∙ fun_ext (λ number. ap (λ (shut : ℕ → Bool). shut_by_command k.plan number (command_of line) (shut number)) was.shut_ports
            ∙ ap (λ (a : Act). shut_after k.plan number line a (is_shut k.plan k.base number (reverse k.rows))) (sym act_is));
        queues = show_by (show_more shows (row e line)) (lane_of k.plan k.base (row e line ∷ reverse k.rows)) (λ q known. lane_commanded k.plan k.base (reverse k.rows) (row e line) q stamp (held (reverse k.rows)) (length line) act_is);
        octets = omega (arith, room.1, may.1);
        room = λ near. absurd (omega (arith, near, room.0));
      })

  pub remembers_tick : (stamp : ℕ) (e : Entry) (lanes' : List (Lane Queued)) → MayCome k.plan k.base (reverse k.rows) (events.Tick stamp) → e ≡ (row_of k.plan k.base (reverse k.rows) (events.Tick stamp)).entry
      → Show k.plan k.rows lanes' (probed_lane k.plan k.base (reverse k.rows) (acts.Tick stamp) []) → Remembers (record k { rows = k.rows ++ row e [] ∷ []; moment = e.moment; lanes = lanes' })
  remembers_tick stamp e lanes' may e_is shows =
      let act_is : e.act ≡ acts.Tick stamp = ap (λ (x : Entry). x.act) e_is in
      remembers_next was (events.Tick stamp) (row e []) e.moment k.ended k.shut lanes' may (ap (λ (x : Entry). row x []) e_is) refl (record {
        passes = λ pass below. ap (λ (a : Act). (is_end a && (e.by == pass)) || get_or k.ended pass false) (sym act_is);
        marks = refl;
        shut_ports = shut_still was (row e []) (acts.Tick stamp) act_is (λ number. refl);
        queues = show_by (show_more shows (row e [])) (lane_of k.plan k.base (row e [] ∷ reverse k.rows)) (λ q known. lane_ticked k.plan k.base (reverse k.rows) (row e []) q stamp act_is);
        octets = omega (arith, was.octets);
        room = λ near. absurd (omega (arith, near, (room_for was may.room).0));
      })

  pub remembers_frame : (port : Port) (stamp : ℕ) (octets : List ℕ) (e : Entry) (lanes lanes' : List (Lane Queued)) → MayCome k.plan k.base (reverse k.rows) (events.Frame port stamp octets) → e ≡ (row_of k.plan k.base (reverse k.rows) (events.Frame port stamp octets)).entry
      → Show k.plan k.rows lanes (probed_lane k.plan k.base (reverse k.rows) (events.frame_act (reverse k.rows) port stamp octets) octets)
      → ((n : ℕ) → is_member e.outs n ≡ true → 14 ≤ length octets) → lanes' ≡ map (with_frame (queued.Frame (length k.rows)) e.outs) lanes → Remembers (record k { rows = k.rows ++ row e octets ∷ []; moment = e.moment; lanes = lanes' })
  remembers_frame port stamp octets e lanes lanes' may e_is shows whole are =
      let act_is : e.act ≡ acts.Frame port stamp (held (reverse k.rows)) (length octets) = ap (λ (x : Entry). x.act) e_is in
      let room = room_for was may.0.room in
      remembers_next was (events.Frame port stamp octets) (row e octets) e.moment k.ended k.shut lanes' may (ap (λ (x : Entry). row x octets) e_is) refl (record {
        passes = λ pass below. ap (λ (a : Act). (is_end a && (e.by == pass)) || get_or k.ended pass false) (sym act_is);
        marks = refl;
        shut_ports = shut_still was (row e octets) (acts.Frame port stamp (held (reverse k.rows)) (length octets)) act_is (λ number. refl);
        queues = show_framed k.plan k.base (reverse k.rows) k.rows (row e octets) lanes lanes' port stamp (held (reverse k.rows)) (length octets) act_is may.1 whole are shows;
        octets = omega (arith, room.1, may.1);
        room = λ near. absurd (omega (arith, near, room.0));
      })

  drained_fewer : (r : Row) (port : Port) (count : ℕ) → r.entry.act ≡ acts.Drain port count → (number : ℕ) → length (queue k.plan k.base number (r ∷ reverse k.rows)) ≤ length (queue k.plan k.base number (reverse k.rows))
  drained_fewer r port count act_is number =
      let waited = queue k.plan k.base number (reverse k.rows) in
      let step : queue k.plan k.base number (r ∷ reverse k.rows) ≡ cond (number_of port == number) (drop count waited) waited = ap (λ (a : Act). waiting_after k.plan k.base (reverse k.rows) number r a waited) act_is in
      elim (cases_Bool (number_of port == number)) [
        | inl here ↦ omega (arith, ap length (step ∙ cond-true _ _ _ here), length-drop count waited)
        | inr elsewhere ↦ omega (arith, ap length (step ∙ cond-false _ _ _ elsewhere))
      ]

  pub drain_less : (r : Row) (port : Port) (count : ℕ) → r.entry.act ≡ acts.Drain port count → has_port k.plan (number_of port) ≡ true → 1 ≤ count → count ≤ length (queue k.plan k.base (number_of port) (reverse k.rows)) → still_to_come k.plan k.base (r ∷ reverse k.rows) + 1 ≤ still_to_come k.plan k.base (reverse k.rows)
  drain_less r port count act_is known least most =
      let place = placed k.plan (number_of port) known in
      let number = number_of port in
      let waited = queue k.plan k.base number (reverse k.rows) in
      let step : queue k.plan k.base number (r ∷ reverse k.rows) ≡ drop count waited = ap (λ (a : Act). waiting_after k.plan k.base (reverse k.rows) number r a waited) act_is ∙ cond-true _ _ _ (eq-eqb number number refl) in
      let fewer : length (queue k.plan k.base number (r ∷ reverse k.rows)) < length waited = omega (arith, ap length step, length-drop count waited, least, most) in
      let at_place : length (queue k.plan k.base (get_or (numbers_of k.plan.ports) (place_of k.plan number) 0) (r ∷ reverse k.rows)) < length (queue k.plan k.base (get_or (numbers_of k.plan.ports) (place_of k.plan number) 0) (reverse k.rows)) =
      subst (λ n. length (queue k.plan k.base n (r ∷ reverse k.rows)) < length (queue k.plan k.base n (reverse k.rows))) (sym place.number_is) fewer in
      let opened : open_below k.base (r ∷ reverse k.rows) (pass_count k.plan) ≤ open_below k.base (reverse k.rows) (pass_count k.plan) =
      open_below-later k.base (reverse k.rows) (r ∷ reverse k.rows) (λ pass before. or_right _ _ before) (pass_count k.plan) in
      omega (arith, opened, waiting_at-taken k.plan k.base (reverse k.rows) (r ∷ reverse k.rows) (drained_fewer r port count act_is) (numbers_of k.plan.ports) (place_of k.plan number) place.within at_place)

  pub remembers_drain : (port : Port) (count p : ℕ) (d : Lane Queued) (e : Entry) (lanes' : List (Lane Queued)) → MayCome k.plan k.base (reverse k.rows) (events.Drain port count) → e ≡ (row_of k.plan k.base (reverse k.rows) (events.Drain port count)).entry → p ≡ place_of k.plan (number_of port)
      → lanes' ≡ set k.lanes p (with_drained count (get_or k.lanes p d)) → Remembers (record k { rows = k.rows ++ row e [] ∷ []; moment = e.moment; lanes = lanes' })
  remembers_drain port count p d e lanes' may e_is place_is are =
      let act_is : e.act ≡ acts.Drain port count = ap (λ (x : Entry). x.act) e_is in
      let r = row e [] in
      let there = there_in was.queues (number_of port) p d may.0.known place_is in
      remembers_next was (events.Drain port count) (row e []) e.moment k.ended k.shut lanes' may (ap (λ (x : Entry). row x []) e_is) refl (record {
        passes = λ pass below. ap (λ (a : Act). (is_end a && (e.by == pass)) || get_or k.ended pass false) (sym act_is);
        marks = refl;
        shut_ports = shut_still was (row e []) (acts.Drain port count) act_is (λ number. refl);
        queues =
            subst (λ (lanes : List (Lane Queued)). Show k.plan (k.rows ++ row e [] ∷ []) lanes (lane_of k.plan k.base (row e [] ∷ reverse k.rows))) (sym are)
            (show_set was.queues (row e []) (lane_of k.plan k.base (row e [] ∷ reverse k.rows)) (number_of port) p (with_drained count (get_or k.lanes p d)) was.valid may.0.known place_is
            (there_drained k.rows (row e []) count (get_or k.lanes p d) there)
            (shown_drained k.plan k.rows (row e []) count (get_or k.lanes p d) there
            ∙ ap (with_drained count) (lane_at was.queues (number_of port) p d may.0.known place_is)
            ∙ lane_drained k.plan k.base (reverse k.rows) (row e []) port count act_is)
            (λ q known other. lane_elsewhere k.plan k.base (reverse k.rows) (row e []) q port count act_is (λ same. other (sym same))));
        octets = omega (arith, was.octets);
        room = room_less was (row e []) (drain_less (row e []) port count act_is may.0.known may.1 may.2);
      })

  pub end_less : (r : Row) (who : Who) (how : How) → r.entry.act ≡ acts.End who how → r.entry.by ≡ pass_of k.plan who → pass_of k.plan who < pass_count k.plan → has_ended k.base (pass_of k.plan who) (reverse k.rows) ≡ false → still_to_come k.plan k.base (r ∷ reverse k.rows) + 1 ≤ still_to_come k.plan k.base (reverse k.rows)
  end_less r who how act_is by_is within runs =
      let pass = pass_of k.plan who in
      let now_ended : has_ended k.base pass (r ∷ reverse k.rows) ≡ true =
      or_left _ _ (ap (λ (a : Act). is_end a && (r.entry.by == pass)) act_is ∙ eq-eqb r.entry.by pass by_is) in
      let fewer : (number : ℕ) → length (queue k.plan k.base number (r ∷ reverse k.rows)) ≤ length (queue k.plan k.base number (reverse k.rows)) =
      λ number. omega (arith, ap length (ap (λ (a : Act). waiting_after k.plan k.base (reverse k.rows) number r a (queue k.plan k.base number (reverse k.rows))) act_is), ended_fewer k.plan k.base (reverse k.rows) number r who how (queue k.plan k.base number (reverse k.rows))) in
      omega (
        arith,
        waiting_at-later k.plan k.base (reverse k.rows) (r ∷ reverse k.rows) fewer (numbers_of k.plan.ports),
        open_below-ended k.base (reverse k.rows) (r ∷ reverse k.rows) (λ q before. or_right _ _ before) pass (pass_count k.plan) within runs now_ended,
      )

  -- the end of a pass that is open fits
  pub end_fits : (who : Who) → IsOpen k.plan k.base (reverse k.rows) who → length k.rows < k.plan.entries
  end_fits who open_pass =
      fits was
      (omega (arith, open_below-some k.base (reverse k.rows) (pass_of k.plan who) (pass_count k.plan) (pass_within k.plan who open_pass.known) open_pass.running))

  -- a drain of something fits
  pub drain_fits : (number : ℕ) → has_port k.plan number ≡ true → 0 < length (queue k.plan k.base number (reverse k.rows)) → length k.rows < k.plan.entries
  drain_fits number known some =
      let place = placed k.plan number known in
      let there : 0 < length (queue k.plan k.base (get_or (numbers_of k.plan.ports) (place_of k.plan number) 0) (reverse k.rows)) =
      subst (λ n. 0 < length (queue k.plan k.base n (reverse k.rows))) (sym place.number_is) some in
      fits was (omega (arith, waiting_at-some k.plan k.base (reverse k.rows) (numbers_of k.plan.ports) (place_of k.plan number) place.within there))

  -- an end of a pass, and the lanes behind it
  remembers_end : (who : Who) (how : How) (e : Entry) (ended' : List Bool) (lanes' : List (Lane Queued)) → MayCome k.plan k.base (reverse k.rows) (events.End who how) → e ≡ (row_of k.plan k.base (reverse k.rows) (events.End who how)).entry → ended' ≡ set k.ended e.by true
      → Show k.plan (k.rows ++ row e [] ∷ []) lanes' (lane_of k.plan k.base (row e [] ∷ reverse k.rows))
      → Remembers (record k { rows = k.rows ++ row e [] ∷ []; moment = e.moment; ended = ended'; lanes = lanes' })
  remembers_end who how e ended' lanes' may e_is ended_is shows =
      let act_is : e.act ≡ acts.End who how = ap (λ (x : Entry). x.act) e_is in
      let by_is : e.by ≡ pass_of k.plan who = ap (λ (x : Entry). x.by) e_is in
      let within : pass_of k.plan who < pass_count k.plan = pass_within k.plan who may.0.known in
      let in_ended : e.by < length k.ended = omega (arith, by_is, within, was.marks, was.valid.port_count.1) in
      let mark : (pass : ℕ) → get_or ended' pass false ≡ ((is_end e.act && (e.by == pass)) || get_or k.ended pass false) =
      λ pass. elim (cases_eq e.by pass) [
        | inl here ↦
            ap (λ l. get_or l pass false) ended_is ∙ ap (λ p. get_or (set k.ended e.by true) p false) (sym here) ∙ get_or-set_same k.ended e.by true false in_ended
            ∙ sym (ap (λ (a : Act). (is_end a && (e.by == pass)) || get_or k.ended pass false) act_is ∙ or_left _ _ (eq-eqb e.by pass here))
        | inr other ↦
            ap (λ l. get_or l pass false) ended_is ∙ get_or-set_other k.ended e.by pass true false (λ same. other (sym same))
            ∙ sym (ap (λ (a : Act). (is_end a && (e.by == pass)) || get_or k.ended pass false) act_is ∙ ap (λ b. b || get_or k.ended pass false) (ne_eqb e.by pass other))
      ] in
      remembers_next was (events.End who how) (row e []) e.moment ended' k.shut lanes' may (ap (λ (x : Entry). row x []) e_is) refl (record {
        passes = λ pass below. mark pass;
        marks = ap length ended_is ∙ length-set k.ended e.by true;
        shut_ports = shut_still was (row e []) (acts.End who how) act_is (λ number. refl);
        queues = shows;
        octets = omega (arith, was.octets);
        room = room_less was (row e []) (end_less (row e []) who how act_is by_is within may.0.running);
      })

  -- the end of an input or of the ticker leaves the lanes
  remembers_input : (who : Who) (how : How) (e : Entry) (ended' : List Bool) → MayCome k.plan k.base (reverse k.rows) (events.End who how) → e ≡ (row_of k.plan k.base (reverse k.rows) (events.End who how)).entry → ended' ≡ set k.ended e.by true → IsNoEgress who
      → Remembers (record k { rows = k.rows ++ row e [] ∷ []; moment = e.moment; ended = ended' })
  remembers_input who how e ended' may e_is ended_is no_egress =
      let act_is : e.act ≡ acts.End who how = ap (λ (x : Entry). x.act) e_is in
      let by_is : e.by ≡ pass_of k.plan who = ap (λ (x : Entry). x.by) e_is in
      remembers_end who how e ended' k.lanes may e_is ended_is
      (show_by (show_more was.queues (row e [])) (lane_of k.plan k.base (row e [] ∷ reverse k.rows)) (λ q known. lane_behind_input k.plan k.base (reverse k.rows) (row e []) q who how act_is by_is no_egress may.0.known))

  -- the end of an egress ends its lane
  remembers_egress : (port : Port) (how : How) (p : ℕ) (d : Lane Queued) (e : Entry) (ended' : List Bool) (lanes' : List (Lane Queued)) → MayCome k.plan k.base (reverse k.rows) (events.End (Egress port) how) → e ≡ (row_of k.plan k.base (reverse k.rows) (events.End (Egress port) how)).entry
      → ended' ≡ set k.ended e.by true → p ≡ place_of k.plan (number_of port) → lanes' ≡ set k.lanes p (with_ended how (get_or k.lanes p d)) → Remembers (record k { rows = k.rows ++ row e [] ∷ []; moment = e.moment; ended = ended'; lanes = lanes' })
  remembers_egress port how p d e ended' lanes' may e_is ended_is place_is are =
      let act_is : e.act ≡ acts.End (Egress port) how = ap (λ (x : Entry). x.act) e_is in
      let by_is : e.by ≡ egress_pass k.plan (number_of port) = ap (λ (x : Entry). x.by) e_is in
      let there = there_in was.queues (number_of port) p d may.0.known place_is in
      remembers_end (Egress port) how e ended' lanes' may e_is ended_is
      (subst (λ (lanes : List (Lane Queued)). Show k.plan (k.rows ++ row e [] ∷ []) lanes (lane_of k.plan k.base (row e [] ∷ reverse k.rows))) (sym are)
      (show_set was.queues (row e []) (lane_of k.plan k.base (row e [] ∷ reverse k.rows)) (number_of port) p (with_ended how (get_or k.lanes p d)) was.valid may.0.known place_is
      (there_ended k.rows (row e []) how (get_or k.lanes p d) there)
      (shown_ended k.plan k.rows (row e []) how (get_or k.lanes p d) there
      ∙ ap (with_ended how) (lane_at was.queues (number_of port) p d may.0.known place_is)
      ∙ lane_ended k.plan k.base (reverse k.rows) (row e []) port how act_is by_is)
      (λ q known other. lane_apart k.plan k.base (reverse k.rows) (row e []) q port how act_is by_is may.0.known known (λ same. other (sym same)))))

  -- the end of a pass ends the lane of a port whose egress it is
  pub remembers_pass : (who : Who) (how : How) (e : Entry) (ended' : List Bool) (lanes' : List (Lane Queued)) → MayCome k.plan k.base (reverse k.rows) (events.End who how) → e ≡ (row_of k.plan k.base (reverse k.rows) (events.End who how)).entry
      → ended' ≡ set k.ended e.by true → AreEnded k.plan who how k.lanes lanes' → Remembers (record k { rows = k.rows ++ row e [] ∷ []; moment = e.moment; ended = ended'; lanes = lanes' })
  remembers_pass (Ingress port) how e ended' lanes' may e_is ended_is are = rw are (remembers_input (Ingress port) how e ended' may e_is ended_is tt)
  remembers_pass Control how e ended' lanes' may e_is ended_is are = rw are (remembers_input Control how e ended' may e_is ended_is tt)
  remembers_pass Ticker how e ended' lanes' may e_is ended_is are = rw are (remembers_input Ticker how e ended' may e_is ended_is tt)
  remembers_pass (Egress port) how e ended' lanes' may e_is ended_is are = remembers_egress port how (place_of k.plan (number_of port)) no_lane e ended' lanes' may e_is ended_is refl are
