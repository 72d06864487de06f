-- What a sink took of the output of a port in a replay fits how that output ended for good.
use Rattle.std.proofs.Common.{◌≡◌, ℕ, ◌<◌, Bool, true, false, List, [], ◌∷◌, length, refl, sym, ap, subst, ◌∙◌, arith, if◌then◌else◌, Option, Some, None, append-nil}
use Rattle.std.specs.Option.{is_some}
use Rattle.std.specs.List.{All}
use Rattle.std.proofs.lemmas.Bool.{false≢true}
use Rattle.savi_kinds.specs.declared.plan.Plan.{Plan}
use Rattle.savi_kinds.specs.declared.entry.Who.TheVariants as passes
use Rattle.savi_kinds.specs.declared.entry.How.{How}
use Rattle.savi_kinds.specs.Arrivals.{Input}
use Rattle.cli_lang.specs.Arrivals as control
use Rattle.pcap_io.specs.Captures.{capture_text}
use Rattle.hist_store.specs.Rows.{Row}
use Rattle.checkpoint.specs.Bases.{empty}
use Rattle.savi_history.specs.Endings.{has_pause}
use Rattle.savi_history.specs.Events.{Command, End}
use Rattle.savi_history.specs.Limits.{has_room}
use Rattle.savi_history.specs.Merges.{merged}
use Rattle.savi_history.specs.Outputs.{sent_items}
use Rattle.savi_history.specs.Passes.{egress_pass, has_ended, pass_count, pass_of}
use Rattle.savi_history.specs.PortOutputs.{FitsOutput, TookPieces, pieces}
use Rattle.savi_history.specs.Queues.{Item, queue}
use Rattle.savi_history.specs.Readable.{IsControl, IsInput}
use Rattle.savi_history.specs.Replay.{Stops, closed, closing, event_of, with_event, with_reply}
use Rattle.savi_history.specs.Turns.{Turn, Arrives, Commands, Ends, all_turns, turn_at, who_of}
use Rattle.savi_history.proofs.PassNumbers.{number_at}
use Rattle.savi_history.proofs.PortPlaces.{place_within}
use Rattle.savi_history.proofs.Replaying.{IsAt, at_place}
use Rattle.savi_history.proofs.TakenPieces.{Fine, fits_taken}
use Rattle.savi_history.proofs.Waiting.{empty_begun, empty_end}
use Rattle.savi_segments.specs.Checkpoints.{end_of, up_to}
use Rattle.savi_segments.specs.Replay.{Run, all_taken, base_in, entered_in, has_ended_in, inputs_paused, inputs_taken, replayed, room_made, run_begun, stops_left, taken, taken_if_open, turned}
use Rattle.savi_segments.specs.Segments.{base_after}
use Rattle.savi_segments.specs.Sent.{FitsOutputIn, sent_in}
use Rattle.savi_segments.proofs.Legality.{AreTurns, IsTurn, all_known, all_turns_fit}
use Rattle.savi_segments.proofs.Passing.{below_in, in_ends}
use Rattle.savi_segments.proofs.Turning.{egress_all, ended_first, pause_closed}
use Rattle.savi_segments.proofs.Unpaused.{pause_begun, unpaused_entered}
use Rattle.savi_segments.proofs.OutputBegins.{stands_begun}
use Rattle.savi_segments.proofs.OutputSteps.{said, told, items, sure, same_arrival, same_line, same_ingress, same_control, same_paused, Stands, stands_same, stands_drained, IsClosing, closing_closed, empty_paused, quiet_drained, known}

module _ (plan : Plan) (stops : Stops) (n : ℕ) (place : IsAt plan n) where
  abbrev stop : Option ℕ
  stop = stops.ports n

  abbrev pass : ℕ
  pass = egress_pass plan n

  -- A replay so far: its output stands well, nothing waits, and nothing is paused in the segment that goes on.
  record IsWell (run : Run) : Type 0 where
    stands : Stands plan stops n place run.closed run.past
    quiet : queue plan (base_in plan run) n run.past ≡ []
    unpaused : has_pause run.past ≡ false

  -- turns of segments

  well_turned : (run : Run) → IsWell run → IsWell (turned plan run)
  well_turned run is =
      let before = run.closed in
      let base_before = base_in plan run in
      let paused = inputs_paused plan base_before run.past in
      let segment = closed plan base_before paused in
      let over : IsClosing plan stops n place before segment =
      closing_closed plan stops n place before paused (stands_same plan stops n place before run.past paused (same_paused plan stops n place before run.past) is.stands) (empty_paused plan stops n place before run.past is.quiet) in
      let within = place_within plan n (known plan stops n place) in
      let is_told : told plan stops n place (segment ∷ before) [] ≡ told plan stops n place before segment =
      in_ends (λ (m : ℕ). end_of base_before m segment) pass (up_to (pass_count plan)) (below_in (pass_count plan) pass (omega (arith, within))) in
      record {
        stands = record {
          fine = subst (λ (l : List Item). Fine stop (said plan stops n place before segment) l (sure plan stops n place before segment)) (sym (append-nil (items plan stops n place before segment))) over.fine;
          alike = is_told ∙ over.alike;
          good = ended_first (base_after plan (segment ∷ before)) pass;
          waits = λ ended. refl;
        };
        quiet = refl;
        unpaused = refl;
      }

  well_room_at : (run : Run) (b : Bool) → IsWell run → IsWell (if b then run else turned plan run)
  well_room_at run true is = is
  well_room_at run false is = well_turned run is

  well_room : (t : Turn) (run : Run) → IsWell run → IsWell (room_made plan t run)
  well_room (Arrives port a) run is = well_room_at run (has_room plan run.past) is
  well_room (Commands line) run is = well_room_at run (has_room plan run.past) is
  well_room (Ends who how) run is = is

  -- turns of inputs

  stands_entered : (t : Turn) (run : Run) → IsTurn plan t → Stands plan stops n place run.closed run.past → Stands plan stops n place run.closed (entered_in plan stops t run).past
  stands_entered (Arrives port a) run fits stands =
      let arrived = with_event plan (base_in plan run) run.past (event_of port a) in
      stands_drained plan stops n place run.closed plan.ports arrived (all_known plan (base_in plan run) stops) (stands_same plan stops n place run.closed run.past arrived (same_arrival plan stops n place run.closed run.past port a) stands)
  stands_entered (Commands line) run fits stands =
      let reply_stop = (stops_left plan stops run).control in
      let answered = with_reply plan (base_in plan run) reply_stop line (with_event plan (base_in plan run) run.past (Command line.stamp line.command)) in
      stands_drained plan stops n place run.closed plan.ports answered (all_known plan (base_in plan run) stops) (stands_same plan stops n place run.closed run.past answered (same_line plan stops n place run.closed run.past line reply_stop) stands)
  stands_entered (Ends (passes.Ingress port) how) run fits stands =
      stands_same plan stops n place run.closed run.past (with_event plan (base_in plan run) run.past (End (passes.Ingress port) how)) (same_ingress plan stops n place run.closed run.past port how fits.0) stands
  stands_entered (Ends passes.Control how) run fits stands =
      stands_same plan stops n place run.closed run.past (with_event plan (base_in plan run) run.past (End passes.Control how)) (same_control plan stops n place run.closed run.past how) stands
  stands_entered (Ends passes.Ticker how) run fits stands = absurd fits
  stands_entered (Ends (passes.Egress port) how) run fits stands = absurd fits

  quiet_entered : (t : Turn) (run : Run) → queue plan (base_in plan run) n run.past ≡ [] → queue plan (base_in plan run) n (entered_in plan stops t run).past ≡ []
  quiet_entered (Arrives port a) run quiet = quiet_drained plan stops n place run.closed (with_event plan (base_in plan run) run.past (event_of port a))
  quiet_entered (Commands line) run quiet =
      quiet_drained plan stops n place run.closed (with_reply plan (base_in plan run) (stops_left plan stops run).control line (with_event plan (base_in plan run) run.past (Command line.stamp line.command)))
  quiet_entered (Ends who how) run quiet = empty_end plan (base_in plan run) run.past who how n quiet

  well_entered : (t : Turn) (run : Run) → IsTurn plan t → IsWell run → IsWell (entered_in plan stops t run)
  well_entered t run fits is = record {
    stands = stands_entered t run fits is.stands;
    quiet = quiet_entered t run is.quiet;
    unpaused = unpaused_entered plan (base_in plan run) (stops_left plan stops run) t run.past fits is.unpaused;
  }

  well_at : (t : Turn) (run : Run) (b : Bool) → IsTurn plan t → IsWell run → IsWell (if b then run else taken plan stops t run)
  well_at t run true fits is = is
  well_at t run false fits is = well_entered t (room_made plan t run) fits (well_room t run is)

  well_all : (ts : List Turn) (run : Run) → AreTurns plan ts → IsWell run → IsWell (all_taken plan stops ts run)
  well_all [] run fit is = is
  well_all (t ∷ ts) run fit is = well_all ts (taken_if_open plan stops t run) fit.1 (well_at t run (has_ended_in plan (pass_of plan (who_of t)) run) fit.0 is)

  -- the whole replay

  well_begun : IsWell (run_begun plan stops)
  well_begun = record {
    stands = stands_begun plan stops n place;
    quiet = empty_begun plan empty stops.ports plan.ports [] n refl;
    unpaused = pause_begun plan empty stops.ports plan.ports [];
  }

  -- where the output has ended in the last segment it fits
  fits_by : (earlier : List (List Row)) (segment : List Row) (before after : Option (List ℕ)) (o : Option How) → said plan stops n place earlier segment ≡ o → is_some o ≡ true → IsClosing plan stops n place earlier segment
      → TookPieces before after (pieces (items plan stops n place earlier segment)) stop → FitsOutputIn plan before after n (segment ∷ earlier)
  fits_by earlier segment before after None is some over took = absurd (false≢true some)
  fits_by earlier segment before after (Some how) is some over took =
      subst (λ (o : Option How). FitsOutput before after (capture_text (sent_items (items plan stops n place earlier segment))) (sure plan stops n place earlier segment) o) (sym is)
      (fits_taken stop how before after (items plan stops n place earlier segment) (sure plan stops n place earlier segment)
      (subst (λ (o : Option How). Fine stop o (items plan stops n place earlier segment) (sure plan stops n place earlier segment)) is over.fine) took)

  fits_closed : (run : Run) (before after : Option (List ℕ)) → IsWell run → let segment = closed plan (base_in plan run) run.past in
      TookPieces before after (pieces (items plan stops n place run.closed segment)) stop → FitsOutputIn plan before after n (segment ∷ run.closed)
  fits_closed run before after is took =
      let base_now = base_in plan run in
      let segment = closed plan base_now run.past in
      let over = closing_closed plan stops n place run.closed run.past is.stands is.quiet in
      let ended : has_ended base_now pass segment ≡ true =
      subst (λ (m : ℕ). has_ended base_now (egress_pass plan m) segment ≡ true) (sym place.number)
      (egress_all plan base_now plan.ports (with_event plan base_now run.past (End passes.Ticker (closing run.past))) place.place place.inside) in
      let some : is_some (said plan stops n place run.closed segment) ≡ true = ap is_some (sym over.alike) ∙ sym (over.good (pause_closed plan base_now run.past ∙ is.unpaused)) ∙ ended in
      fits_by run.closed segment before after (said plan stops n place run.closed segment) refl some over took

-- In a replay with these stops, what the sink of a port took of its pieces fits how its output ended for good.
pub output_fits : (plan : Plan) (lines : Option control.Input) (inputs : List Input) (stops : Stops) (before after : Option (List ℕ)) (k : ℕ) → IsControl lines → All IsInput inputs → k < length plan.ports
    → TookPieces before after (pieces (sent_in plan (number_at plan k) (replayed plan lines inputs stops))) (stops.ports (number_at plan k)) → FitsOutputIn plan before after (number_at plan k) (replayed plan lines inputs stops)
output_fits plan lines inputs stops before after k control_is are inside took =
    let n = number_at plan k in
    let place : IsAt plan n = at_place plan k inside in
    let run = inputs_taken plan lines inputs stops in
    let well : IsWell plan stops n place run =
    well_all plan stops n place (merged turn_at (all_turns lines plan.ports inputs)) (run_begun plan stops) (all_turns_fit plan empty stops lines inputs control_is are) (well_begun plan stops n place) in
    fits_closed plan stops n place run before after well took
