-- The steps of a replay pause nothing, and a segment that is paused and closed tells what it told before.
use Rattle.std.proofs.Common.{◌≡◌, ℕ, ◌==◌, Bool, true, false, if◌then◌else◌, List, [], ◌∷◌, ◌++◌, length, refl, ◌∙◌, append-nil, Option}
use Rattle.std.proofs.lemmas.Bool.{or_from}
use Rattle.savi_kinds.specs.declared.port.Port.{Port}
use Rattle.savi_kinds.specs.declared.plan.Plan.{Plan}
use Rattle.savi_kinds.specs.declared.plan.PortPlan.{PortPlan}
use Rattle.savi_kinds.specs.declared.entry.Who.{Who}
use Rattle.savi_kinds.specs.declared.entry.Who.TheVariants as passes
use Rattle.savi_kinds.specs.declared.entry.How.{How}
use Rattle.savi_kinds.specs.declared.entry.How.TheVariants as hows
use Rattle.savi_kinds.specs.Ports.{number_of}
use Rattle.savi_kinds.specs.Arrivals.{Arrival}
use Rattle.savi_kinds.specs.Arrivals as arrivals
use Rattle.cli_lang.specs.Arrivals.{Line}
use Rattle.hist_store.specs.Rows.{Row}
use Rattle.checkpoint.specs.Bases.{Base}
use Rattle.savi_history.specs.ControlOutputs.{replies}
use Rattle.savi_history.specs.Endings.{has_pause, is_paused_reason}
use Rattle.savi_history.specs.Events.{Command, Drain, End}
use Rattle.savi_history.specs.Passes.{control_pass, egress_pass, has_ended, pass_of}
use Rattle.savi_history.specs.Queues.{Item, queue, sent}
use Rattle.savi_history.specs.Replay.{PortStops, Stops, begun, closed, closing, drained, egress_ended, entered, event_of, is_stopped, pieces_by, with_drain, with_end, with_event, with_failure, with_reply}
use Rattle.savi_history.specs.Turns.{Turn, Arrives, Commands, Ends}
use Rattle.savi_history.proofs.Replying.{behind_reply}
use Rattle.savi_history.proofs.Waiting.{sent_end}
use Rattle.savi_segments.specs.Replay.{Run, base_in, inputs_paused, ports_paused, segments_of, turned, with_pause}
use Rattle.savi_segments.specs.Segments.{joined}
use Rattle.savi_segments.specs.Sent.{before_last_drain}
use Rattle.savi_segments.specs.Unbroken.{unbroken, without_pauses}
use Rattle.port_worker.proofs.Unbroken.{IsUnpaused, no_pause}

-- a turn that pauses nothing
abbrev pub IsPlain : Turn → Type 0
IsPlain (Arrives port arrival) = Unit {0}
IsPlain (Commands line) = Unit {0}
IsPlain (Ends who how) = is_paused_reason how ≡ false

module _ (plan : Plan) (base : Base) where
  unpaused_end : (past : List Row) (who : Who) (how : How) → is_paused_reason how ≡ false → IsUnpaused past → IsUnpaused (with_event plan base past (End who how))
  unpaused_end past who how plain none = or_from (is_paused_reason how) _ plain none

  unpaused_arrival : (past : List Row) (port : Port) (a : Arrival) → IsUnpaused past → IsUnpaused (with_event plan base past (event_of port a))
  unpaused_arrival past port (arrivals.Frame stamp octets) none = none
  unpaused_arrival past port (arrivals.Long stamp len) none = none

  unpaused_failure_at : (past : List Row) (port : Port) (b : Bool) → IsUnpaused past → IsUnpaused (if b then with_event plan base past (End (passes.Egress port) hows.Failed) else past)
  unpaused_failure_at past port true none = none
  unpaused_failure_at past port false none = none

  unpaused_failure : (stops : PortStops) (past : List Row) (port : Port) → IsUnpaused past → IsUnpaused (with_failure plan base stops port past)
  unpaused_failure stops past port = unpaused_failure_at past port (is_stopped (stops (number_of port)) (pieces_by plan base (number_of port) past))

  pub unpaused_begun : (stops : PortStops) (ports : List PortPlan) (past : List Row) → IsUnpaused past → IsUnpaused (begun plan base stops ports past)
  unpaused_begun stops [] past none = none
  unpaused_begun stops (q ∷ qs) past none = unpaused_begun stops qs (with_failure plan base stops q.number past) (unpaused_failure stops past q.number none)

  unpaused_drain_at : (stops : PortStops) (past : List Row) (port : Port) (count : ℕ) (b : Bool) → IsUnpaused past → IsUnpaused (if b then past else with_failure plan base stops port (with_event plan base past (Drain port count)))
  unpaused_drain_at stops past port count true none = none
  unpaused_drain_at stops past port count false none = unpaused_failure stops (with_event plan base past (Drain port count)) port none

  pub unpaused_drained : (stops : PortStops) (ports : List PortPlan) (past : List Row) → IsUnpaused past → IsUnpaused (drained plan base stops ports past)
  unpaused_drained stops [] past none = none
  unpaused_drained stops (q ∷ qs) past none =
      let count = length (queue plan base (number_of q.number) past) in
      unpaused_drained stops qs (with_drain plan base stops q.number count past) (unpaused_drain_at stops past q.number count (count == 0) none)

  unpaused_reply : (stop : Option ℕ) (line : Line) (past : List Row) → IsUnpaused past → IsUnpaused (with_reply plan base stop line past)
  unpaused_reply stop line past none = behind_reply plan base line past IsUnpaused none none none stop

  pub unpaused_entered : (stops : Stops) (turn : Turn) (past : List Row) → IsPlain turn → IsUnpaused past → IsUnpaused (entered plan base stops turn past)
  unpaused_entered stops (Arrives port a) past plain none = unpaused_drained stops.ports plan.ports (with_event plan base past (event_of port a)) (unpaused_arrival past port a none)
  unpaused_entered stops (Commands line) past plain none =
      let commanded = with_event plan base past (Command line.stamp line.command) in
      unpaused_drained stops.ports plan.ports (with_reply plan base stops.control line commanded) (unpaused_reply stops.control line commanded none)
  unpaused_entered stops (Ends who how) past plain none = unpaused_end past who how plain none

  -- where nothing is paused the ticker and the outputs end for good

  by_pause : (b : Bool) → b ≡ false → is_paused_reason (if b then hows.Paused else hows.End) ≡ false
  by_pause true none = cc
  by_pause false none = refl

  closing_plain : (past : List Row) → IsUnpaused past → is_paused_reason (closing past) ≡ false
  closing_plain past none = by_pause (has_pause past) (no_pause past none)

  unpaused_close : (past : List Row) (port : Port) (b : Bool) → IsUnpaused past → IsUnpaused (if b then past else with_event plan base past (End (passes.Egress port) (closing past)))
  unpaused_close past port true none = none
  unpaused_close past port false none = unpaused_end past (passes.Egress port) (closing past) (closing_plain past none) none

  unpaused_egress : (ports : List PortPlan) (past : List Row) → IsUnpaused past → IsUnpaused (egress_ended plan base ports past)
  unpaused_egress [] past none = none
  unpaused_egress (q ∷ qs) past none =
      unpaused_egress qs (with_end plan base q.number past) (unpaused_close past q.number (has_ended base (egress_pass plan (number_of q.number)) past) none)

  pub unpaused_closed : (past : List Row) → IsUnpaused past → IsUnpaused (closed plan base past)
  unpaused_closed past none =
      unpaused_egress plan.ports (with_event plan base past (End passes.Ticker (closing past))) (unpaused_end past passes.Ticker (closing past) (closing_plain past none) none)

  -- Pauses, and the closing behind one, add pauses alone.

  paused_at : (past rows : List Row) (who : Who) (b : Bool) → without_pauses ((if b then past else with_event plan base past (End who hows.Paused)) ++ rows) ≡ without_pauses (past ++ rows)
  paused_at past rows who true = refl
  paused_at past rows who false = refl

  paused_ports : (ports : List PortPlan) (past rows : List Row) → without_pauses (ports_paused plan base ports past ++ rows) ≡ without_pauses (past ++ rows)
  paused_ports [] past rows = refl
  paused_ports (p ∷ ports) past rows =
      let who = passes.Ingress p.number in
      paused_ports ports (with_pause plan base who past) rows ∙ paused_at past rows who (has_ended base (pass_of plan who) past)

  paused_inputs : (past rows : List Row) → without_pauses (inputs_paused plan base past ++ rows) ≡ without_pauses (past ++ rows)
  paused_inputs past rows = paused_ports plan.ports (with_pause plan base passes.Control past) rows ∙ paused_at past rows passes.Control (has_ended base (control_pass plan) past)

  closing_at : (past rows : List Row) (who : Who) → has_pause past ≡ true → without_pauses (with_event plan base past (End who (closing past)) ++ rows) ≡ without_pauses (past ++ rows)
  closing_at past rows who is = rw is refl

  close_at : (past rows : List Row) (port : Port) (b : Bool) → has_pause past ≡ true
      → without_pauses ((if b then past else with_event plan base past (End (passes.Egress port) (closing past))) ++ rows) ≡ without_pauses (past ++ rows)
  close_at past rows port true is = refl
  close_at past rows port false is = closing_at past rows (passes.Egress port) is

  still_at : (past : List Row) (port : Port) (b : Bool) → has_pause past ≡ true → has_pause (if b then past else with_event plan base past (End (passes.Egress port) (closing past))) ≡ true
  still_at past port true is = is
  still_at past port false is = is

  paused_egress : (ports : List PortPlan) (past rows : List Row) → has_pause past ≡ true → without_pauses (egress_ended plan base ports past ++ rows) ≡ without_pauses (past ++ rows)
  paused_egress [] past rows is = refl
  paused_egress (q ∷ qs) past rows is =
      let over = has_ended base (egress_pass plan (number_of q.number)) past in
      paused_egress qs (with_end plan base q.number past) rows (still_at past q.number over is) ∙ close_at past rows q.number over is

  paused_closed : (past rows : List Row) → has_pause past ≡ true → without_pauses (closed plan base past ++ rows) ≡ without_pauses (past ++ rows)
  paused_closed past rows is =
      paused_egress plan.ports (with_event plan base past (End passes.Ticker (closing past))) rows is ∙ closing_at past rows passes.Ticker is

  -- ends send nothing and have no reply
  pub record SendsSame (past now : List Row) : Type 0 where
    pub sent_same : (n : ℕ) → sent plan base n now ≡ sent plan base n past
    pub sure_same : (n : ℕ) (early : List Item) (text : List ℕ) → before_last_drain plan base n early text now ≡ before_last_drain plan base n early text past
    pub replies_same : replies plan base now ≡ replies plan base past

  sends_self : (past : List Row) → SendsSame past past
  sends_self past = record { sent_same = λ n. refl; sure_same = λ n early text. refl; replies_same = refl }

  sends_then : (past mid now : List Row) → SendsSame past mid → SendsSame mid now → SendsSame past now
  sends_then past mid now first later = record {
    sent_same = λ n. later.sent_same n ∙ first.sent_same n;
    sure_same = λ n early text. later.sure_same n early text ∙ first.sure_same n early text;
    replies_same = later.replies_same ∙ first.replies_same;
  }

  sends_end : (past : List Row) (who : Who) (how : How) → SendsSame past (with_event plan base past (End who how))
  sends_end past who how = record { sent_same = λ n. sent_end plan base past who how n; sure_same = λ n early text. refl; replies_same = append-nil (replies plan base past) }

  sends_if : (past : List Row) (who : Who) (how : How) (b : Bool) → SendsSame past (if b then past else with_event plan base past (End who how))
  sends_if past who how true = sends_self past
  sends_if past who how false = sends_end past who how

  sends_ports : (ports : List PortPlan) (past : List Row) → SendsSame past (ports_paused plan base ports past)
  sends_ports [] past = sends_self past
  sends_ports (p ∷ ports) past =
      let who = passes.Ingress p.number in
      let mid = with_pause plan base who past in
      sends_then past mid (ports_paused plan base ports mid) (sends_if past who hows.Paused (has_ended base (pass_of plan who) past)) (sends_ports ports mid)

  sends_egress : (ports : List PortPlan) (past : List Row) → SendsSame past (egress_ended plan base ports past)
  sends_egress [] past = sends_self past
  sends_egress (q ∷ qs) past =
      let mid = with_end plan base q.number past in
      sends_then past mid (egress_ended plan base qs mid) (sends_if past (passes.Egress q.number) (closing past) (has_ended base (egress_pass plan (number_of q.number)) past)) (sends_egress qs mid)

  pub sends_turned : (past : List Row) → SendsSame past (closed plan base (inputs_paused plan base past))
  sends_turned past =
      let first = with_pause plan base passes.Control past in
      let paused = inputs_paused plan base past in
      let ticked = with_event plan base paused (End passes.Ticker (closing paused)) in
      sends_then past paused (egress_ended plan base plan.ports ticked)
      (sends_then past first paused (sends_if past passes.Control hows.Paused (has_ended base (control_pass plan) past)) (sends_ports plan.ports first))
      (sends_then paused ticked (egress_ended plan base plan.ports ticked) (sends_end paused passes.Ticker (closing paused)) (sends_egress plan.ports ticked))

-- A turn of the segments leaves what they tell without pauses.
pub turned_unbroken : (plan : Plan) (run : Run) → has_pause (inputs_paused plan (base_in plan run) run.past) ≡ true → unbroken (segments_of (turned plan run)) ≡ unbroken (segments_of run)
turned_unbroken plan run shows =
    let base = base_in plan run in
    paused_closed plan base (inputs_paused plan base run.past) (joined run.closed) shows ∙ paused_inputs plan base run.past (joined run.closed)
