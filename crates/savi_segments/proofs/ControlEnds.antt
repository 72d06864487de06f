-- How control has ended for good, as a replay goes on: by its own ends alone, across turns too.
use Rattle.std.proofs.Common.{◌≡◌, ◌≢◌, ℕ, ◌==◌, Bool, true, false, List, [], ◌∷◌, length, refl, ap, sym, ◌∙◌, subst, arith, if◌then◌else◌, append-nil, Option, Some}
use Rattle.std.proofs.lemmas.Bool.{eq-eqb, ne_eqb}
use Rattle.savi_kinds.specs.declared.port.Port.{Port}
use Rattle.savi_kinds.specs.declared.plan.Plan.{Plan}
use Rattle.savi_kinds.specs.declared.plan.PortPlan.{PortPlan}
use Rattle.savi_kinds.specs.declared.entry.Who.{Who}
use Rattle.savi_kinds.specs.declared.entry.Who.TheVariants as passes
use Rattle.savi_kinds.specs.declared.entry.How.{How}
use Rattle.savi_kinds.specs.declared.entry.How.TheVariants as hows
use Rattle.savi_kinds.specs.Ports.{number_of}
use Rattle.savi_kinds.specs.Arrivals.{Arrival}
use Rattle.savi_kinds.specs.Arrivals as arrivals
use Rattle.hist_store.specs.Rows.{Row}
use Rattle.checkpoint.specs.Bases.{Base}
use Rattle.savi_history.specs.ControlInputs.{control_end, entered_lines}
use Rattle.savi_history.specs.ControlOutputs.{replies}
use Rattle.savi_history.specs.Endings.{is_paused_reason}
use Rattle.savi_history.specs.Events.{Drain, End}
use Rattle.savi_history.specs.Passes.{control_pass, egress_pass, has_ended, has_port, pass_count, pass_of}
use Rattle.savi_history.specs.Queues.{queue}
use Rattle.savi_history.specs.Replay.{PortStops, Stops, begun, closed, closing, drained, egress_ended, entered, event_of, is_stopped, pieces_by, with_drain, with_end, with_event, with_failure}
use Rattle.savi_history.specs.Turns.{Turn, Arrives, Commands, Ends}
use Rattle.savi_history.proofs.ControlSame.{is_control}
use Rattle.savi_history.proofs.PassNumbers.{known_at}
use Rattle.savi_history.proofs.PortPlaces.{place_within}
use Rattle.savi_history.proofs.Replaying.{IsAt, IsOurs, anything}
use Rattle.savi_segments.specs.Checkpoints.{end_of, up_to}
use Rattle.savi_segments.specs.Replay.{Run, all_closed, base_in, inputs_paused, ports_paused, turned, with_pause}
use Rattle.savi_segments.specs.Segments.{AreLegal}
use Rattle.savi_segments.specs.Unbroken.{unbroken}
use Rattle.savi_segments.proofs.HowEnded.{control_says, newest_says}
use Rattle.savi_segments.proofs.Passing.{below_in, in_ends}
use Rattle.savi_segments.proofs.Turning.{still_inputs}

pub itself : (n : ℕ) → (n == n) ≡ true
itself n = eq-eqb n n refl

-- how control has ended for good is a matter of its own ends

same_either : (paused : Bool) (before : Option How) → (if paused then before else before) ≡ before
same_either true before = refl
same_either false before = refl

module _ (plan : Plan) (base : Base) where
  abbrev pub how_ended : List Row → Option How
  how_ended past = end_of base (control_pass plan) past

  pub other_end : (past : List Row) (who : Who) (how : How) → pass_of plan who ≢ control_pass plan → how_ended (with_event plan base past (End who how)) ≡ how_ended past
  other_end past who how apart =
      ap (λ (here : Bool). if is_paused_reason how then how_ended past else if here then Some how else how_ended past) (ne_eqb (pass_of plan who) (control_pass plan) apart)
      ∙ same_either (is_paused_reason how) (how_ended past)

  pub other_egress : (past : List Row) (port : Port) (how : How) → how_ended (with_event plan base past (End (passes.Egress port) how)) ≡ how_ended past
  other_egress past port how = other_end past (passes.Egress port) how (λ same. absurd (omega (arith, same)))

  pub other_ingress : (past : List Row) (port : Port) (how : How) → IsAt plan (number_of port) → how_ended (with_event plan base past (End (passes.Ingress port) how)) ≡ how_ended past
  other_ingress past port how at =
      let known : has_port plan (number_of port) ≡ true = subst (λ (n : ℕ). has_port plan n ≡ true) (sym at.number) (known_at plan at.place at.inside) in
      let within = place_within plan (number_of port) known in
      other_end past (passes.Ingress port) how (λ same. absurd (omega (arith, within, same)))

  pub other_arrival : (past : List Row) (port : Port) (a : Arrival) → how_ended (with_event plan base past (event_of port a)) ≡ how_ended past
  other_arrival past port (arrivals.Frame stamp octets) = refl
  other_arrival past port (arrivals.Long stamp len) = refl

  other_failure_at : (past : List Row) (port : Port) (b : Bool) → how_ended (if b then with_event plan base past (End (passes.Egress port) hows.Failed) else past) ≡ how_ended past
  other_failure_at past port true = other_egress past port hows.Failed
  other_failure_at past port false = refl

  pub other_failure : (stops : PortStops) (past : List Row) (port : Port) → how_ended (with_failure plan base stops port past) ≡ how_ended past
  other_failure stops past port = other_failure_at past port (is_stopped (stops (number_of port)) (pieces_by plan base (number_of port) past))

  pub other_begun : (stops : PortStops) (ports : List PortPlan) (past : List Row) → how_ended (begun plan base stops ports past) ≡ how_ended past
  other_begun stops [] past = refl
  other_begun stops (q ∷ qs) past = other_begun stops qs (with_failure plan base stops q.number past) ∙ other_failure stops past q.number

  other_drain_at : (stops : PortStops) (past : List Row) (port : Port) (count : ℕ) (b : Bool) → how_ended (if b then past else with_failure plan base stops port (with_event plan base past (Drain port count))) ≡ how_ended past
  other_drain_at stops past port count true = refl
  other_drain_at stops past port count false = other_failure stops (with_event plan base past (Drain port count)) port

  pub other_drained : (stops : PortStops) (ports : List PortPlan) (past : List Row) → how_ended (drained plan base stops ports past) ≡ how_ended past
  other_drained stops [] past = refl
  other_drained stops (q ∷ qs) past =
      let count = length (queue plan base (number_of q.number) past) in
      other_drained stops qs (with_drain plan base stops q.number count past) ∙ other_drain_at stops past q.number count (count == 0)

  pub other_entered : (stops : Stops) (t : Turn) (past : List Row) → IsOurs plan anything t → is_control t ≡ false → how_ended (entered plan base stops t past) ≡ how_ended past
  other_entered stops (Arrives port a) past ours other = other_drained stops.ports plan.ports (with_event plan base past (event_of port a)) ∙ other_arrival past port a
  other_entered stops (Commands line) past ours other = cc
  other_entered stops (Ends (passes.Ingress port) how) past ours other = other_ingress past port how ours
  other_entered stops (Ends passes.Control how) past ours other = cc
  other_entered stops (Ends passes.Ticker how) past ours other = absurd ours
  other_entered stops (Ends (passes.Egress port) how) past ours other = absurd ours

  other_close_at : (past : List Row) (port : Port) (b : Bool) → how_ended (if b then past else with_event plan base past (End (passes.Egress port) (closing past))) ≡ how_ended past
  other_close_at past port true = refl
  other_close_at past port false = other_egress past port (closing past)

  other_closes : (ports : List PortPlan) (past : List Row) → how_ended (egress_ended plan base ports past) ≡ how_ended past
  other_closes [] past = refl
  other_closes (q ∷ qs) past = other_closes qs (with_end plan base q.number past) ∙ other_close_at past q.number (has_ended base (egress_pass plan (number_of q.number)) past)

  pub other_closed : (past : List Row) → how_ended (closed plan base past) ≡ how_ended past
  other_closed past =
      other_closes plan.ports (with_event plan base past (End passes.Ticker (closing past))) ∙ other_end past passes.Ticker (closing past) (λ same. absurd (omega (arith, same)))

  -- pauses enter no line
  lines_if : (past : List Row) (who : Who) (b : Bool) → entered_lines (if b then past else with_event plan base past (End who hows.Paused)) ≡ entered_lines past
  lines_if past who true = refl
  lines_if past who false = append-nil (entered_lines past)

  lines_ports : (ports : List PortPlan) (past : List Row) → entered_lines (ports_paused plan base ports past) ≡ entered_lines past
  lines_ports [] past = refl
  lines_ports (p ∷ ports) past =
      let who = passes.Ingress p.number in
      lines_ports ports (with_pause plan base who past) ∙ lines_if past who (has_ended base (pass_of plan who) past)

  pub lines_paused : (past : List Row) → entered_lines (inputs_paused plan base past) ≡ entered_lines past
  lines_paused past = lines_ports plan.ports (with_pause plan base passes.Control past) ∙ lines_if past passes.Control (has_ended base (control_pass plan) past)

  -- pauses have no reply
  replies_if : (past : List Row) (who : Who) (b : Bool) → replies plan base (if b then past else with_event plan base past (End who hows.Paused)) ≡ replies plan base past
  replies_if past who true = refl
  replies_if past who false = append-nil (replies plan base past)

  replies_ports : (ports : List PortPlan) (past : List Row) → replies plan base (ports_paused plan base ports past) ≡ replies plan base past
  replies_ports [] past = refl
  replies_ports (p ∷ ports) past =
      let who = passes.Ingress p.number in
      replies_ports ports (with_pause plan base who past) ∙ replies_if past who (has_ended base (pass_of plan who) past)

  pub replies_paused : (past : List Row) → replies plan base (inputs_paused plan base past) ≡ replies plan base past
  replies_paused past = replies_ports plan.ports (with_pause plan base passes.Control past) ∙ replies_if past passes.Control (has_ended base (control_pass plan) past)

abbrev pub how_in : Plan → Run → Option How
how_in plan run = end_of (base_in plan run) (control_pass plan) run.past

-- the next segment says what those before it said
pub how_turned : (plan : Plan) (run : Run) → how_in plan (turned plan run) ≡ how_in plan run
how_turned plan run =
    let base = base_in plan run in
    let paused = inputs_paused plan base run.past in
    let segment = closed plan base paused in
    in_ends (λ (n : ℕ). end_of base n segment) (control_pass plan) (up_to (pass_count plan)) (below_in (pass_count plan) (control_pass plan) (omega arith))
    ∙ other_closed plan base paused ∙ still_inputs plan base run.past (control_pass plan)

-- Where a run closes control has ended for good as its rows say.
pub said_last : (plan : Plan) (run : Run) → AreLegal plan (all_closed plan run) → control_end (unbroken (all_closed plan run)) ≡ how_in plan run
said_last plan run legal =
    let base = base_in plan run in
    sym (newest_says plan (control_pass plan) control_end (control_says plan) (omega arith) (closed plan base run.past) run.closed legal)
    ∙ other_closed plan base run.past
