-- What a replay enters pauses no input.
use Rattle.std.proofs.Common.{◌≡◌, ℕ, ◌==◌, ◌||◌, Bool, true, false, if◌then◌else◌, List, [], ◌∷◌, length, refl, ap, ◌∙◌, Option}
use Rattle.savi_kinds.specs.declared.port.Port.{Port}
use Rattle.savi_kinds.specs.declared.plan.Plan.{Plan}
use Rattle.savi_kinds.specs.declared.plan.PortPlan.{PortPlan}
use Rattle.savi_kinds.specs.declared.entry.Who.TheVariants as passes
use Rattle.savi_kinds.specs.declared.entry.How.{How}
use Rattle.savi_kinds.specs.declared.entry.How.TheVariants as hows
use Rattle.savi_kinds.specs.Ports.{number_of}
use Rattle.savi_kinds.specs.Arrivals.{Arrival}
use Rattle.savi_kinds.specs.Arrivals as arrivals
use Rattle.cli_lang.specs.Arrivals.{Line}
use Rattle.hist_store.specs.Rows.{Row}
use Rattle.checkpoint.specs.Bases.{Base}
use Rattle.savi_history.specs.Endings.{has_pause, is_paused_reason}
use Rattle.savi_history.specs.Events.{Command, Drain, End}
use Rattle.savi_history.specs.Queues.{queue}
use Rattle.savi_history.specs.Readable.{IsControlEnding, IsEnding}
use Rattle.savi_history.specs.Replay.{PortStops, Stops, begun, drained, entered, event_of, is_stopped, pieces_by, with_drain, with_event, with_failure, with_reply}
use Rattle.savi_history.specs.Turns.{Turn, Arrives, Commands, Ends}
use Rattle.savi_history.proofs.Replying.{behind_reply}
use Rattle.savi_segments.proofs.Legality.{IsTurn}

-- an input that is read to its end, or fails, isn't paused
pub ending : (how : How) → IsEnding how → is_paused_reason how ≡ false
ending hows.End fits = refl
ending hows.Quit fits = refl
ending (hows.Malformed at) fits = refl
ending (hows.Overlong at) fits = refl
ending hows.Failed fits = refl
ending hows.Unwritten fits = refl
ending hows.Paused fits = absurd fits

pub control_ending : (how : How) → IsControlEnding how → is_paused_reason how ≡ false
control_ending hows.End fits = refl
control_ending hows.Quit fits = refl
control_ending (hows.Malformed at) fits = refl
control_ending (hows.Overlong at) fits = refl
control_ending hows.Failed fits = refl
control_ending hows.Unwritten fits = refl
control_ending hows.Paused fits = absurd fits

module _ (plan : Plan) (base : Base) where
  failure_at : (past : List Row) (port : Port) (b : Bool) → has_pause (if b then with_event plan base past (End (passes.Egress port) hows.Failed) else past) ≡ has_pause past
  failure_at past port true = refl
  failure_at past port false = refl

  failure : (stops : PortStops) (past : List Row) (port : Port) → has_pause (with_failure plan base stops port past) ≡ has_pause past
  failure stops past port = failure_at past port (is_stopped (stops (number_of port)) (pieces_by plan base (number_of port) past))

  pub pause_begun : (stops : PortStops) (ports : List PortPlan) (past : List Row) → has_pause (begun plan base stops ports past) ≡ has_pause past
  pause_begun stops [] past = refl
  pause_begun stops (q ∷ qs) past = pause_begun stops qs (with_failure plan base stops q.number past) ∙ failure stops past q.number

  drain_at : (stops : PortStops) (past : List Row) (port : Port) (count : ℕ) (b : Bool) → has_pause (if b then past else with_failure plan base stops port (with_event plan base past (Drain port count))) ≡ has_pause past
  drain_at stops past port count true = refl
  drain_at stops past port count false = failure stops (with_event plan base past (Drain port count)) port

  pause_drained : (stops : PortStops) (ports : List PortPlan) (past : List Row) → has_pause (drained plan base stops ports past) ≡ has_pause past
  pause_drained stops [] past = refl
  pause_drained stops (q ∷ qs) past =
      let count = length (queue plan base (number_of q.number) past) in
      pause_drained stops qs (with_drain plan base stops q.number count past) ∙ drain_at stops past q.number count (count == 0)

  arrival : (past : List Row) (port : Port) (a : Arrival) → has_pause (with_event plan base past (event_of port a)) ≡ has_pause past
  arrival past port (arrivals.Frame stamp octets) = refl
  arrival past port (arrivals.Long stamp len) = refl

  reply : (past : List Row) (line : Line) (stop : Option ℕ) → has_pause (with_reply plan base stop line past) ≡ has_pause past
  reply past line stop = behind_reply plan base line past (λ now. has_pause now ≡ has_pause past) refl refl refl stop

  pub unpaused_entered : (stops : Stops) (t : Turn) (past : List Row) → IsTurn plan t → has_pause past ≡ false → has_pause (entered plan base stops t past) ≡ false
  unpaused_entered stops (Arrives port a) past fits none = pause_drained stops.ports plan.ports (with_event plan base past (event_of port a)) ∙ arrival past port a ∙ none
  unpaused_entered stops (Commands line) past fits none =
      let commanded = with_event plan base past (Command line.stamp line.command) in
      pause_drained stops.ports plan.ports (with_reply plan base stops.control line commanded) ∙ reply commanded line stops.control ∙ none
  unpaused_entered stops (Ends (passes.Ingress port) how) past fits none = ap (λ (b : Bool). b || has_pause past) (ending how fits.1) ∙ none
  unpaused_entered stops (Ends passes.Control how) past fits none = ap (λ (b : Bool). b || has_pause past) (control_ending how fits) ∙ none
  unpaused_entered stops (Ends passes.Ticker how) past fits none = absurd fits
  unpaused_entered stops (Ends (passes.Egress port) how) past fits none = absurd fits
