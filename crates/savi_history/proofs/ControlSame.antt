-- What changes nothing that a history holds of control.
use Rattle.std.proofs.Common.{◌≡◌, ℕ, ◌==◌, Bool, true, false, List, [], ◌∷◌, ◌++◌, length, refl, ◌∙◌, subst, sym, arith, if◌then◌else◌, append-nil}
use Rattle.savi_kinds.specs.declared.port.Port.{Port}
use Rattle.savi_kinds.specs.declared.plan.Plan.{Plan}
use Rattle.savi_kinds.specs.declared.plan.PortPlan.{PortPlan}
use Rattle.savi_kinds.specs.declared.entry.Who.{Who}
use Rattle.savi_kinds.specs.declared.entry.Who.TheVariants as passes
use Rattle.savi_kinds.specs.declared.entry.How.{How}
use Rattle.savi_kinds.specs.declared.entry.How.TheVariants as hows
use Rattle.savi_kinds.specs.Ports.{number_of}
use Rattle.savi_kinds.specs.Arrivals.{Arrival}
use Rattle.savi_kinds.specs.Arrivals as arrivals
use Rattle.cli_lang.specs.Arrivals.{Line}
use Rattle.hist_store.specs.Rows.{Row}
use Rattle.checkpoint.specs.Bases.{Base}
use Rattle.savi_history.specs.Passes.{has_ended, has_port, control_pass, egress_pass}
use Rattle.savi_history.specs.Queues.{queue}
use Rattle.savi_history.specs.Shown.{shown}
use Rattle.savi_history.specs.Turns.{Turn, Arrives, Commands, Ends, who_of}
use Rattle.savi_history.specs.Events.{Command, Drain, End}
use Rattle.savi_history.specs.ControlInputs.{entered_lines, control_end}
use Rattle.savi_history.specs.ControlOutputs.{replies}
use Rattle.savi_history.specs.Replay.{PortStops, Stops, is_stopped, pieces_by, event_of, with_event, with_failure, begun, with_drain, drained, entered, closing, with_end, egress_ended}
use Rattle.savi_history.proofs.PassNumbers.{known_at}
use Rattle.savi_history.proofs.PortPlaces.{place_within}
use Rattle.savi_history.proofs.Replaying.{IsAt, IsOurs, anything}
use Rattle.savi_history.proofs.Waiting.{ended_other}

-- the pass is control's
abbrev pub is_control_pass : Who → Bool
is_control_pass (passes.Ingress port) = false
is_control_pass passes.Control = true
is_control_pass passes.Ticker = false
is_control_pass (passes.Egress port) = false

-- the turn is one of control
abbrev pub is_control : Turn → Bool
is_control turn = is_control_pass (who_of turn)

-- two histories hold the same of control
pub record ControlSame (plan : Plan) (base : Base) (past now : List Row) : Type 0 where
  pub lines_same : entered_lines now ≡ entered_lines past
  pub end_same : control_end now ≡ control_end past
  pub replies_same : replies plan base now ≡ replies plan base past
  pub ended_same : has_ended base (control_pass plan) now ≡ has_ended base (control_pass plan) past

module _ (plan : Plan) (base : Base) where
  pub control_self : (past : List Row) → ControlSame plan base past past
  control_self past = record { lines_same = refl; end_same = refl; replies_same = refl; ended_same = refl }

  pub control_then : (past mid now : List Row) → ControlSame plan base past mid → ControlSame plan base mid now → ControlSame plan base past now
  control_then past mid now first later = record {
    lines_same = later.lines_same ∙ first.lines_same;
    end_same = later.end_same ∙ first.end_same;
    replies_same = later.replies_same ∙ first.replies_same;
    ended_same = later.ended_same ∙ first.ended_same;
  }

  pub control_arrival : (past : List Row) (port : Port) (a : Arrival) → ControlSame plan base past (with_event plan base past (event_of port a))
  control_arrival past port (arrivals.Frame stamp octets) = record { lines_same = append-nil (entered_lines past); end_same = refl; replies_same = append-nil (replies plan base past); ended_same = refl }
  control_arrival past port (arrivals.Long stamp len) = record { lines_same = append-nil (entered_lines past); end_same = refl; replies_same = append-nil (replies plan base past); ended_same = refl }

  -- the end of the input of a port of the plan
  pub control_ingress : (past : List Row) (port : Port) (how : How) → IsAt plan (number_of port) → ControlSame plan base past (with_event plan base past (End (passes.Ingress port) how))
  control_ingress past port how at =
      let known : has_port plan (number_of port) ≡ true = subst (λ (n : ℕ). has_port plan n ≡ true) (sym at.number) (known_at plan at.place at.inside) in
      let within = place_within plan (number_of port) known in
      record {
        lines_same = append-nil (entered_lines past);
        end_same = refl;
        replies_same = append-nil (replies plan base past);
        ended_same = ended_other plan base past (passes.Ingress port) how (control_pass plan) (λ same. absurd (omega (arith, within, same)));
      }

  pub control_egress : (past : List Row) (port : Port) (how : How) → ControlSame plan base past (with_event plan base past (End (passes.Egress port) how))
  control_egress past port how = record {
    lines_same = append-nil (entered_lines past);
    end_same = refl;
    replies_same = append-nil (replies plan base past);
    ended_same = ended_other plan base past (passes.Egress port) how (control_pass plan) (λ same. absurd (omega (arith, same)));
  }

  pub control_ticker : (past : List Row) → ControlSame plan base past (with_event plan base past (End passes.Ticker (closing past)))
  control_ticker past = record {
    lines_same = append-nil (entered_lines past);
    end_same = refl;
    replies_same = append-nil (replies plan base past);
    ended_same = ended_other plan base past passes.Ticker (closing past) (control_pass plan) (λ same. absurd (omega (arith, same)));
  }

  failure_at : (past : List Row) (port : Port) (b : Bool) → ControlSame plan base past (if b then with_event plan base past (End (passes.Egress port) hows.Failed) else past)
  failure_at past port true = control_egress past port hows.Failed
  failure_at past port false = control_self past

  pub control_failure : (stops : PortStops) (past : List Row) (port : Port) → ControlSame plan base past (with_failure plan base stops port past)
  control_failure stops past port = failure_at past port (is_stopped (stops (number_of port)) (pieces_by plan base (number_of port) past))

  pub control_begun : (stops : PortStops) (ports : List PortPlan) (past : List Row) → ControlSame plan base past (begun plan base stops ports past)
  control_begun stops [] past = control_self past
  control_begun stops (q ∷ qs) past =
      let mid = with_failure plan base stops q.number past in
      control_then past mid (begun plan base stops qs mid) (control_failure stops past q.number) (control_begun stops qs mid)

  drain_at : (stops : PortStops) (past : List Row) (port : Port) (count : ℕ) (b : Bool) → ControlSame plan base past (if b then past else with_failure plan base stops port (with_event plan base past (Drain port count)))
  drain_at stops past port count true = control_self past
  drain_at stops past port count false =
      let mid = with_event plan base past (Drain port count) in
      control_then past mid (with_failure plan base stops port mid)
      (record { lines_same = append-nil (entered_lines past); end_same = refl; replies_same = append-nil (replies plan base past); ended_same = refl })
      (control_failure stops mid port)

  pub control_drain : (stops : PortStops) (past : List Row) (port : Port) (count : ℕ) → ControlSame plan base past (with_drain plan base stops port count past)
  control_drain stops past port count = drain_at stops past port count (count == 0)

  pub control_drained : (stops : PortStops) (ports : List PortPlan) (past : List Row) → ControlSame plan base past (drained plan base stops ports past)
  control_drained stops [] past = control_self past
  control_drained stops (q ∷ qs) past =
      let mid = with_drain plan base stops q.number (length (queue plan base (number_of q.number) past)) past in
      control_then past mid (drained plan base stops qs mid) (control_drain stops past q.number (length (queue plan base (number_of q.number) past))) (control_drained stops qs mid)

  close_at : (past : List Row) (port : Port) (b : Bool) → ControlSame plan base past (if b then past else with_event plan base past (End (passes.Egress port) (closing past)))
  close_at past port true = control_self past
  close_at past port false = control_egress past port (closing past)

  pub control_close : (past : List Row) (port : Port) → ControlSame plan base past (with_end plan base port past)
  control_close past port = close_at past port (has_ended base (egress_pass plan (number_of port)) past)

  control_closed : (ports : List PortPlan) (past : List Row) → ControlSame plan base past (egress_ended plan base ports past)
  control_closed [] past = control_self past
  control_closed (q ∷ qs) past =
      let mid = with_end plan base q.number past in
      control_then past mid (egress_ended plan base qs mid) (control_close past q.number) (control_closed qs mid)

  -- behind the ends of all inputs control does nothing more
  pub control_finished : (past : List Row) → ControlSame plan base past (egress_ended plan base plan.ports (with_event plan base past (End passes.Ticker (closing past))))
  control_finished past =
      let ticked = with_event plan base past (End passes.Ticker (closing past)) in
      control_then past ticked (egress_ended plan base plan.ports ticked) (control_ticker past) (control_closed plan.ports ticked)

  -- turns of ports

  -- a turn of a port changes nothing of control
  pub control_entered : (stops : Stops) (t : Turn) (past : List Row) → IsOurs plan anything t → is_control t ≡ false → ControlSame plan base past (entered plan base stops t past)
  control_entered stops (Arrives port a) past ours other =
      let mid = with_event plan base past (event_of port a) in
      control_then past mid (drained plan base stops.ports plan.ports mid) (control_arrival past port a) (control_drained stops.ports plan.ports mid)
  control_entered stops (Commands line) past ours other = cc
  control_entered stops (Ends (passes.Ingress port) how) past ours other = control_ingress past port how ours
  control_entered stops (Ends passes.Control how) past ours other = cc
  control_entered stops (Ends passes.Ticker how) past ours other = absurd ours
  control_entered stops (Ends (passes.Egress port) how) past ours other = absurd ours

  -- the entry of a line: one line more, and one reply
  pub control_command : (past : List Row) (line : Line) → let now = with_event plan base past (Command line.stamp line.command) in (entered_lines now ≡ entered_lines past ++ line ∷ []) × (replies plan base now ≡ replies plan base past ++ shown plan base now ∷ [])
  control_command past line = (refl, refl)
