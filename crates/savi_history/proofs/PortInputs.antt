-- What an entry adds to what a history holds of a port's input.
use Rattle.std.proofs.Common.{◌≡◌, ◌≢◌, ℕ, ◌==◌, Bool, true, false, List, [], ◌∷◌, ◌++◌, length, refl, ◌∙◌, arith, if◌then◌else◌, append-nil, Option, Some}
use Rattle.std.proofs.lemmas.Bool.Decides.{nat_tests}
use Rattle.savi_kinds.specs.declared.port.Port.{Port}
use Rattle.savi_kinds.specs.declared.plan.Plan.{Plan}
use Rattle.savi_kinds.specs.declared.plan.PortPlan.{PortPlan}
use Rattle.savi_kinds.specs.declared.entry.Who.TheVariants.{Ingress, Control, Ticker, Egress}
use Rattle.savi_kinds.specs.declared.entry.How.{How}
use Rattle.savi_kinds.specs.declared.entry.How.TheVariants as hows
use Rattle.savi_kinds.specs.Ports.{number_of}
use Rattle.savi_kinds.specs.Arrivals.{Arrival}
use Rattle.savi_kinds.specs.Arrivals as arrivals
use Rattle.cli_lang.specs.Arrivals.{Line}
use Rattle.hist_store.specs.Rows.{Row}
use Rattle.checkpoint.specs.Bases.{Base}
use Rattle.savi_history.specs.Passes.{has_ended, egress_pass}
use Rattle.savi_history.specs.Queues.{queue}
use Rattle.savi_history.specs.Events.{Command, Drain, End}
use Rattle.savi_history.specs.Turns.{Turn, Arrives, Commands, Ends}
use Rattle.savi_history.specs.Replay.{PortStops, Stops, is_stopped, pieces_by, event_of, with_event, with_failure, begun, with_drain, drained, with_reply, entered, closing, with_end, egress_ended}
use Rattle.savi_history.specs.PortInputs.{arrived, input_end}
use Rattle.savi_history.proofs.Replying.{behind_reply}

-- two histories hold the same of a port's input
pub record HoldsSame (n : ℕ) (old new : List Row) : Type 0 where
  pub arrivals_same : arrived n new ≡ arrived n old
  pub end_same : input_end n new ≡ input_end n old

holds_then : (n : ℕ) (old mid new : List Row) → HoldsSame n old mid → HoldsSame n mid new → HoldsSame n old new
holds_then n old mid new first later = record { arrivals_same = later.arrivals_same ∙ first.arrivals_same; end_same = later.end_same ∙ first.end_same }

-- failed writes

same_failure_at : (plan : Plan) (base : Base) (past : List Row) (port : Port) (n : ℕ) (b : Bool) → HoldsSame n past (if b then with_event plan base past (End (Egress port) hows.Failed) else past)
same_failure_at plan base past port n true = record { arrivals_same = append-nil (arrived n past); end_same = refl }
same_failure_at plan base past port n false = record { arrivals_same = refl; end_same = refl }

pub same_failure : (plan : Plan) (base : Base) (stops : PortStops) (past : List Row) (port : Port) (n : ℕ) → HoldsSame n past (with_failure plan base stops port past)
same_failure plan base stops past port n = same_failure_at plan base past port n (is_stopped (stops (number_of port)) (pieces_by plan base (number_of port) past))

-- when outputs are begun nothing comes in
pub same_begun : (plan : Plan) (base : Base) (stops : PortStops) (ports : List PortPlan) (past : List Row) (n : ℕ) → HoldsSame n past (begun plan base stops ports past)
same_begun plan base stops [] past n = record { arrivals_same = refl; end_same = refl }
same_begun plan base stops (q ∷ qs) past n =
    let later = with_failure plan base stops q.number past in
    holds_then n past later (begun plan base stops qs later) (same_failure plan base stops past q.number n) (same_begun plan base stops qs later n)

-- drains

same_drain_at : (plan : Plan) (base : Base) (stops : PortStops) (past : List Row) (port : Port) (count n : ℕ) (b : Bool) → HoldsSame n past (if b then past else with_failure plan base stops port (with_event plan base past (Drain port count)))
same_drain_at plan base stops past port count n true = record { arrivals_same = refl; end_same = refl }
same_drain_at plan base stops past port count n false =
    let mid = with_event plan base past (Drain port count) in
    holds_then n past mid (with_failure plan base stops port mid) (record { arrivals_same = append-nil (arrived n past); end_same = refl }) (same_failure plan base stops mid port n)

same_drained : (plan : Plan) (base : Base) (stops : PortStops) (ports : List PortPlan) (past : List Row) (n : ℕ) → HoldsSame n past (drained plan base stops ports past)
same_drained plan base stops [] past n = record { arrivals_same = refl; end_same = refl }
same_drained plan base stops (q ∷ qs) past n =
    let count = length (queue plan base (number_of q.number) past) in
    let later = with_drain plan base stops q.number count past in
    holds_then n past later (drained plan base stops qs later) (same_drain_at plan base stops past q.number count n (count == 0)) (same_drained plan base stops qs later n)

-- ends of other passes

pub same_control : (plan : Plan) (base : Base) (past : List Row) (how : How) (n : ℕ) → HoldsSame n past (with_event plan base past (End Control how))
same_control plan base past how n = record { arrivals_same = append-nil (arrived n past); end_same = refl }

reply_same : (plan : Plan) (base : Base) (stop : Option ℕ) (line : Line) (past : List Row) (n : ℕ) → HoldsSame n past (with_reply plan base stop line past)
reply_same plan base stop line past n =
    behind_reply plan base line past (λ now. HoldsSame n past now) (record { arrivals_same = refl; end_same = refl }) (same_control plan base past hows.Unwritten n) (same_control plan base past hows.Quit n) stop

-- a line on control is no port's
pub same_line : (plan : Plan) (base : Base) (stops : Stops) (past : List Row) (line : Line) (n : ℕ) → HoldsSame n past (entered plan base stops (Commands line) past)
same_line plan base stops past line n =
    let commanded = with_event plan base past (Command line.stamp line.command) in
    let answered = with_reply plan base stops.control line commanded in
    holds_then n past answered (drained plan base stops.ports plan.ports answered)
    (holds_then n past commanded answered (record { arrivals_same = append-nil (arrived n past); end_same = refl }) (reply_same plan base stops.control line commanded n))
    (same_drained plan base stops.ports plan.ports answered n)

same_ticker : (plan : Plan) (base : Base) (past : List Row) (how : How) (n : ℕ) → HoldsSame n past (with_event plan base past (End Ticker how))
same_ticker plan base past how n = record { arrivals_same = append-nil (arrived n past); end_same = refl }

same_end_at : (plan : Plan) (base : Base) (past : List Row) (port : Port) (n : ℕ) (b : Bool) → HoldsSame n past (if b then past else with_event plan base past (End (Egress port) (closing past)))
same_end_at plan base past port n true = record { arrivals_same = refl; end_same = refl }
same_end_at plan base past port n false = record { arrivals_same = append-nil (arrived n past); end_same = refl }

pub same_egress : (plan : Plan) (base : Base) (ports : List PortPlan) (past : List Row) (n : ℕ) → HoldsSame n past (egress_ended plan base ports past)
same_egress plan base [] past n = record { arrivals_same = refl; end_same = refl }
same_egress plan base (q ∷ qs) past n =
    let later = with_end plan base q.number past in
    holds_then n past later (egress_ended plan base qs later) (same_end_at plan base past q.number n (has_ended base (egress_pass plan (number_of q.number)) past)) (same_egress plan base qs later n)

-- behind the ends of all inputs nothing more comes in
pub same_finished : (plan : Plan) (base : Base) (past : List Row) (n : ℕ) → HoldsSame n past (egress_ended plan base plan.ports (with_event plan base past (End Ticker (closing past))))
same_finished plan base past n =
    let later = with_event plan base past (End Ticker (closing past)) in
    holds_then n past later (egress_ended plan base plan.ports later) (same_ticker plan base past (closing past) n) (same_egress plan base plan.ports later n)

-- a turn at its own port

arrival_here : (plan : Plan) (base : Base) (past : List Row) (port : Port) (arrival : Arrival) (b : Bool) → (number_of port == number_of port) ≡ b → b ≡ true → arrived (number_of port) (with_event plan base past (event_of port arrival)) ≡ arrived (number_of port) past ++ arrival ∷ []
arrival_here plan base past port (arrivals.Frame stamp octets) b is b_is = rw (is, b_is) refl
arrival_here plan base past port (arrivals.Long stamp len) b is b_is = rw (is, b_is) refl

arrival_end : (plan : Plan) (base : Base) (past : List Row) (port : Port) (arrival : Arrival) (n : ℕ) → input_end n (with_event plan base past (event_of port arrival)) ≡ input_end n past
arrival_end plan base past port (arrivals.Frame stamp octets) n = refl
arrival_end plan base past port (arrivals.Long stamp len) n = refl

itself : (n : ℕ) → (n == n) ≡ true
itself n = grind (arith, nat_tests)

-- an arrival is entered
pub record HoldsMore (n : ℕ) (old new : List Row) (arrival : Arrival) : Type 0 where
  pub arrivals_more : arrived n new ≡ arrived n old ++ arrival ∷ []
  pub end_same : input_end n new ≡ input_end n old

pub more_entered : (plan : Plan) (base : Base) (stops : Stops) (past : List Row) (port : Port) (arrival : Arrival) → HoldsMore (number_of port) past (entered plan base stops (Arrives port arrival) past) arrival
more_entered plan base stops past port arrival =
    let n = number_of port in
    let later = with_event plan base past (event_of port arrival) in
    let drains = same_drained plan base stops.ports plan.ports later n in
    record {
      arrivals_more = drains.arrivals_same ∙ arrival_here plan base past port arrival (n == n) refl (itself n);
      end_same = drains.end_same ∙ arrival_end plan base past port arrival n;
    }

-- an input ends
pub record HoldsEnd (n : ℕ) (old new : List Row) (how : How) : Type 0 where
  pub arrivals_same : arrived n new ≡ arrived n old
  pub ended_so : input_end n new ≡ Some how

pub end_entered : (plan : Plan) (base : Base) (past : List Row) (port : Port) (how : How) → HoldsEnd (number_of port) past (with_event plan base past (End (Ingress port) how)) how
end_entered plan base past port how = record { arrivals_same = append-nil (arrived (number_of port) past); ended_so = rw (itself (number_of port)) refl }

-- a turn at another port

apart : (m n : ℕ) → m ≢ n → (m == n) ≡ false
apart m n other = grind (arith, nat_tests)

arrival_other : (plan : Plan) (base : Base) (past : List Row) (port : Port) (arrival : Arrival) (n : ℕ) → number_of port ≢ n → arrived n (with_event plan base past (event_of port arrival)) ≡ arrived n past
arrival_other plan base past port (arrivals.Frame stamp octets) n other = rw (apart (number_of port) n other) (append-nil (arrived n past))
arrival_other plan base past port (arrivals.Long stamp len) n other = rw (apart (number_of port) n other) (append-nil (arrived n past))

end_other : (plan : Plan) (base : Base) (past : List Row) (port : Port) (how : How) (n : ℕ) → number_of port ≢ n → HoldsSame n past (with_event plan base past (End (Ingress port) how))
end_other plan base past port how n other = record { arrivals_same = append-nil (arrived n past); end_same = rw (apart (number_of port) n other) refl }

other_arrival : (plan : Plan) (base : Base) (stops : Stops) (past : List Row) (port : Port) (arrival : Arrival) (n : ℕ) → number_of port ≢ n → HoldsSame n past (entered plan base stops (Arrives port arrival) past)
other_arrival plan base stops past port arrival n other =
    let later = with_event plan base past (event_of port arrival) in
    holds_then n past later (drained plan base stops.ports plan.ports later)
    (record { arrivals_same = arrival_other plan base past port arrival n other; end_same = arrival_end plan base past port arrival n })
    (same_drained plan base stops.ports plan.ports later n)

-- the turn is one of this port
abbrev pub IsTurnOf : Port → Turn → Type 0
IsTurnOf port (Arrives p arrival) = p ≡ port
IsTurnOf port (Commands line) = ⊥
IsTurnOf port (Ends (Ingress p) how) = p ≡ port
IsTurnOf port (Ends Control how) = ⊥
IsTurnOf port (Ends Ticker how) = ⊥
IsTurnOf port (Ends (Egress p) how) = ⊥

pub other_entered : (plan : Plan) (base : Base) (stops : Stops) (past : List Row) (port : Port) (turn : Turn) (n : ℕ) → IsTurnOf port turn → number_of port ≢ n → HoldsSame n past (entered plan base stops turn past)
other_entered plan base stops past port (Arrives p arrival) n is other = other_arrival plan base stops past p arrival n (rw is other)
other_entered plan base stops past port (Commands line) n is other = absurd is
other_entered plan base stops past port (Ends (Ingress p) how) n is other = end_other plan base past p how n (rw is other)
other_entered plan base stops past port (Ends Control how) n is other = absurd is
other_entered plan base stops past port (Ends Ticker how) n is other = absurd is
other_entered plan base stops past port (Ends (Egress p) how) n is other = absurd is
