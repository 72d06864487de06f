-- What a replay enters within a history is legal, and so is its end.
use Rattle.std.proofs.Common.{◌≡◌, ◌≢◌, ℕ, suc, ◌+◌, ◌<◌, ◌≤◌, ◌==◌, ◌||◌, nat_lt, Bool, true, false, List, [], ◌∷◌, ◌++◌, map, get_or, length, refl, sym, ◌∙◌, subst, arith, if◌then◌else◌, ◌⊎◌, inl, inr, Option, Some, None}
use Rattle.std.proofs.lemmas.Bool.{cases_eq}
use Rattle.std.proofs.lemmas.Bool.Decides.{nat_tests}
use Rattle.std.proofs.lemmas.List.{length-map}
use Rattle.std.specs.List.{All, list_any}
use Rattle.std.specs.List.Sorted.{IsStrictlyIncreasing}
use Rattle.savi_kinds.specs.declared.port.Port.{Port}
use Rattle.savi_kinds.specs.declared.plan.Plan.{Plan}
use Rattle.savi_kinds.specs.declared.plan.PortPlan.{PortPlan}
use Rattle.savi_kinds.specs.declared.entry.Who.{Who}
use Rattle.savi_kinds.specs.declared.entry.Who.TheVariants as passes
use Rattle.savi_kinds.specs.declared.entry.How.{How}
use Rattle.savi_kinds.specs.declared.entry.How.TheVariants as hows
use Rattle.savi_kinds.specs.Ports.{number_of}
use Rattle.savi_kinds.specs.ValidPlan.{numbers_of}
use Rattle.savi_kinds.specs.Arrivals.{Arrival, Input}
use Rattle.savi_kinds.specs.Arrivals as arrivals
use Rattle.cli_lang.specs.Arrivals.{Line}
use Rattle.cli_lang.specs.Arrivals as control
use Rattle.hist_store.specs.Rows.{Row}
use Rattle.checkpoint.specs.Bases.{Base}
use Rattle.savi_history.specs.Limits.{has_room}
use Rattle.savi_history.specs.Passes.{pass_of, has_ended, has_port, place_of, place_among, control_pass, ticker_pass, egress_pass, AllEnded}
use Rattle.savi_history.specs.Queues.{queue}
use Rattle.savi_history.specs.Events.{Event, Command, Drain, End}
use Rattle.savi_history.specs.Endings.{has_pause}
use Rattle.savi_history.specs.Legal.{IsLegal, IsOpen, InputsEnded, HasNothingToSend, MayEndTicker, MayEndEgress, MayCome}
use Rattle.savi_history.specs.Readable.{IsArrival, IsEnding, IsInput, IsLineInRange, IsControlEnding, IsControl}
use Rattle.savi_history.specs.Merges.{enter, merge, merged}
use Rattle.savi_history.specs.Turns.{Turn, Arrives, Commands, Ends, who_of, turn_at, turns, port_turns, control_turns, all_turns}
use Rattle.savi_history.specs.Replay.{Stops, is_stopped, pieces_by, event_of, with_event, with_failure, begun, with_drain, drained, with_reply, entered, closed, closing, with_end, egress_ended}
use Rattle.savi_history.proofs.Replying.{behind_reply}
use Rattle.savi_history.proofs.Ends.{later_event, later_end}
use Rattle.savi_history.proofs.Waiting.{ended_now, ended_other, ended_arrival, ended_failure, ended_drained, ended_begun, empty_end, empty_begun, drained_empty}
use Rattle.savi_history.proofs.PassNumbers.{number_at, place_at, known_at}
use Rattle.savi_history.proofs.Closed.{waits_open}

-- a turn that a reader of a port of the plan may give, or one of control
abbrev pub IsTurn : Plan → Turn → Type 0
IsTurn plan (Arrives port arrival) = (has_port plan (number_of port) ≡ true) × IsArrival arrival
IsTurn plan (Commands line) = IsLineInRange line
IsTurn plan (Ends (passes.Ingress port) how) = (has_port plan (number_of port) ≡ true) × IsEnding how
IsTurn plan (Ends passes.Control how) = IsControlEnding how
IsTurn plan (Ends passes.Ticker how) = ⊥
IsTurn plan (Ends (passes.Egress port) how) = ⊥

abbrev pub AreTurns : Plan → List Turn → Type 0
AreTurns plan [] = Unit {0}
AreTurns plan (x ∷ xs) = IsTurn plan x × AreTurns plan xs

abbrev pub AreKnown : Plan → List PortPlan → Type 0
AreKnown plan [] = Unit {0}
AreKnown plan (p ∷ ports) = (has_port plan (number_of p.number) ≡ true) × AreKnown plan ports

-- legal, with nothing waiting and the ticker open
pub record IsGood (plan : Plan) (base : Base) (past : List Row) : Type 0 where
  pub legal : IsLegal plan base past
  pub ticking : has_ended base (ticker_pass plan) past ≡ false
  pub quiet : (k : ℕ) → k < length plan.ports → queue plan base (number_at plan k) past ≡ []

-- an ending needs no room
abbrev pub HasRoomFor : Plan → Turn → List Row → Type 0
HasRoomFor plan (Arrives port a) past = has_room plan past ≡ true
HasRoomFor plan (Commands line) past = has_room plan past ≡ true
HasRoomFor plan (Ends who how) past = Unit {0}

place_in_at : (ns : List ℕ) (n x : ℕ) (b : Bool) → (b || list_any (λ m. m == x) ns) ≡ true → (list_any (λ m. m == x) ns ≡ true → place_among ns x < length ns) → (if b then 0 else suc (place_among ns x)) < suc (length ns)
place_in_at ns n x true is step = omega arith
place_in_at ns n x false is step = let more = step is in omega arith

place_in : (ns : List ℕ) (x : ℕ) → list_any (λ n. n == x) ns ≡ true → place_among ns x < length ns
place_in [] x is = cc
place_in (n ∷ ns) x is = place_in_at ns n x (n == x) is (λ there. place_in ns x there)

module _ (plan : Plan) (base : Base) (stops : Stops) where
  ticked_at : (past : List Row) (pass : ℕ) → AllEnded base (control_pass plan + 1) past → pass < ticker_pass plan + 1 → (pass ≡ ticker_pass plan) ⊎ (pass ≢ ticker_pass plan) → has_ended base pass (with_event plan base past (End passes.Ticker (closing past))) ≡ true
  ticked_at past pass inputs below (inl same) = subst (λ (n : ℕ). has_ended base n (with_event plan base past (End passes.Ticker (closing past))) ≡ true) (sym same) (ended_now plan base past passes.Ticker (closing past))
  ticked_at past pass inputs below (inr other) = later_event plan base past (End passes.Ticker (closing past)) pass (inputs pass (omega arith))

  legal_event : (past : List Row) (event : Event) → IsLegal plan base past → MayCome plan base past event → IsLegal plan base (with_event plan base past event)
  legal_event past event legal may = ((event, may, refl), legal)

  -- an egress that is open may end at a failed write
  legal_failure_at : (past : List Row) (port : Port) (b : Bool) → IsLegal plan base past → IsOpen plan base past (passes.Egress port)
      → IsLegal plan base (if b then with_event plan base past (End (passes.Egress port) hows.Failed) else past)
  legal_failure_at past port true legal is_open = legal_event past (End (passes.Egress port) hows.Failed) legal (is_open, tt)
  legal_failure_at past port false legal is_open = legal

  legal_failure : (past : List Row) (port : Port) → IsLegal plan base past → IsOpen plan base past (passes.Egress port) → IsLegal plan base (with_failure plan base stops.ports port past)
  legal_failure past port = legal_failure_at past port (is_stopped (stops.ports (number_of port)) (pieces_by plan base (number_of port) past))

  -- where something waits the egress is open
  legal_drain_at : (past : List Row) (port : Port) (b : Bool) → (length (queue plan base (number_of port) past) == 0) ≡ b → IsLegal plan base past → has_port plan (number_of port) ≡ true
      → IsLegal plan base (if b then past else with_failure plan base stops.ports port (with_event plan base past (Drain port (length (queue plan base (number_of port) past)))))
  legal_drain_at past port true is legal known = legal
  legal_drain_at past port false is legal known =
      let count = length (queue plan base (number_of port) past) in
      let some : 0 < length (queue plan base (number_of port) past) = grind (arith, nat_tests) in
      let running : has_ended base (egress_pass plan (number_of port)) past ≡ false = waits_open plan base past (number_of port) legal known some in
      legal_failure (with_event plan base past (Drain port count)) port
      (legal_event past (Drain port count) legal (record { known = known; running = running }, omega arith, omega arith))
      (record { known = known; running = running })

  legal_drained : (ports : List PortPlan) (past : List Row) → AreKnown plan ports → IsLegal plan base past → IsLegal plan base (drained plan base stops.ports ports past)
  legal_drained [] past known legal = legal
  legal_drained (q ∷ qs) past known legal =
      let count = length (queue plan base (number_of q.number) past) in
      legal_drained qs (with_drain plan base stops.ports q.number count past) known.1 (legal_drain_at past q.number (count == 0) refl legal known.0)

  -- outputs that haven't ended are begun
  legal_begun : (ports : List PortPlan) (j : ℕ) (past : List Row) → ((k : ℕ) → k < length ports → place_of plan (get_or (numbers_of ports) k 0) ≡ j + k) → AreKnown plan ports → IsLegal plan base past
      → ((k : ℕ) → k < length ports → has_ended base (egress_pass plan (get_or (numbers_of ports) k 0)) past ≡ false) → IsLegal plan base (begun plan base stops.ports ports past)
  legal_begun [] j past places known legal running = legal
  legal_begun (q ∷ qs) j past places known legal running =
      let here : place_of plan (number_of q.number) ≡ j + 0 = places 0 (omega arith) in
      legal_begun qs (j + 1) (with_failure plan base stops.ports q.number past)
      (λ k inside. let there = places (suc k) (omega arith) in omega arith)
      known.1
      (legal_failure past q.number legal (record { known = known.0; running = running 0 (omega arith) }))
      (λ k inside. ended_failure plan base stops.ports past q.number (egress_pass plan (get_or (numbers_of qs) k 0)) (λ same. let there = places (suc k) (omega arith) in absurd (omega arith)) ∙ running (suc k) (omega arith))

  known_all : (ports : List PortPlan) → ((k : ℕ) → k < length ports → has_port plan (get_or (numbers_of ports) k 0) ≡ true) → AreKnown plan ports
  known_all [] each = tt
  known_all (p ∷ ports) each = (each 0 (omega arith), known_all ports (λ k inside. each (suc k) (omega arith)))

  pub all_known : AreKnown plan plan.ports
  all_known = known_all plan.ports (λ k inside. known_at plan k inside)

  may_arrive : (past : List Row) (port : Port) (a : Arrival) → IsOpen plan base past (passes.Ingress port) → has_room plan past ≡ true → IsArrival a → MayCome plan base past (event_of port a)
  may_arrive past port (arrivals.Frame stamp octets) is_open room fits = (record { open_pass = is_open; room = room; fits = fits.0 }, fits.1)
  may_arrive past port (arrivals.Long stamp len) is_open room fits = (record { open_pass = is_open; room = room; fits = fits.0 }, fits.1, fits.2)

  place_below : (port : Port) → has_port plan (number_of port) ≡ true → place_of plan (number_of port) < length plan.ports
  place_below port known =
      let size : length (numbers_of plan.ports) ≡ length plan.ports = length-map plan.ports (λ p. number_of p.number) in
      let below = place_in (numbers_of plan.ports) (number_of port) known in
      omega arith

  may_end_ingress : (past : List Row) (port : Port) (how : How) → IsOpen plan base past (passes.Ingress port) → IsEnding how → MayCome plan base past (End (passes.Ingress port) how)
  may_end_ingress past port hows.End is_open fits = (is_open, tt)
  may_end_ingress past port hows.Quit is_open fits = absurd fits
  may_end_ingress past port (hows.Malformed at) is_open fits = (is_open, fits)
  may_end_ingress past port (hows.Overlong at) is_open fits = absurd fits
  may_end_ingress past port hows.Failed is_open fits = (is_open, tt)
  may_end_ingress past port hows.Unwritten is_open fits = absurd fits
  may_end_ingress past port hows.Paused is_open fits = absurd fits

  pub good_end : (past : List Row) (who : Who) (how : How) → IsGood plan base past → pass_of plan who ≤ control_pass plan → MayCome plan base past (End who how) → IsGood plan base (with_event plan base past (End who how))
  good_end past who how good low may = record {
    legal = legal_event past (End who how) good.legal may;
    ticking = ended_other plan base past who how (ticker_pass plan) (λ same. absurd (omega arith)) ∙ good.ticking;
    quiet = λ k inside. empty_end plan base past who how (number_at plan k) (good.quiet k inside);
  }

  -- where there is room an arrival is entered
  good_arrival : (past : List Row) (port : Port) (a : Arrival) → has_room plan past ≡ true → IsGood plan base past → has_port plan (number_of port) ≡ true → IsArrival a → has_ended base (pass_of plan (passes.Ingress port)) past ≡ false
      → IsGood plan base (drained plan base stops.ports plan.ports (with_event plan base past (event_of port a)))
  good_arrival past port a room good known fits running =
      let arrived = with_event plan base past (event_of port a) in
      record {
        legal = legal_drained plan.ports arrived all_known (legal_event past (event_of port a) good.legal (may_arrive past port a (record { known = known; running = running }) room fits));
        ticking = ended_drained plan base stops.ports plan.ports arrived (ticker_pass plan) (omega arith) ∙ ended_arrival plan base past port a (ticker_pass plan) ∙ good.ticking;
        quiet = λ k inside. drained_empty plan base stops.ports plan.ports arrived k inside;
      }

  -- behind the entry of a line its reply is legal, whether that is written or not
  legal_reply : (past : List Row) (line : Line) → IsLegal plan base past → has_ended base (control_pass plan) past ≡ false → IsLegal plan base (with_reply plan base stops.control line past)
  legal_reply past line legal running =
      behind_reply plan base line past (λ now. IsLegal plan base now) legal
      (legal_event past (End passes.Control hows.Unwritten) legal (record { known = refl; running = running }, tt))
      (legal_event past (End passes.Control hows.Quit) legal (record { known = refl; running = running }, tt)) stops.control

  -- nor does it end the ticker
  ticking_reply : (past : List Row) (line : Line) → has_ended base (ticker_pass plan) past ≡ false → has_ended base (ticker_pass plan) (with_reply plan base stops.control line past) ≡ false
  ticking_reply past line ticking =
      behind_reply plan base line past (λ now. has_ended base (ticker_pass plan) now ≡ false) ticking
      (ended_other plan base past passes.Control hows.Unwritten (ticker_pass plan) (λ same. absurd (omega arith)) ∙ ticking)
      (ended_other plan base past passes.Control hows.Quit (ticker_pass plan) (λ same. absurd (omega arith)) ∙ ticking) stops.control

  good_line : (past : List Row) (line : Line) → has_room plan past ≡ true → IsGood plan base past → IsLineInRange line → has_ended base (control_pass plan) past ≡ false
      → IsGood plan base (drained plan base stops.ports plan.ports (with_reply plan base stops.control line (with_event plan base past (Command line.stamp line.command))))
  good_line past line room good fits running =
      let commanded = with_event plan base past (Command line.stamp line.command) in
      let answered = with_reply plan base stops.control line commanded in
      let may : MayCome plan base past (Command line.stamp line.command) = (record { open_pass = record { known = refl; running = running }; room = room; fits = fits.0 }, fits.1) in
      record {
        legal = legal_drained plan.ports answered all_known (legal_reply commanded line (legal_event past (Command line.stamp line.command) good.legal may) running);
        ticking = ended_drained plan base stops.ports plan.ports answered (ticker_pass plan) (omega arith) ∙ ticking_reply commanded line good.ticking;
        quiet = λ k inside. drained_empty plan base stops.ports plan.ports answered k inside;
      }

  may_end_control : (past : List Row) (how : How) → IsOpen plan base past passes.Control → IsControlEnding how → MayCome plan base past (End passes.Control how)
  may_end_control past hows.End is_open fits = (is_open, tt)
  may_end_control past hows.Quit is_open fits = absurd fits
  may_end_control past (hows.Malformed at) is_open fits = (is_open, fits)
  may_end_control past (hows.Overlong at) is_open fits = (is_open, fits)
  may_end_control past hows.Failed is_open fits = (is_open, tt)
  may_end_control past hows.Unwritten is_open fits = absurd fits
  may_end_control past hows.Paused is_open fits = absurd fits

  pub good_entered : (t : Turn) (past : List Row) → IsGood plan base past → IsTurn plan t → HasRoomFor plan t past → has_ended base (pass_of plan (who_of t)) past ≡ false → IsGood plan base (entered plan base stops t past)
  good_entered (Arrives port a) past good fits room running = good_arrival past port a room good fits.0 fits.1 running
  good_entered (Commands line) past good fits room running = good_line past line room good fits running
  good_entered (Ends (passes.Ingress port) how) past good fits room running =
      let below = place_below port fits.0 in
      good_end past (passes.Ingress port) how good (omega (arith, below)) (may_end_ingress past port how (record { known = fits.0; running = running }) fits.1)
  good_entered (Ends passes.Control how) past good fits room running =
      good_end past passes.Control how good (omega arith) (may_end_control past how (record { known = refl; running = running }) fits)
  good_entered (Ends passes.Ticker how) past good fits room running = absurd fits
  good_entered (Ends (passes.Egress port) how) past good fits room running = absurd fits

  module _ (x : Turn) (rest : List Turn → List Turn) (fits : IsTurn plan x) (behind : (ys : List Turn) → AreTurns plan ys → AreTurns plan (rest ys)) where
    enter_at : (b : Bool) (y : Turn) (ys : List Turn) → AreTurns plan (y ∷ ys) → AreTurns plan (enter turn_at x rest ys) → AreTurns plan (if b then y ∷ enter turn_at x rest ys else x ∷ rest (y ∷ ys))
    enter_at true y ys are step = (are.0, step)
    enter_at false y ys are step = (fits, behind (y ∷ ys) are)

    turns_enter : (ys : List Turn) → AreTurns plan ys → AreTurns plan (enter turn_at x rest ys)
    turns_enter [] are = (fits, behind [] tt)
    turns_enter (y ∷ ys) are = enter_at (nat_lt (turn_at y) (turn_at x)) y ys are (turns_enter ys are.1)

  turns_merge : (xs ys : List Turn) → AreTurns plan xs → AreTurns plan ys → AreTurns plan (merge turn_at xs ys)
  turns_merge [] ys are_x are_y = are_y
  turns_merge (x ∷ xs) ys are_x are_y = turns_enter x (merge turn_at xs) are_x.0 (λ zs are. turns_merge xs zs are_x.1 are) ys are_y

  turns_from : (port : Port) (before : List Arrival) (how : How) → has_port plan (number_of port) ≡ true → All IsArrival before → IsEnding how → AreTurns plan (map (λ a. Arrives port a) before ++ Ends (passes.Ingress port) how ∷ [])
  turns_from port [] how known fits ends = ((known, ends), tt)
  turns_from port (a ∷ before) how known fits ends = ((known, fits 0 a (omega arith)), turns_from port before how known (λ k d inside. fits (suc k) d (omega arith)) ends)

  turns_ports : (ports : List PortPlan) (inputs : List Input) → AreKnown plan ports → All IsInput inputs → AreTurns plan (merged turn_at (port_turns ports inputs))
  turns_ports [] inputs known are = tt
  turns_ports (p ∷ ports) [] known are = tt
  turns_ports (p ∷ ports) (i ∷ inputs) known are =
      let first : IsInput i = are 0 i (omega arith) in
      turns_merge (turns p.number i) (merged turn_at (port_turns ports inputs)) (turns_from p.number i.arrivals i.ending known.0 first.arrivals first.ending)
      (turns_ports ports inputs known.1 (λ k d inside. are (suc k) d (omega arith)))

  turns_lines : (lines : List Line) (how : How) → All IsLineInRange lines → IsControlEnding how → AreTurns plan (map (λ line. Commands line) lines ++ Ends passes.Control how ∷ [])
  turns_lines [] how fits ends = (ends, tt)
  turns_lines (line ∷ lines) how fits ends = (fits 0 line (omega arith), turns_lines lines how (λ k d inside. fits (suc k) d (omega arith)) ends)

  turns_control : (lines : Option control.Input) → IsControl lines → AreTurns plan (control_turns lines)
  turns_control None fits = (tt, tt)
  turns_control (Some input) fits = turns_lines input.arrivals input.ending fits.arrivals fits.ending

  -- the ticker and an egress may end as the inputs did
  ticker_closes : (past : List Row) (b : Bool) → has_pause past ≡ b → InputsEnded plan base past → MayEndTicker plan base past (if b then hows.Paused else hows.End)
  ticker_closes past true is ended = (ended, is)
  ticker_closes past false is ended = (ended, is)

  egress_closes : (past : List Row) (q : ℕ) (b : Bool) → has_pause past ≡ b → HasNothingToSend plan base past q → MayEndEgress plan base past q (if b then hows.Paused else hows.End)
  egress_closes past q true is quiet = (quiet, is)
  egress_closes past q false is quiet = (quiet, is)

  -- where all else has ended and nothing waits, an egress that is open may end
  legal_end_at : (past : List Row) (port : Port) (b : Bool) → has_ended base (egress_pass plan (number_of port)) past ≡ b → has_port plan (number_of port) ≡ true → IsLegal plan base past → AllEnded base (ticker_pass plan + 1) past → queue plan base (number_of port) past ≡ []
      → IsLegal plan base (if b then past else with_event plan base past (End (passes.Egress port) (closing past)))
  legal_end_at past port true is known legal ended quiet = legal
  legal_end_at past port false is known legal ended quiet = legal_event past (End (passes.Egress port) (closing past)) legal (record { known = known; running = is }, egress_closes past (number_of port) (has_pause past) refl (ended, quiet))

  empty_end_at : (past : List Row) (port : Port) (q : ℕ) (b : Bool) → queue plan base q past ≡ [] → queue plan base q (if b then past else with_event plan base past (End (passes.Egress port) (closing past))) ≡ []
  empty_end_at past port q true quiet = quiet
  empty_end_at past port q false quiet = empty_end plan base past (passes.Egress port) (closing past) q quiet

  legal_egress : (ports : List PortPlan) (past : List Row) → AreKnown plan ports → IsLegal plan base past → AllEnded base (ticker_pass plan + 1) past
      → ((k : ℕ) → k < length ports → queue plan base (get_or (numbers_of ports) k 0) past ≡ []) → IsLegal plan base (egress_ended plan base ports past)
  legal_egress [] past known legal ended quiet = legal
  legal_egress (q ∷ qs) past known legal ended quiet =
      let has = has_ended base (egress_pass plan (number_of q.number)) past in
      legal_egress qs (with_end plan base q.number past)
      known.1
      (legal_end_at past q.number has refl known.0 legal ended (quiet 0 (omega arith)))
      (λ pass below. later_end plan base q.number past pass (ended pass below))
      (λ k inside. empty_end_at past q.number (get_or (numbers_of qs) k 0) has (quiet (suc k) (omega arith)))

  -- where the inputs have ended a segment may close
  pub legal_closed : (past : List Row) → IsGood plan base past → InputsEnded plan base past → IsLegal plan base (closed plan base past)
  legal_closed past good inputs =
      let ticked = with_event plan base past (End passes.Ticker (closing past)) in
      legal_egress plan.ports ticked all_known
      (legal_event past (End passes.Ticker (closing past)) good.legal (record { known = refl; running = good.ticking }, ticker_closes past (has_pause past) refl inputs))
      (λ pass below. ticked_at past pass inputs below (cases_eq pass (ticker_pass plan)))
      (λ k inside. empty_end plan base past passes.Ticker (closing past) (number_at plan k) (good.quiet k inside))

  -- the outputs are begun at a switch of which no egress has ended
  pub good_begun : IsStrictlyIncreasing (numbers_of plan.ports) → ((pass : ℕ) → has_ended base pass [] ≡ false) → IsGood plan base (begun plan base stops.ports plan.ports [])
  good_begun rising none = record {
    legal = legal_begun plan.ports 0 [] (λ k inside. place_at plan k rising inside ∙ omega arith) all_known tt (λ k inside. none (egress_pass plan (number_at plan k)));
    ticking = ended_begun plan base stops.ports plan.ports [] (ticker_pass plan) (omega arith) ∙ none (ticker_pass plan);
    quiet = λ k inside. empty_begun plan base stops.ports plan.ports [] (number_at plan k) refl;
  }

  -- all turns of a replay are of ports of the plan, or of control
  pub all_turns_fit : (lines : Option control.Input) (inputs : List Input) → IsControl lines → All IsInput inputs → AreTurns plan (merged turn_at (all_turns lines plan.ports inputs))
  all_turns_fit lines inputs control_is are =
      turns_merge (control_turns lines) (merged turn_at (port_turns plan.ports inputs)) (turns_control lines control_is) (turns_ports plan.ports inputs all_known are)
