-- What a turn of the segments of a replay leaves: which passes have ended for good, and that what it closes is legal and
-- finished.
use Rattle.std.proofs.Common.{◌≡◌, ◌≢◌, ℕ, zero, suc, ◌+◌, ◌-◌, ◌<◌, ◌≤◌, ◌==◌, ◌&&◌, ◌||◌, nat_lt, nat_le, Bool, true, false, if◌then◌else◌, Option, Some, List, [], ◌∷◌, get_or, length, refl, sym, ap, subst, ◌∙◌, ◌⊎◌, inl, inr, arith}
use Rattle.std.specs.Option.{is_some}
use Rattle.std.specs.List.{list_any}
use Rattle.std.specs.List.Sorted.{IsStrictlyIncreasing}
use Rattle.std.proofs.lemmas.Bool.{cases_Bool, cases_eq, cases_lt, false≢true}
use Rattle.std.proofs.lemmas.Bool.Decides.{nat_tests}
use Rattle.savi_kinds.specs.declared.port.Port.{Port}
use Rattle.savi_kinds.specs.declared.plan.Plan.{Plan}
use Rattle.savi_kinds.specs.declared.plan.PortPlan.{PortPlan}
use Rattle.savi_kinds.specs.declared.entry.Who.{Who}
use Rattle.savi_kinds.specs.declared.entry.Who.TheVariants as passes
use Rattle.savi_kinds.specs.declared.entry.How.{How}
use Rattle.savi_kinds.specs.declared.entry.How.TheVariants as hows
use Rattle.savi_kinds.specs.Ports.{number_of}
use Rattle.savi_kinds.specs.ValidPlan.{numbers_of}
use Rattle.hist_store.specs.Rows.{Row, held}
use Rattle.checkpoint.specs.Bases.{Base}
use Rattle.savi_history.specs.Endings.{has_pause, is_paused_reason}
use Rattle.savi_history.specs.Events.{Event, End, row_of}
use Rattle.savi_history.specs.Events as events
use Rattle.savi_history.specs.Legal.{InputsEnded, IsFinished, IsLegal, IsOpen, MayCome, MayEnd}
use Rattle.savi_history.specs.Limits.{has_room}
use Rattle.savi_history.specs.Passes.{control_pass, egress_pass, has_ended, has_pass, has_port, pass_count, pass_of, place_of, ticker_pass}
use Rattle.savi_history.specs.Replay.{Stops, closed, closing, egress_ended, with_end, with_event}
use Rattle.savi_history.proofs.Ends.{Later, later_egress, later_event}
use Rattle.savi_history.proofs.PassNumbers.{number_at, place_at}
use Rattle.savi_history.proofs.PortPlaces.{place_within}
use Rattle.savi_history.proofs.Waiting.{ended_now}
use Rattle.savi_segments.specs.Checkpoints.{end_among, end_of, up_to}
use Rattle.savi_segments.specs.Replay.{Run, base_in, has_ended_in, inputs_paused, ports_paused, turned, with_pause}
use Rattle.savi_segments.proofs.Legality.{AreKnown, IsGood, all_known, good_end, legal_closed}
use Rattle.savi_segments.proofs.Passing.{below_in, in_ends}

-- what stands in a base as ended has ended for good

any_at : (here : Bool) (how : How) (rest : Bool) (end : Option How) → rest ≡ is_some end → (here || rest) ≡ is_some (if here then Some how else end)
any_at true how rest end same = refl
any_at false how rest end same = same

any_some : (pass : ℕ) (ends : List (ℕ × How)) → list_any (λ (ended : ℕ × How). ended.0 == pass) ends ≡ is_some (end_among pass ends)
any_some pass [] = refl
any_some pass (ended ∷ ends) = any_at (ended.0 == pass) ended.1 (list_any (λ (other : ℕ × How). other.0 == pass) ends) (end_among pass ends) (any_some pass ends)

by_reason : (how : How) → (how ≡ hows.Paused → ⊥) → is_paused_reason how ≡ false
by_reason hows.End other = refl
by_reason hows.Quit other = refl
by_reason (hows.Malformed at) other = refl
by_reason (hows.Overlong at) other = refl
by_reason hows.Failed other = refl
by_reason hows.Unwritten other = refl
by_reason hows.Paused other = absurd (other refl)

or_second : (a b : Bool) → b ≡ true → (a || b) ≡ true
or_second true b is = refl
or_second false b is = is

module _ (plan : Plan) (base : Base) where
  -- where no input is paused nothing is, and what has ended has ended for good

  pause_shows : (past : List Row) (who : Who) → MayEnd plan base past who hows.Paused → has_pause (with_event plan base past (End who hows.Paused)) ≡ false → ⊥
  pause_shows past (passes.Ingress p) may none = false≢true (sym none)
  pause_shows past passes.Control may none = false≢true (sym none)
  pause_shows past passes.Ticker may none = false≢true (sym none ∙ may.1)
  pause_shows past (passes.Egress p) may none = false≢true (sym none ∙ may.1)

  no_pause : (past : List Row) (who : Who) (how : How) → MayEnd plan base past who how → has_pause (with_event plan base past (End who how)) ≡ false → is_paused_reason how ≡ false
  no_pause past who how may none =
      by_reason how (λ is. pause_shows past who (subst (MayEnd plan base past who) is may) (subst (λ (h : How). has_pause (with_event plan base past (End who h)) ≡ false) is none))

  end_alike : (paused here was : Bool) (how : How) (before : Option How) → paused ≡ false → was ≡ is_some before → (here || was) ≡ is_some (if paused then before else if here then Some how else before)
  end_alike true here was how before not same = absurd (false≢true (sym not))
  end_alike false true was how before not same = refl
  end_alike false false was how before not same = same

  abbrev IsSame : ℕ → List Row → Type 0
  IsSame pass past = has_ended base pass past ≡ is_some (end_of base pass past)

  same_behind : (past : List Row) (event : Event) (pass : ℕ) → MayCome plan base past event → has_pause (row_of plan base past event ∷ past) ≡ false → IsSame pass past → IsSame pass (row_of plan base past event ∷ past)
  same_behind past (events.Frame port stamp octets) pass may none same = same
  same_behind past (events.Long port stamp len) pass may none same = same
  same_behind past (events.Command stamp line) pass may none same = same
  same_behind past (events.Tick stamp) pass may none same = same
  same_behind past (events.Drain port count) pass may none same = same
  same_behind past (events.End who how) pass may none same =
      end_alike (is_paused_reason how) (pass_of plan who == pass) (has_ended base pass past) how (end_of base pass past) (no_pause past who how may.1 none) same

  behind_none : (a b : Bool) → (a || b) ≡ false → b ≡ false
  behind_none true b none = absurd (false≢true (sym none))
  behind_none false b none = none

  pub ended_alike : (past : List Row) (pass : ℕ) → IsLegal plan base past → has_pause past ≡ false → IsSame pass past
  ended_alike [] pass legal none = any_some pass base.ended
  ended_alike (r ∷ past) pass legal none =
      subst (λ (x : Row). IsSame pass (x ∷ past)) (sym legal.0.2)
      (same_behind past legal.0.0 pass legal.0.1 (subst (λ (x : Row). has_pause (x ∷ past) ≡ false) legal.0.2 none)
      (ended_alike past pass legal.1 (behind_none _ (has_pause past) none)))

  -- pauses, and a closing behind one, leave how passes have ended for good

  still_at : (past : List Row) (who : Who) (pass : ℕ) (b : Bool) → end_of base pass (if b then past else with_event plan base past (End who hows.Paused)) ≡ end_of base pass past
  still_at past who pass true = refl
  still_at past who pass false = refl

  still_paused : (past : List Row) (who : Who) (pass : ℕ) → end_of base pass (with_pause plan base who past) ≡ end_of base pass past
  still_paused past who pass = still_at past who pass (has_ended base (pass_of plan who) past)

  still_ports : (ports : List PortPlan) (past : List Row) (pass : ℕ) → end_of base pass (ports_paused plan base ports past) ≡ end_of base pass past
  still_ports [] past pass = refl
  still_ports (p ∷ ports) past pass = still_ports ports (with_pause plan base (passes.Ingress p.number) past) pass ∙ still_paused past (passes.Ingress p.number) pass

  pub still_inputs : (past : List Row) (pass : ℕ) → end_of base pass (inputs_paused plan base past) ≡ end_of base pass past
  still_inputs past pass = still_ports plan.ports (with_pause plan base passes.Control past) pass ∙ still_paused past passes.Control pass

  still_closing : (past : List Row) (who : Who) (pass : ℕ) → has_pause past ≡ true → end_of base pass (with_event plan base past (End who (closing past))) ≡ end_of base pass past
  still_closing past who pass is = rw is refl

  still_end_at : (past : List Row) (port : Port) (pass : ℕ) (b : Bool) → has_pause past ≡ true
      → end_of base pass (if b then past else with_event plan base past (End (passes.Egress port) (closing past))) ≡ end_of base pass past
  still_end_at past port pass true is = refl
  still_end_at past port pass false is = still_closing past (passes.Egress port) pass is

  pause_end_at : (past : List Row) (port : Port) (b : Bool) → has_pause (if b then past else with_event plan base past (End (passes.Egress port) (closing past))) ≡ has_pause past
  pause_end_at past port true = refl
  pause_end_at past port false = refl

  still_egress : (ports : List PortPlan) (past : List Row) (pass : ℕ) → has_pause past ≡ true → end_of base pass (egress_ended plan base ports past) ≡ end_of base pass past
  still_egress [] past pass is = refl
  still_egress (q ∷ qs) past pass is =
      let has = has_ended base (egress_pass plan (number_of q.number)) past in
      still_egress qs (with_end plan base q.number past) pass (pause_end_at past q.number has ∙ is) ∙ still_end_at past q.number pass has is

  pub still_closed : (past : List Row) (pass : ℕ) → has_pause past ≡ true → end_of base pass (closed plan base past) ≡ end_of base pass past
  still_closed past pass is =
      still_egress plan.ports (with_event plan base past (End passes.Ticker (closing past))) pass is ∙ still_closing past passes.Ticker pass is

  -- closing pauses no input
  pause_egress : (ports : List PortPlan) (past : List Row) → has_pause (egress_ended plan base ports past) ≡ has_pause past
  pause_egress [] past = refl
  pause_egress (q ∷ qs) past =
      pause_egress qs (with_end plan base q.number past) ∙ pause_end_at past q.number (has_ended base (egress_pass plan (number_of q.number)) past)

  pub pause_closed : (past : List Row) → has_pause (closed plan base past) ≡ has_pause past
  pause_closed past = pause_egress plan.ports (with_event plan base past (End passes.Ticker (closing past)))

  -- behind pauses every input has ended

  ended_at : (past : List Row) (who : Who) (b : Bool) → has_ended base (pass_of plan who) past ≡ b → has_ended base (pass_of plan who) (if b then past else with_event plan base past (End who hows.Paused)) ≡ true
  ended_at past who true is = is
  ended_at past who false is = ended_now plan base past who hows.Paused

  ended_paused : (past : List Row) (who : Who) → has_ended base (pass_of plan who) (with_pause plan base who past) ≡ true
  ended_paused past who = ended_at past who (has_ended base (pass_of plan who) past) refl

  later_at : (past : List Row) (who : Who) (b : Bool) → Later base past (if b then past else with_event plan base past (End who hows.Paused))
  later_at past who true pass is = is
  later_at past who false pass is = later_event plan base past (End who hows.Paused) pass is

  later_ports : (ports : List PortPlan) (past : List Row) → Later base past (ports_paused plan base ports past)
  later_ports [] past pass is = is
  later_ports (p ∷ ports) past pass is =
      let who = passes.Ingress p.number in
      later_ports ports (with_pause plan base who past) pass (later_at past who (has_ended base (pass_of plan who) past) pass is)

  ended_ports : (ports : List PortPlan) (past : List Row) (k : ℕ) → k < length ports → has_ended base (place_of plan (get_or (numbers_of ports) k 0)) (ports_paused plan base ports past) ≡ true
  ended_ports [] past k inside = absurd (omega (arith, inside))
  ended_ports (p ∷ ports) past zero inside =
      let who = passes.Ingress p.number in
      later_ports ports (with_pause plan base who past) (pass_of plan who) (ended_paused past who)
  ended_ports (p ∷ ports) past (suc k) inside = ended_ports ports (with_pause plan base (passes.Ingress p.number) past) k (omega (arith, inside))

  inputs_at : (rising : IsStrictlyIncreasing (numbers_of plan.ports)) (past : List Row) (pass : ℕ) → (pass < length plan.ports) ⊎ (length plan.ports ≤ pass) → pass < control_pass plan + 1 → has_ended base pass (inputs_paused plan base past) ≡ true
  inputs_at rising past pass (inl inside) below =
      subst (λ (n : ℕ). has_ended base n (inputs_paused plan base past) ≡ true) (place_at plan pass rising inside) (ended_ports plan.ports (with_pause plan base passes.Control past) pass inside)
  inputs_at rising past pass (inr outside) below =
      let is : control_pass plan ≡ pass = omega (arith, outside, below) in
      subst (λ (n : ℕ). has_ended base n (inputs_paused plan base past) ≡ true) is
      (later_ports plan.ports (with_pause plan base passes.Control past) (control_pass plan) (ended_paused past passes.Control))

  pub inputs_ended : IsStrictlyIncreasing (numbers_of plan.ports) → (past : List Row) → InputsEnded plan base (inputs_paused plan base past)
  inputs_ended rising past pass below = inputs_at rising past pass (cases_lt pass (length plan.ports)) below

  -- where there is no room pauses are legal, and there is none behind them

  no_more : (n entries : ℕ) (rest : Bool) → (nat_lt (n + 4130) entries && rest) ≡ false → (nat_lt (suc n + 4130) entries && rest) ≡ false
  no_more n entries rest none = elim (cases_Bool (nat_lt (suc n + 4130) entries)) [
    | inl less ↦
        let before : nat_lt (n + 4130) entries ≡ true = grind (arith, nat_tests, less) in
        ap (λ (b : Bool). b && rest) less ∙ ap (λ (b : Bool). b && rest) (sym before) ∙ none
    | inr not ↦ ap (λ (b : Bool). b && rest) not
  ]

  room_behind : (past : List Row) (who : Who) (how : How) → has_room plan past ≡ false → has_room plan (with_event plan base past (End who how)) ≡ false
  room_behind past who how none =
      let same : held past ≡ 0 + held past = omega arith in
      subst (λ (n : ℕ). (nat_lt (suc (length past) + 4130) plan.entries && nat_le (n + 1518) plan.bytes) ≡ false) same
      (no_more (length past) plan.entries (nat_le (held past + 1518) plan.bytes) none)

  -- good, and without room
  pub record IsFull (past : List Row) : Type 0 where
    pub good : IsGood plan base past
    pub none : has_room plan past ≡ false

  module _ (stops : Stops) where
    full_at : (past : List Row) (who : Who) (b : Bool) → has_ended base (pass_of plan who) past ≡ b → has_pass plan who ≡ true → pass_of plan who ≤ control_pass plan
        → (IsOpen plan base past who → MayCome plan base past (End who hows.Paused)) → IsFull past → IsFull (if b then past else with_event plan base past (End who hows.Paused))
    full_at past who true is known low may full = full
    full_at past who false is known low may full = record {
      good = good_end plan base stops past who hows.Paused full.good low (may (record { known = known; running = is }));
      none = room_behind past who hows.Paused full.none;
    }

    full_ingress : (past : List Row) (port : Port) → has_port plan (number_of port) ≡ true → IsFull past → IsFull (with_pause plan base (passes.Ingress port) past)
    full_ingress past port known full =
        let within = place_within plan (number_of port) known in
        full_at past (passes.Ingress port) (has_ended base (place_of plan (number_of port)) past) refl known (omega (arith, within)) (λ is_open. (is_open, full.none)) full

    full_ports : (ports : List PortPlan) (past : List Row) → AreKnown plan ports → IsFull past → IsFull (ports_paused plan base ports past)
    full_ports [] past known full = full
    full_ports (p ∷ ports) past known full = full_ports ports (with_pause plan base (passes.Ingress p.number) past) known.1 (full_ingress past p.number known.0 full)

    pub full_inputs : (past : List Row) → IsFull past → IsFull (inputs_paused plan base past)
    full_inputs past full =
        full_ports plan.ports (with_pause plan base passes.Control past) (all_known plan base stops)
        (full_at past passes.Control (has_ended base (control_pass plan) past) refl refl (omega arith) (λ is_open. (is_open, full.none)) full)

    -- the segment that is closed behind pauses is legal
    pub legal_paused : IsStrictlyIncreasing (numbers_of plan.ports) → (past : List Row) → IsFull past → IsLegal plan base (closed plan base (inputs_paused plan base past))
    legal_paused rising past full = legal_closed plan base stops (inputs_paused plan base past) (full_inputs past full).good (inputs_ended rising past)

  -- where an input is open, one is paused

  shown_at : (past : List Row) (who : Who) (b : Bool) → has_pause past ≡ true → has_pause (if b then past else with_event plan base past (End who hows.Paused)) ≡ true
  shown_at past who true is = is
  shown_at past who false is = or_second _ (has_pause past) is

  shown_ports : (ports : List PortPlan) (past : List Row) → has_pause past ≡ true → has_pause (ports_paused plan base ports past) ≡ true
  shown_ports [] past is = is
  shown_ports (p ∷ ports) past is =
      let who = passes.Ingress p.number in
      shown_ports ports (with_pause plan base who past) (shown_at past who (has_ended base (pass_of plan who) past) is)

  -- a pass that is open is paused, or another was before it
  paused_or_open : (past : List Row) (who : Who) (pass : ℕ) (b : Bool) → has_ended base (pass_of plan who) past ≡ b → has_pause (with_event plan base past (End who hows.Paused)) ≡ true → has_ended base pass past ≡ false
      → (has_pause (if b then past else with_event plan base past (End who hows.Paused)) ≡ true) ⊎ (has_ended base pass (if b then past else with_event plan base past (End who hows.Paused)) ≡ false)
  paused_or_open past who pass true is shows running = inr running
  paused_or_open past who pass false is shows running = inl shows

  port_shows : (ports : List PortPlan) (past : List Row) (k : ℕ) → k < length ports
      → (has_pause past ≡ true) ⊎ (has_ended base (place_of plan (get_or (numbers_of ports) k 0)) past ≡ false) → has_pause (ports_paused plan base ports past) ≡ true
  port_shows ports past k inside (inl is) = shown_ports ports past is
  port_shows [] past k inside (inr running) = absurd (omega (arith, inside))
  port_shows (p ∷ ports) past zero inside (inr running) = shown_ports ports (with_pause plan base (passes.Ingress p.number) past) (rw running refl)
  port_shows (p ∷ ports) past (suc k) inside (inr running) =
      let who = passes.Ingress p.number in
      port_shows ports (with_pause plan base who past) k (omega (arith, inside))
      (paused_or_open past who (place_of plan (get_or (numbers_of ports) k 0)) (has_ended base (pass_of plan who) past) refl refl running)

  pub control_shows : (past : List Row) → has_ended base (control_pass plan) past ≡ false → has_pause (inputs_paused plan base past) ≡ true
  control_shows past running = shown_ports plan.ports (with_pause plan base passes.Control past) (rw running refl)

  pub ingress_shows : (past : List Row) (k : ℕ) → k < length plan.ports → has_ended base (place_of plan (number_at plan k)) past ≡ false → has_pause (inputs_paused plan base past) ≡ true
  ingress_shows past k inside running =
      port_shows plan.ports (with_pause plan base passes.Control past) k inside
      (paused_or_open past passes.Control (place_of plan (number_at plan k)) (has_ended base (control_pass plan) past) refl refl running)

  -- behind a closing every pass has ended

  egress_at : (past : List Row) (port : Port) (b : Bool) → has_ended base (egress_pass plan (number_of port)) past ≡ b
      → has_ended base (egress_pass plan (number_of port)) (if b then past else with_event plan base past (End (passes.Egress port) (closing past))) ≡ true
  egress_at past port true is = is
  egress_at past port false is = ended_now plan base past (passes.Egress port) (closing past)

  pub egress_all : (ports : List PortPlan) (past : List Row) (k : ℕ) → k < length ports → has_ended base (egress_pass plan (get_or (numbers_of ports) k 0)) (egress_ended plan base ports past) ≡ true
  egress_all [] past k inside = absurd (omega (arith, inside))
  egress_all (q ∷ qs) past zero inside =
      later_egress plan base qs (with_end plan base q.number past) (egress_pass plan (number_of q.number)) (egress_at past q.number (has_ended base (egress_pass plan (number_of q.number)) past) refl)
  egress_all (q ∷ qs) past (suc k) inside = egress_all qs (with_end plan base q.number past) k (omega (arith, inside))

  finished_at : IsStrictlyIncreasing (numbers_of plan.ports) → (past : List Row) → InputsEnded plan base past → (pass : ℕ) → pass < pass_count plan
      → (pass < control_pass plan + 1) ⊎ (control_pass plan + 1 ≤ pass) → (pass ≡ ticker_pass plan) ⊎ (pass ≢ ticker_pass plan) → has_ended base pass (closed plan base past) ≡ true
  finished_at rising past inputs pass below (inl low) ticker =
      let ticked = with_event plan base past (End passes.Ticker (closing past)) in
      later_egress plan base plan.ports ticked pass (later_event plan base past (End passes.Ticker (closing past)) pass (inputs pass low))
  finished_at rising past inputs pass below (inr high) (inl same) =
      let ticked = with_event plan base past (End passes.Ticker (closing past)) in
      later_egress plan base plan.ports ticked pass (subst (λ (n : ℕ). has_ended base n ticked ≡ true) (sym same) (ended_now plan base past passes.Ticker (closing past)))
  finished_at rising past inputs pass below (inr high) (inr other) =
      let ticked = with_event plan base past (End passes.Ticker (closing past)) in
      let k = pass - (length plan.ports + 2) in
      let inside : k < length plan.ports = omega (arith, below, high, other) in
      let place = place_at plan k rising inside in
      let is : egress_pass plan (number_at plan k) ≡ pass = omega (arith, place, below, high, other) in
      subst (λ (n : ℕ). has_ended base n (closed plan base past) ≡ true) is (egress_all plan.ports ticked k inside)

  pub finished_closed : IsStrictlyIncreasing (numbers_of plan.ports) → (past : List Row) → InputsEnded plan base past → IsFinished plan base (closed plan base past)
  finished_closed rising past inputs pass below =
      finished_at rising past inputs pass below (cases_lt pass (control_pass plan + 1)) (cases_eq pass (ticker_pass plan))

-- A pass has ended for good behind a turn exactly where it had before.
pub ended_turned : (plan : Plan) (run : Run) (pass : ℕ) → pass < pass_count plan → has_pause (inputs_paused plan (base_in plan run) run.past) ≡ true
    → has_ended_in plan pass (turned plan run) ≡ has_ended_in plan pass run
ended_turned plan run pass below shows =
    let base = base_in plan run in
    let paused = inputs_paused plan base run.past in
    let segment = closed plan base paused in
    ap is_some
    (in_ends (λ (n : ℕ). end_of base n segment) pass (up_to (pass_count plan)) (below_in (pass_count plan) pass below)
    ∙ still_closed plan base paused pass shows ∙ still_inputs plan base run.past pass)

-- What stands in a base has ended there.
pub ended_first : (base : Base) (pass : ℕ) → has_ended base pass [] ≡ is_some (end_of base pass [])
ended_first base pass = any_some pass base.ended
