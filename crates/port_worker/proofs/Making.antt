-- Room is made for a turn.
use Rattle.std.proofs.Common.{◌≡◌, ◌≢◌, ℕ, zero, suc, ◌+◌, ◌-◌, ◌<◌, ◌≤◌, ◌==◌, Bool, true, false, if◌then◌else◌, List, [], ◌∷◌, length, refl, sym, ap, ◌∙◌, subst, arith, ◌⊎◌, inl, inr, Option, Some, None, IfSome, IsSome, All, get_or}
use Rattle.std.specs.List.Sorted.{IsStrictlyIncreasing}
use Rattle.savi_kinds.specs.declared.plan.Plan.{Plan}
use Rattle.savi_kinds.specs.declared.plan.PortPlan.{PortPlan}
use Rattle.savi_kinds.specs.declared.entry.Who.{Who}
use Rattle.savi_kinds.specs.declared.entry.Who.TheVariants as passes
use Rattle.savi_kinds.specs.declared.entry.How.TheVariants as hows
use Rattle.savi_kinds.specs.Ports.{number_of}
use Rattle.savi_kinds.specs.ValidPlan.{IsValidPlan, numbers_of}
use Rattle.hist_store.specs.Rows.{Row}
use Rattle.hist_store.proofs.PortsRead.{if_some}
use Rattle.checkpoint.specs.Bases.{Base}
use Rattle.savi_history.specs.Endings.{has_pause}
use Rattle.savi_history.specs.Events.{End}
use Rattle.savi_history.specs.Legal.{IsFinished, IsLegal}
use Rattle.savi_history.specs.Limits.{has_room}
use Rattle.savi_history.specs.Passes.{AllEnded, control_pass, has_ended, pass_of, place_among, place_of, ticker_pass}
use Rattle.savi_history.specs.Queues.{queue}
use Rattle.savi_history.specs.Replay.{closed, with_event}
use Rattle.savi_history.specs.Turns.{Turn, Arrives, Commands, Ends}
use Rattle.savi_history.proofs.PortPlaces.{length-numbers}
use Rattle.savi_history.proofs.Waiting.{empty_end, ended_other}
use Rattle.savi_segments.specs.Checkpoints.{after}
use Rattle.savi_segments.specs.Replay.{Run, base_in, inputs_paused, ports_paused, room_made, turned, with_pause}
use Rattle.savi_segments.specs.Segments.{AreOctets, base_after}
use Rattle.savi_segments.proofs.Runs.{room_first}
use Rattle.savi_segments.proofs.Turning.{inputs_ended, pause_closed}
use Rattle.savi_core.specs.Machines.{Machine, base_of}
use Rattle.savi_core.specs.Turns.{IsTurned}
use Rattle.port_worker.specs.declared.control_ends.ControlEnds.{ControlEnds}
use Rattle.port_worker.specs.declared.port_ends.PortEnds.{PortEnds}
use Rattle.port_worker.specs.Steps.{HasRoomFor, comes_in}
use Rattle.port_worker.specs.Turnings.{AreTurned, StandsAt, turn_at_place, turn_next}
use Rattle.port_worker.proofs.Alike.{open_shows}

-- where there is room for a turn, or it needs none, the run stays

abbrev pub HasRoomAlready : Plan → List Row → Turn → Type 0
HasRoomAlready plan past turn = (has_room plan past ≡ true) ⊎ (comes_in turn ≡ false)

room_same : (plan : Plan) (turn : Turn) (run : Run) → HasRoomAlready plan run.past turn → room_made plan turn run ≡ run
room_same plan (Arrives port arrival) run (inl room) = rw room refl
room_same plan (Arrives port arrival) run (inr none) = cc
room_same plan (Commands line) run (inl room) = rw room refl
room_same plan (Commands line) run (inr none) = cc
room_same plan (Ends who how) run already = refl

pub room_already : (plan : Plan) (past : List Row) (turn : Turn) → HasRoomAlready plan past turn → HasRoomFor plan past turn
room_already plan past (Arrives port arrival) (inl room) = room
room_already plan past (Arrives port arrival) (inr none) = cc
room_already plan past (Commands line) (inl room) = room
room_already plan past (Commands line) (inr none) = cc
room_already plan past (Ends who how) already = tt

-- a new segment has room
pub room_new : (plan : Plan) (turn : Turn) → IsValidPlan plan → HasRoomFor plan [] turn
room_new plan (Arrives port arrival) valid = room_first plan valid
room_new plan (Commands line) valid = room_first plan valid
room_new plan (Ends who how) valid = tt

room_turned : (plan : Plan) (turn : Turn) (run : Run) → comes_in turn ≡ true → has_room plan run.past ≡ false → room_made plan turn run ≡ turned plan run
room_turned plan (Arrives port arrival) run comes full = rw full refl
room_turned plan (Commands line) run comes full = rw full refl
room_turned plan (Ends who how) run comes full = cc

-- what holds where a turn is known
pub if_all : {X : Type 0} (o : Option X) (P : X → Type 0) → ((x : X) → P x) → IfSome o P
if_all None P all = tt
if_all (Some x) P all = all x

-- what holds of the run holds of it once room was made, where nothing was done
pub stays : (plan : Plan) (o : Option Turn) (run : Run) (X : Run → Type 0) → IfSome o (λ turn. HasRoomAlready plan run.past turn) → X run → IfSome o (λ turn. X (room_made plan turn run))
stays plan o run X already holds = if_some o (λ turn. HasRoomAlready plan run.past turn) (λ turn. X (room_made plan turn run)) (λ turn is. subst X (sym (room_same plan turn run is)) holds) already

pub turns : (plan : Plan) (o : Option Turn) (run : Run) (X : Run → Type 0) → IfSome o (λ turn. true ≡ comes_in turn) → has_room plan run.past ≡ false → X (turned plan run) → IfSome o (λ turn. X (room_made plan turn run))
turns plan o run X comes full holds = if_some o (λ turn. true ≡ comes_in turn) (λ turn. X (room_made plan turn run)) (λ turn is. subst X (sym (room_turned plan turn run (sym is) full)) holds) comes

-- Pauses of inputs end no ticker, and nothing waits behind them.
module _ (plan : Plan) (base : Base) where
  place_most : (ns : List ℕ) (number : ℕ) → place_among ns number ≤ length ns
  place_most [] number = omega arith
  place_most (n ∷ ns) number = most_at (n == number) (place_among ns number) (length ns) (place_most ns number)
    where
      most_at : (b : Bool) (place count : ℕ) → place ≤ count → (if b then 0 else suc place) ≤ suc count
      most_at true place count most = omega arith
      most_at false place count most = omega (arith, most)

  before_ticker : (number : ℕ) → place_of plan number ≢ ticker_pass plan
  before_ticker number same = let most = place_most (numbers_of plan.ports) number in let count = length-numbers plan.ports in absurd (omega (arith, most, count, same))

  ticker_at : (past : List Row) (who : Who) (b : Bool) → pass_of plan who ≢ ticker_pass plan → has_ended base (ticker_pass plan) (if b then past else with_event plan base past (End who hows.Paused)) ≡ has_ended base (ticker_pass plan) past
  ticker_at past who true other = refl
  ticker_at past who false other = ended_other plan base past who hows.Paused (ticker_pass plan) other

  ticker_ports : (ports : List PortPlan) (past : List Row) → has_ended base (ticker_pass plan) (ports_paused plan base ports past) ≡ has_ended base (ticker_pass plan) past
  ticker_ports [] past = refl
  ticker_ports (p ∷ ports) past =
      let who = passes.Ingress p.number in
      ticker_ports ports (with_pause plan base who past) ∙ ticker_at past who (has_ended base (pass_of plan who) past) (before_ticker (number_of p.number))

  pub ticker_paused : (past : List Row) → has_ended base (ticker_pass plan) (inputs_paused plan base past) ≡ has_ended base (ticker_pass plan) past
  ticker_paused past =
      ticker_ports plan.ports (with_pause plan base passes.Control past) ∙ ticker_at past passes.Control (has_ended base (control_pass plan) past) (λ same. absurd (omega (arith, same)))

  quiet_at : (past : List Row) (who : Who) (q : ℕ) (b : Bool) → queue plan base q past ≡ [] → queue plan base q (if b then past else with_event plan base past (End who hows.Paused)) ≡ []
  quiet_at past who q true none = none
  quiet_at past who q false none = empty_end plan base past who hows.Paused q none

  quiet_ports : (ports : List PortPlan) (past : List Row) (q : ℕ) → queue plan base q past ≡ [] → queue plan base q (ports_paused plan base ports past) ≡ []
  quiet_ports [] past q none = none
  quiet_ports (p ∷ ports) past q none =
      let who = passes.Ingress p.number in
      quiet_ports ports (with_pause plan base who past) q (quiet_at past who q (has_ended base (pass_of plan who) past) none)

  pub quiet_paused : (past : List Row) (q : ℕ) → queue plan base q past ≡ [] → queue plan base q (inputs_paused plan base past) ≡ []
  quiet_paused past q none = quiet_ports plan.ports (with_pause plan base passes.Control past) q (quiet_at past passes.Control q (has_ended base (control_pass plan) past) none)

-- A machine behind pauses, behind the close of its segment, and in the next one.
module _ (m paused closes new : Machine) (paused_is : paused ≡ record m { past = inputs_paused m.plan (base_of m) m.past }) where
  plan_paused : paused.plan ≡ m.plan
  plan_paused = ap (λ (x : Machine). x.plan) paused_is

  base_paused : base_of paused ≡ base_of m
  base_paused = ap base_of paused_is

  past_paused : paused.past ≡ inputs_paused m.plan (base_of m) m.past
  past_paused = ap (λ (x : Machine). x.past) paused_is

  -- what holds of what the pauses left holds of the machine
  as_paused : (P : Plan → Base → List Row → Type 0) → P m.plan (base_of m) (inputs_paused m.plan (base_of m) m.past) → P paused.plan (base_of paused) paused.past
  as_paused P holds = subst (λ (x : Machine). P x.plan (base_of x) x.past) (sym paused_is) holds

  pub paused_inputs : IsStrictlyIncreasing (numbers_of m.plan.ports) → AllEnded (base_of paused) (control_pass paused.plan + 1) paused.past
  paused_inputs rising = as_paused (λ p b past. AllEnded b (control_pass p + 1) past) (inputs_ended m.plan (base_of m) rising m.past)

  pub paused_ticker : has_ended (base_of m) (ticker_pass m.plan) m.past ≡ false → has_ended (base_of paused) (ticker_pass paused.plan) paused.past ≡ false
  paused_ticker running = as_paused (λ p b past. has_ended b (ticker_pass p) past ≡ false) (ticker_paused m.plan (base_of m) m.past ∙ running)

  pub paused_quiet : {S K C : Type 0} (ports : List (PortEnds S K C)) → All (λ p. queue m.plan (base_of m) (number_of p.port) m.past ≡ []) ports → All (λ p. queue paused.plan (base_of paused) (number_of p.port) paused.past ≡ []) ports
  paused_quiet ports quiet = λ k d inside.
      as_paused (λ p b past. queue p b (number_of (get_or ports k d).port) past ≡ []) (quiet_paused m.plan (base_of m) m.past (number_of (get_or ports k d).port) (quiet k d inside))

  module _ (closes_is : closes ≡ record paused { past = closed paused.plan (base_of paused) paused.past }) (finished : IsFinished paused.plan (base_of paused) closes.past) where
    pub plan_closes : closes.plan ≡ m.plan
    plan_closes = ap (λ (x : Machine). x.plan) closes_is ∙ plan_paused

    pub base_closes : base_of closes ≡ base_of m
    base_closes = ap base_of closes_is ∙ base_paused

    past_closes : closes.past ≡ closed m.plan (base_of m) (inputs_paused m.plan (base_of m) m.past)
    past_closes = ap (λ (x : Machine). x.past) closes_is ∙ ap (λ (x : Machine). closed x.plan (base_of x) x.past) paused_is

    finished_was : IsFinished m.plan (base_of m) closes.past
    finished_was = subst (λ (x : Machine). IsFinished x.plan (base_of x) closes.past) paused_is finished

    pub closes_finished : IsFinished closes.plan (base_of closes) closes.past
    closes_finished = subst (λ (p : Plan). IsFinished p (base_of closes) closes.past) (sym plan_closes) (subst (λ (b : Base). IsFinished m.plan b closes.past) (sym base_closes) finished_was)

    -- an input that was open is paused
    pub closes_shows : IsStrictlyIncreasing (numbers_of m.plan.ports) → (pass : ℕ) × (pass < control_pass m.plan + 1) × (has_ended (base_of m) pass m.past ≡ false) → has_pause closes.past ≡ true
    closes_shows rising open_one =
        ap has_pause past_closes
        ∙ pause_closed m.plan (base_of m) (inputs_paused m.plan (base_of m) m.past)
        ∙ open_shows m.plan (base_of m) m.past open_one.0 rising open_one.1 open_one.2

    module _ (run : Run) (at : StandsAt m run) where
      -- the segment that was closed is that of the run
      segment_is : closes.past ∷ run.closed ≡ (turned m.plan run).closed
      segment_is =
          ap (λ (l : List Row). l ∷ run.closed) (past_closes
          ∙ ap (λ (b : Base). closed m.plan b (inputs_paused m.plan b m.past)) at.base
          ∙ ap (λ (l : List Row). closed m.plan (base_in m.plan run) (inputs_paused m.plan (base_in m.plan run) l)) at.rows)

      base_was : base_of m ≡ base_after m.plan run.closed
      base_was = at.base

      pub base_told : base_of closes ≡ base_after closes.plan run.closed
      base_told = base_closes ∙ base_was ∙ ap (λ (p : Plan). base_after p run.closed) (sym plan_closes)

      pub turned_stands : IsTurned closes new → StandsAt new (turned m.plan run)
      turned_stands turns_so = record {
        base = turns_so.base
            ∙ ap (λ (p : Plan). after p (base_of closes) closes.past) plan_closes
            ∙ ap (λ (b : Base). after m.plan b closes.past) (base_closes ∙ base_was)
            ∙ ap (λ (l : List (List Row)). base_after m.plan l) segment_is
            ∙ ap (λ (p : Plan). base_after p (turned m.plan run).closed) (sym (turns_so.plan ∙ plan_closes));
        rows = turns_so.past;
      }

      pub turned_turned : IsStrictlyIncreasing (numbers_of m.plan.ports) → (pass : ℕ) × (pass < control_pass m.plan + 1) × (has_ended (base_of m) pass m.past ≡ false) → IsLegal closes.plan (base_of closes) closes.past → AreOctets closes.past
          → AreTurned m.plan run.closed → AreTurned m.plan (turned m.plan run).closed
      turned_turned rising open_one legal octets was =
          let base = base_after m.plan run.closed in
          let legal_was : IsLegal m.plan base closes.past = subst (λ (p : Plan). IsLegal p base closes.past) plan_closes (subst (λ (b : Base). IsLegal closes.plan b closes.past) (base_closes ∙ base_was) legal) in
          let done : AreTurned m.plan (closes.past ∷ run.closed) = record {
            legal = (legal_was, octets, was.legal);
            newest = (subst (λ (b : Base). IsFinished m.plan b closes.past) base_was finished_was, closes_shows rising open_one);
            before = (was.newest, was.before);
          } in
          subst (λ (l : List (List Row)). AreTurned m.plan l) segment_is done

      pub turned_holds : (P : List (List Row) → Type 0) → P (closes.past ∷ run.closed) → P (turned m.plan run).closed
      turned_holds P holds = subst P segment_is holds

-- a place at which a turn was read is one of these
pub place_inside : {S K C : Type 0} (ports : List (PortEnds S K C)) (k : ℕ) → IsSome (turn_at_place ports k) → k < length ports
place_inside [] k some = cc
place_inside (p ∷ ports) zero some = omega arith
place_inside (p ∷ ports) (suc k) some = let less = place_inside ports k some in omega (arith, less)

-- the turn of a port
pub next_port : {S K C : Type 0} (control : Option (ControlEnds S K C)) (ports : List (PortEnds S K C)) (j : ℕ) → turn_next control ports (suc j) ≡ turn_at_place ports j
next_port None ports j = refl
next_port (Some c) ports j = refl

pub port_place : {S K C : Type 0} (control : Option (ControlEnds S K C)) (ports : List (PortEnds S K C)) (place : ℕ) → 0 < place → turn_next control ports place ≡ turn_at_place ports (place - 1)
port_place control ports place behind =
    let is : place ≡ suc (place - 1) = omega (arith, behind) in
    ap (λ (k : ℕ). turn_next control ports k) is ∙ next_port control ports (place - 1)
