-- What each step of a replay within a history keeps, its turns keep.
use Rattle.std.proofs.Common.{◌≡◌, ℕ, suc, ◌<◌, nat_lt, Bool, true, false, List, [], ◌∷◌, ◌++◌, map, get_or, length, refl, arith, if◌then◌else◌, Option, Some, None}
use Rattle.std.specs.List.{All}
use Rattle.savi_kinds.specs.declared.port.Port.{Port}
use Rattle.savi_kinds.specs.declared.plan.Plan.{Plan}
use Rattle.savi_kinds.specs.declared.plan.PortPlan.{PortPlan}
use Rattle.savi_kinds.specs.declared.entry.Who.{Who}
use Rattle.savi_kinds.specs.declared.entry.Who.TheVariants as passes
use Rattle.savi_kinds.specs.declared.entry.How.{How}
use Rattle.savi_kinds.specs.declared.entry.How.TheVariants as hows
use Rattle.savi_kinds.specs.Ports.{number_of}
use Rattle.savi_kinds.specs.ValidPlan.{numbers_of}
use Rattle.savi_kinds.specs.Arrivals.{Arrival, Input}
use Rattle.cli_lang.specs.Arrivals.{Line}
use Rattle.cli_lang.specs.Arrivals as control
use Rattle.hist_store.specs.Rows.{Row}
use Rattle.checkpoint.specs.Bases.{Base}
use Rattle.savi_history.specs.Passes.{pass_of, control_pass, has_ended}
use Rattle.savi_history.specs.Queues.{queue}
use Rattle.savi_history.specs.Events.{Command, End}
use Rattle.savi_history.specs.Merges.{enter, merge, merged}
use Rattle.savi_history.specs.Turns.{Turn, Arrives, Commands, Ends, who_of, turn_at, turns, port_turns, control_turns, all_turns}
use Rattle.savi_history.specs.Replay.{Stops, event_of, with_event, with_drain, drained, with_reply, entered, closed, closing, with_end, egress_ended}
use Rattle.savi_history.proofs.PassNumbers.{number_at}

-- the port at a place of the plan has this number
pub record IsAt (plan : Plan) (n : ℕ) : Type 0 where
  pub place : ℕ
  pub inside : place < length plan.ports
  pub number : n ≡ number_at plan place

-- what control may do in a replay: which lines come in there, and for which reasons it may end but for `quit` and a reply
-- that could not be written
pub record Controlled : Type 1 where
  pub Comes : Line → Type 0
  pub Closes : How → Type 0

-- this may be control's input
abbrev pub MayControl : Controlled → Option control.Input → Type 0
MayControl may None = may.Closes hows.End
MayControl may (Some input) = All may.Comes input.arrivals × may.Closes input.ending

-- whatever control does
abbrev pub anything : Controlled
anything = record { Comes = λ line. Unit {0}; Closes = λ how. Unit {0} }

pub all_control : (lines : Option control.Input) → MayControl anything lines
all_control None = tt
all_control (Some input) = (λ k line inside. tt, tt)

-- the end of an input of a replay
abbrev pub EndsInput : Plan → Controlled → Who → How → Type 0
EndsInput plan may (passes.Ingress port) how = IsAt plan (number_of port)
EndsInput plan may passes.Control how = may.Closes how
EndsInput plan may passes.Ticker how = ⊥
EndsInput plan may (passes.Egress port) how = ⊥

-- a turn of a port of the plan, or of control
abbrev pub IsOurs : Plan → Controlled → Turn → Type 0
IsOurs plan may (Arrives port arrival) = IsAt plan (number_of port)
IsOurs plan may (Commands line) = may.Comes line
IsOurs plan may (Ends who how) = EndsInput plan may who how

abbrev pub AreOurs : Plan → Controlled → List Turn → Type 0
AreOurs plan may [] = Unit {0}
AreOurs plan may (x ∷ xs) = IsOurs plan may x × AreOurs plan may xs

-- each of these ports is one of the plan's
abbrev AllAt : Plan → List PortPlan → Type 0
AllAt plan ports = (k : ℕ) → k < length ports → IsAt plan (get_or (numbers_of ports) k 0)

module _ (plan : Plan) (may : Controlled) where
  module _ (x : Turn) (rest : List Turn → List Turn) (ours : IsOurs plan may x) (behind : (ys : List Turn) → AreOurs plan may ys → AreOurs plan may (rest ys)) where
    enter_at : (b : Bool) (y : Turn) (ys : List Turn) → AreOurs plan may (y ∷ ys) → AreOurs plan may (enter turn_at x rest ys) → AreOurs plan may (if b then y ∷ enter turn_at x rest ys else x ∷ rest (y ∷ ys))
    enter_at true y ys are step = (are.0, step)
    enter_at false y ys are step = (ours, behind (y ∷ ys) are)

    turns_enter : (ys : List Turn) → AreOurs plan may ys → AreOurs plan may (enter turn_at x rest ys)
    turns_enter [] are = (ours, behind [] tt)
    turns_enter (y ∷ ys) are = enter_at (nat_lt (turn_at y) (turn_at x)) y ys are (turns_enter ys are.1)

  turns_merge : (xs ys : List Turn) → AreOurs plan may xs → AreOurs plan may ys → AreOurs plan may (merge turn_at xs ys)
  turns_merge [] ys are_x are_y = are_y
  turns_merge (x ∷ xs) ys are_x are_y = turns_enter x (merge turn_at xs) are_x.0 (λ zs are. turns_merge xs zs are_x.1 are) ys are_y

  turns_of : (port : Port) (before : List Arrival) (how : How) → IsAt plan (number_of port) → AreOurs plan may (map (λ a. Arrives port a) before ++ Ends (passes.Ingress port) how ∷ [])
  turns_of port [] how at = (at, tt)
  turns_of port (a ∷ before) how at = (at, turns_of port before how at)

  turns_ports : (ports : List PortPlan) (inputs : List Input) → AllAt plan ports → AreOurs plan may (merged turn_at (port_turns ports inputs))
  turns_ports [] inputs at = tt
  turns_ports (p ∷ ports) [] at = tt
  turns_ports (p ∷ ports) (i ∷ inputs) at =
      turns_merge (turns p.number i) (merged turn_at (port_turns ports inputs)) (turns_of p.number i.arrivals i.ending (at 0 (omega arith)))
      (turns_ports ports inputs (λ k inside. at (suc k) (omega arith)))

  turns_lines : (lines : List Line) (how : How) → All may.Comes lines → may.Closes how → AreOurs plan may (map (λ line. Commands line) lines ++ Ends passes.Control how ∷ [])
  turns_lines [] how come closes = (closes, tt)
  turns_lines (line ∷ lines) how come closes = (come 0 line (omega arith), turns_lines lines how (λ k d inside. come (suc k) d (omega arith)) closes)

  turns_control : (lines : Option control.Input) → MayControl may lines → AreOurs plan may (control_turns lines)
  turns_control None is = (is, tt)
  turns_control (Some input) is = turns_lines input.arrivals input.ending is.0 is.1

module _ (plan : Plan) where
  -- each port of a plan is at its place
  pub at_place : (k : ℕ) → k < length plan.ports → IsAt plan (number_at plan k)
  at_place k inside = record { place = k; inside = inside; number = refl }

-- all turns of a replay are those of ports of the plan, or of control
pub all_ours : (plan : Plan) (may : Controlled) (lines : Option control.Input) (inputs : List Input) → MayControl may lines → AreOurs plan may (merged turn_at (all_turns lines plan.ports inputs))
all_ours plan may lines inputs is =
    turns_merge plan may (control_turns lines) (merged turn_at (port_turns plan.ports inputs)) (turns_control plan may lines is) (turns_ports plan may plan.ports inputs (at_place plan))

-- A property of histories that each step of a replay keeps.
pub record IsKept (plan : Plan) (base : Base) (stops : Stops) (may : Controlled) (Has : List Row → Type 0) : Type 1 where
  pub arrives : (past : List Row) (port : Port) (a : Arrival) → Has past → Has (with_event plan base past (event_of port a))
  pub commands : (past : List Row) (line : Line) → may.Comes line → has_ended base (control_pass plan) past ≡ false → Has past → Has (with_reply plan base stops.control line (with_event plan base past (Command line.stamp line.command)))
  pub ends : (past : List Row) (who : Who) (how : How) → EndsInput plan may who how → has_ended base (pass_of plan who) past ≡ false → Has past → Has (with_event plan base past (End who how))
  pub ticks : (past : List Row) → Has past → Has (with_event plan base past (End passes.Ticker (closing past)))
  pub drains : (past : List Row) (port : Port) → IsAt plan (number_of port) → Has past → Has (with_drain plan base stops.ports port (length (queue plan base (number_of port) past)) past)
  pub closes : (past : List Row) (port : Port) → IsAt plan (number_of port) → Has past → Has (with_end plan base port past)

module _ (plan : Plan) (base : Base) (stops : Stops) (may : Controlled) (Has : List Row → Type 0) (kept : IsKept plan base stops may Has) where
  has_drained : (ports : List PortPlan) (past : List Row) → AllAt plan ports → Has past → Has (drained plan base stops.ports ports past)
  has_drained [] past at has = has
  has_drained (q ∷ qs) past at has =
      has_drained qs (with_drain plan base stops.ports q.number (length (queue plan base (number_of q.number) past)) past) (λ k inside. at (suc k) (omega arith))
      (kept.drains past q.number (at 0 (omega arith)) has)

  -- a turn is entered, whose pass hasn't ended
  pub has_entered : (turn : Turn) (past : List Row) → IsOurs plan may turn → has_ended base (pass_of plan (who_of turn)) past ≡ false → Has past → Has (entered plan base stops turn past)
  has_entered (Arrives port arrival) past ours running has = has_drained plan.ports (with_event plan base past (event_of port arrival)) (at_place plan) (kept.arrives past port arrival has)
  has_entered (Commands line) past ours running has =
      has_drained plan.ports (with_reply plan base stops.control line (with_event plan base past (Command line.stamp line.command))) (at_place plan) (kept.commands past line ours running has)
  has_entered (Ends who how) past ours running has = kept.ends past who how ours running has

  has_egress : (ports : List PortPlan) (past : List Row) → AllAt plan ports → Has past → Has (egress_ended plan base ports past)
  has_egress [] past at has = has
  has_egress (q ∷ qs) past at has = has_egress qs (with_end plan base q.number past) (λ k inside. at (suc k) (omega arith)) (kept.closes past q.number (at 0 (omega arith)) has)

  -- the ticker ends, and each egress
  pub has_closed : (past : List Row) → Has past → Has (closed plan base past)
  has_closed past has = has_egress plan.ports (with_event plan base past (End passes.Ticker (closing past))) (at_place plan) (kept.ticks past has)
