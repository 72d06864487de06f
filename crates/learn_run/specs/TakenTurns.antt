-- One turn more, in learning from turns.
use Rattle.std.specs.Prelude.{◌≡◌, ℕ, ◌≤◌, List, [], ◌∷◌, ◌++◌, Option, vec_capacity}
use Rattle.savi_kinds.specs.declared.plan.Plan.{Plan}
use Rattle.savi_history.specs.Turns.{Turn, Arrives, Commands, Ends}
use Rattle.port_worker.specs.declared.port_ends.PortEnds.{PortEnds}
use Rattle.port_worker.specs.PortTurns.{ahead_passed}
use Rattle.ra_learn.specs.Printed.{PortArrival, advert_lines, sightings_of}
use Rattle.ra_learn.specs.Reports.{HasReported, Wrote}
use Rattle.learn_run.specs.declared.learning.Learning.{Learning}
use Rattle.learn_run.specs.Turns.{endings_of}

-- the arrivals with that of a turn, where it is one
abbrev pub with_turn : Turn → List PortArrival → List PortArrival
with_turn (Arrives port arrival) past = record { port = port; arrival = arrival } ∷ past
with_turn (Commands line) past = past
with_turn (Ends who how) past = past

-- a port behind the turn that was read
abbrev pub passed : {S K C : Type 0} → PortEnds S K C → PortEnds S K C
passed p = record p { ahead = ahead_passed p.ahead }

-- What was known of the arrivals so far is known of them with this turn, the sink took the line of the turn, and the end of
-- an input is noted.
pub record IsTurnTaken {O : Type 0} (written : O → Option (List ℕ)) (faults : O → ℕ) (turn : Turn) (old new : Learning) (out out' : O) : Type 0 where
  pub endings : new.endings.items ≡ old.endings.items ++ endings_of (turn ∷ [])
  pub capacity : vec_capacity old.endings ≤ vec_capacity new.endings
  pub tells : (plan : Plan) (window : ℕ) (arrivals : List PortArrival) → HasReported plan window arrivals old.report → HasReported plan window (with_turn turn arrivals) new.report
  pub wrote : (plan : Plan) (window : ℕ) (arrivals : List PortArrival) (before : Option (List ℕ)) (count : ℕ) → HasReported plan window arrivals old.report
      → Wrote (advert_lines plan window (sightings_of plan arrivals)) old.report.put before (written out) count (faults out)
      → Wrote (advert_lines plan window (sightings_of plan (with_turn turn arrivals))) new.report.put before (written out') count (faults out')
