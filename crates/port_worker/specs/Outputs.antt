-- The outputs of a replay while it goes on: what each sink took, and what is known so far of where a write failed.
use Rattle.std.specs.Prelude.{◌≡◌, ℕ, ◌≤◌, true, false, List, [], All, Option, Some, None}
use Rattle.savi_kinds.specs.declared.plan.Plan.{Plan}
use Rattle.savi_kinds.specs.declared.entry.How.TheVariants as hows
use Rattle.savi_kinds.specs.Ports.{number_of}
use Rattle.savi_kinds.specs.ValidPlan.{numbers_of}
use Rattle.savi_ends.specs.Faults.{Rose}
use Rattle.hist_store.specs.Rows.{Row}
use Rattle.checkpoint.specs.Bases.{Base}
use Rattle.savi_history.specs.Passes.{egress_pass, has_ended}
use Rattle.savi_history.specs.Queues.{Item, queue, sent}
use Rattle.savi_history.specs.Replay.{Stops, is_stopped, closing}
use Rattle.savi_history.specs.PortOutputs.{output_end, pieces, TookPieces}
use Rattle.savi_segments.specs.Replay.{Run, base_in, segments_of, has_ended_in, pieces_in}
use Rattle.savi_segments.specs.Sent.{sent_in, before_last_drain, FitsOutputIn}
use Rattle.savi_segments.specs.Unbroken.{unbroken}
use Rattle.port_worker.specs.declared.port_ends.PortEnds.{PortEnds}
use Rattle.port_worker.specs.Pairs.{EachPair}

-- An output that goes on: its sink took all that was sent at the port, and no write has failed.
pub record RunsOn {K : Type 0} (written : K → Option (List ℕ)) (faults : K → ℕ) (plan : Plan) (run : Run) (port : ℕ) (old new : K) : Type 0 where
  pub running : has_ended_in plan (egress_pass plan port) run ≡ false
  pub none : output_end port (unbroken (segments_of run)) ≡ None
  pub took : TookPieces (written old) (written new) (pieces (sent_in plan port (segments_of run))) None
  pub still : faults new ≡ faults old

-- An output at which a write failed behind so many whole pieces: its egress has ended for that, and nothing waits there.
pub record HasStopped {K : Type 0} (written : K → Option (List ℕ)) (faults : K → ℕ) (plan : Plan) (run : Run) (port : ℕ) (old new : K) (whole : ℕ) : Type 0 where
  pub ended : has_ended_in plan (egress_pass plan port) run ≡ true
  pub failed : output_end port (unbroken (segments_of run)) ≡ Some hows.Failed
  pub quiet : queue plan (base_in plan run) port run.past ≡ []
  pub took : TookPieces (written old) (written new) (pieces (sent_in plan port (segments_of run))) (Some whole)
  pub fits : FitsOutputIn plan (written old) (written new) port (segments_of run)
  pub rose : Rose (faults old) (faults new)

-- an output by what is known of where a write failed there
abbrev pub IsOutput : {K : Type 0} → (K → Option (List ℕ)) → (K → ℕ) → Plan → Run → ℕ → K → K → Option ℕ → Type 0
IsOutput written faults plan run port old new None = RunsOn written faults plan run port old new
IsOutput written faults plan run port old new (Some whole) = HasStopped written faults plan run port old new whole

pub record IsOutputOf {S K C : Type 0} (written : K → Option (List ℕ)) (faults : K → ℕ) (plan : Plan) (known : Stops) (run : Run) (old new : PortEnds S K C) : Type 0 where
  pub port : new.port ≡ old.port
  pub later : faults old.ends.sink ≤ faults new.ends.sink
  pub output : IsOutput written faults plan run (number_of old.port) old.ends.sink new.ends.sink (known.ports (number_of old.port))

-- all outputs, by what is known of each
abbrev pub AreOutputs : {S K C : Type 0} → (K → Option (List ℕ)) → (K → ℕ) → Plan → Stops → Run → List (PortEnds S K C) → List (PortEnds S K C) → Type 0
AreOutputs written faults plan known run old new = EachPair (IsOutputOf written faults plan known run) old new

-- What a write may turn out to have failed at, by what is known of an output that has so many pieces: where none of these
-- failed, it is none or a later one.
abbrev pub Allows : Option ℕ → Option ℕ → ℕ → Type 0
Allows None stop count = is_stopped stop count ≡ false
Allows (Some whole) stop count = stop ≡ Some whole

-- the same of each port of the plan
abbrev pub ArePortsAllowed : Plan → Stops → Stops → Run → Type 0
ArePortsAllowed plan known stops run = All (λ q. Allows (known.ports q) (stops.ports q) (pieces_in plan q run)) (numbers_of plan.ports)

-- More is known behind a step, and the step has made what that allows.
pub record MovesOn (plan : Plan) (known later : Stops) (run now : Run) (made : Stops → Run) : Type 0 where
  pub before : (stops : Stops) → ArePortsAllowed plan later stops now → ArePortsAllowed plan known stops run
  pub made_so : (stops : Stops) → ArePortsAllowed plan later stops now → now ≡ made stops

-- Whatever was known of the outputs since the first ends of these ports, a step goes on from there.
abbrev pub OutputsGoOn : {S K C : Type 0} → (K → Option (List ℕ)) → (K → ℕ) → Plan → Run → Run → List (PortEnds S K C) → List (PortEnds S K C) → (Stops → Run) → Type 0
OutputsGoOn {S} {K} {C} written faults plan run now old new made =
    (first : List (PortEnds S K C)) (known : Stops) → AreOutputs written faults plan known run first old
    → (later : Stops) × AreOutputs written faults plan later now first new × MovesOn plan known later run now made

-- What the close of a segment leaves of an output: the same was sent, and it ended or is paused, or it had ended and stays
-- so.
pub record IsOutputEnded (plan : Plan) (base : Base) (past now : List Row) (port : ℕ) : Type 0 where
  pub sent_same : sent plan base port now ≡ sent plan base port past
  pub sure_same : (early : List Item) (text : List ℕ) → before_last_drain plan base port early text now ≡ before_last_drain plan base port early text past
  pub ended : has_ended base (egress_pass plan port) past ≡ false → output_end port now ≡ Some (closing past)
  pub still : has_ended base (egress_pass plan port) past ≡ true → output_end port now ≡ output_end port past
