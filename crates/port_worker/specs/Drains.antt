-- What one port's part of a step does to the history and to its sink.
use Rattle.std.specs.Prelude.{◌≡◌, ◌≢◌, ◌≤◌, ℕ, ◌⊎◌, true, List, [], ◌∷◌, length, Option, Some, None}
use Rattle.savi_kinds.specs.declared.plan.Plan.{Plan}
use Rattle.savi_kinds.specs.declared.port.Port.{Port}
use Rattle.savi_kinds.specs.declared.entry.Who.TheVariants.{Egress}
use Rattle.savi_kinds.specs.declared.entry.How.TheVariants as hows
use Rattle.savi_kinds.specs.Ports.{number_of}
use Rattle.savi_ends.specs.Faults.{Rose}
use Rattle.pcap_io.specs.Captures.{header_text}
use Rattle.hist_store.specs.Rows.{Row}
use Rattle.checkpoint.specs.Bases.{Base}
use Rattle.savi_history.specs.Passes.{egress_pass, has_ended, has_port}
use Rattle.savi_history.specs.Queues.{Item, queue}
use Rattle.savi_history.specs.Events.{Drain, End}
use Rattle.savi_history.specs.Replay.{with_event}
use Rattle.savi_history.specs.PortOutputs.{TookPieces}
use Rattle.port_worker.specs.declared.port_ends.PortEnds.{PortEnds}
use Rattle.port_worker.specs.SentFrames.{records}

-- the items that wait at a port
abbrev pub waiting_at : Plan → Base → Port → List Row → List Item
waiting_at plan base port past = queue plan base (number_of port) past

-- a port of the plan, at which nothing waits once its egress has ended, and never more than a batch holds
pub record IsDrainable (plan : Plan) (base : Base) (past : List Row) (port : Port) : Type 0 where
  pub known : has_port plan (number_of port) ≡ true
  pub few : length (waiting_at plan base port past) ≤ 256
  pub quiet : has_ended base (egress_pass plan (number_of port)) past ≡ true → waiting_at plan base port past ≡ []

-- the history with the end of an egress at which a write failed
abbrev pub with_failed : Plan → Base → Port → List Row → List Row
with_failed plan base port past = with_event plan base past (End (Egress port) hows.Failed)

-- A sink took these pieces without a fault, and the history is as before; or a write failed, for which the egress has ended.
pub record TookAll {K : Type 0} (written : K → Option (List ℕ)) (faults : K → ℕ) (before now : List Row) (given : List (List ℕ)) (old new : K) : Type 0 where
  pub past : now ≡ before
  pub took : TookPieces (written old) (written new) given None
  pub still : faults new ≡ faults old

pub record TookFront {K : Type 0} (written : K → Option (List ℕ)) (faults : K → ℕ) (plan : Plan) (base : Base) (port : Port) (before now : List Row) (given : List (List ℕ)) (old new : K) : Type 0 where
  pub past : now ≡ with_failed plan base port before
  pub whole : ℕ
  pub took : TookPieces (written old) (written new) given (Some whole)
  pub rose : Rose (faults old) (faults new)

abbrev pub IsWritten : {K : Type 0} → (K → Option (List ℕ)) → (K → ℕ) → Plan → Base → Port → List Row → List Row → List (List ℕ) → K → K → Type 0
IsWritten written faults plan base port before now given old new =
    TookAll written faults before now given old new ⊎ TookFront written faults plan base port before now given old new

-- the header of a port's capture was written, or that failed
abbrev pub IsBegun : {S K C : Type 0} → (K → Option (List ℕ)) → (K → ℕ) → Plan → Base → List Row → List Row → PortEnds S K C → PortEnds S K C → Type 0
IsBegun written faults plan base past now old new = IsWritten written faults plan base old.port past now (header_text ∷ []) old.ends.sink new.ends.sink

-- nothing waited at a port, and nothing has changed
pub record WasQuiet {S K C : Type 0} (plan : Plan) (base : Base) (past now : List Row) (old new : PortEnds S K C) : Type 0 where
  pub none : waiting_at plan base old.port past ≡ []
  pub past_same : now ≡ past
  pub same : new ≡ old

-- all that waited at a port was taken, and written, or a write failed
pub record WasDrained {S K C : Type 0} (written : K → Option (List ℕ)) (faults : K → ℕ) (plan : Plan) (base : Base) (past now : List Row) (old new : PortEnds S K C) : Type 0 where
  pub some : waiting_at plan base old.port past ≢ []
  pub wrote : IsWritten written faults plan base old.port (with_event plan base past (Drain old.port (length (waiting_at plan base old.port past)))) now
      (records (waiting_at plan base old.port past)) old.ends.sink new.ends.sink

abbrev pub IsDrained : {S K C : Type 0} → (K → Option (List ℕ)) → (K → ℕ) → Plan → Base → List Row → List Row → PortEnds S K C → PortEnds S K C → Type 0
IsDrained written faults plan base past now old new = WasQuiet plan base past now old new ⊎ WasDrained written faults plan base past now old new
