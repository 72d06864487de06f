-- What learning from the inputs of ports was to their ends, and to the sink that took its text.
use Rattle.std.specs.Prelude.{◌≡◌, ◌≢◌, ℕ, ◌<◌, ◌≤◌, Bool, List, length, slice_index, slice_index_or, Option, Some}
use Rattle.savi_kinds.specs.declared.plan.Plan.{Plan}
use Rattle.savi_kinds.specs.declared.entry.How.TheVariants as hows
use Rattle.savi_kinds.specs.Arrivals.{Input}
use Rattle.savi_kinds.specs.ValidPlan.{numbers_of}
use Rattle.savi_ends.specs.declared.sink.Put.{Put}
use Rattle.savi_ends.specs.declared.world.Ends.{Ends}
use Rattle.savi_ends.specs.Faults.{Rose}
use Rattle.savi_ends.specs.Octets.{Takes}
use Rattle.pcap_io.specs.Readers.{Comes}
use Rattle.port_worker.specs.declared.port_ends.PortEnds.{PortEnds}
use Rattle.port_worker.specs.Served.{IsInputOf}
use Rattle.port_worker.specs.Used.{GaveNear}
use Rattle.ra_learn.specs.Reports.{Wrote}
use Rattle.learn_run.specs.declared.learning.Ending.{Ending}
use Rattle.learn_run.specs.Turns.{endings_of, learned_text, turns_in_order}

-- What an input was to the ends of its port. The octets of the source are the input, up to the read that failed where one
-- did; that was a fault of this source, and there was no other. From a place at fault on the source gave up no more than one
-- record may have, and where octets are left no more than its front. The sink and the clock weren't touched.
pub record IsHeard {S K C : Type 0} (left : S → Option (List ℕ)) (faults : S → ℕ) (Arrives : Bool → List ℕ → Input → Type 0) (input : Input) (old new : Ends S K C) : Type 0 where
  pub gave : IsInputOf Arrives (left old.source) (left new.source) (Some input.ending) input.arrivals input.ending
  pub takes : (octets : List ℕ) × Takes (left old.source) (left new.source) octets
  pub near : (at : ℕ) → input.ending ≡ hows.Malformed at → GaveNear (left old.source) (left new.source) at
  pub sink : new.sink ≡ old.sink
  pub clock : new.clock ≡ old.clock
  pub later : faults old.source ≤ faults new.source
  pub broken : input.ending ≡ hows.Failed → Rose (faults old.source) (faults new.source)
  pub still : input.ending ≢ hows.Failed → faults new.source ≡ faults old.source

-- There are inputs, one for each port of the plan in its order: this holds of the text that is learned from them, they ended
-- so, and this holds of each port: of its place in the plan, its number and its input.
pub record LearnsPorts (plan : Plan) (window : ℕ) (endings : List Ending) (Took : List ℕ → Type 0) (Holds : ℕ → ℕ → Input → Type 0) : Type 0 where
  pub inputs : List Input
  pub size : length inputs ≡ length plan.ports
  pub text : Took (learned_text plan window inputs)
  pub ended : endings ≡ endings_of (turns_in_order plan inputs)
  pub each : (place : ℕ) (i : Input) → place < length plan.ports → Holds place (slice_index (numbers_of plan.ports) place) (slice_index_or inputs place i)

-- the same of ends that are held in the order of the plan, each read on from where its reader stands, and of a sink that
-- took the text, and no write failed, or a front of it where one did
abbrev pub LearnsEnds : {S K C O : Type 0} → (S → Option (List ℕ)) → (S → ℕ) → (O → Option (List ℕ)) → (O → ℕ) → Plan → ℕ → List Ending → Put → List (PortEnds S K C) → List (PortEnds S K C) → O → O → Type 0
LearnsEnds {S} {K} {C} {O} left source_faults written faults plan window endings put old new out out' =
    LearnsPorts plan window endings (λ text. Wrote text put (written out) (written out') (faults out) (faults out')) (λ place port input. (d : PortEnds S K C) →
    IsHeard left source_faults (Comes (slice_index_or old place d).reader) input (slice_index_or old place d).ends (slice_index_or new place d).ends)
