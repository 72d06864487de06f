-- What a run answers where nothing hinders it: its inputs are whole, and no count of faults rises.
use Rattle.std.specs.Prelude.{◌≡◌, ◌≢◌, ◌⊎◌, ◌↔◌, ℕ, Bool, true, false, List, Option, IfSome, IsSomeAnd, Ok, All}
use Rattle.std.specs.List.{list_any}
use Rattle.savi_kinds.specs.declared.plan.Plan.{Plan}
use Rattle.savi_kinds.specs.declared.plan.Format.{Format}
use Rattle.savi_kinds.specs.declared.entry.How.{How}
use Rattle.savi_kinds.specs.declared.entry.How.TheVariants as hows
use Rattle.savi_kinds.specs.Arrivals.{Arrival}
use Rattle.savi_kinds.specs.Ports.{number_of}
use Rattle.savi_ends.specs.declared.world.Std.TheVariants.{Out}
use Rattle.savi_ends.specs.Places.{Place, Book}
use Rattle.savi_conf.specs.Answers.{IsAnswer}
use Rattle.pcapng_io.specs.Runs.{Event, Arrive}
use Rattle.port_reader.specs.Inputs.{AreArrivals}
use Rattle.cli_lang.specs.Arrivals.{Line, IsRun}
use Rattle.savi_history.specs.ControlInputs.{is_quit}
use Rattle.journal_check.specs.Laws.{IsFinishedJournal}
use Rattle.run_config.specs.Configs.{EndHasFault, OfText}
use Rattle.run_config.specs.Words.{IsAudit, IsCheck, IsGen, IsLearn, IsReplay, IsServe, IsSplitWords}
use Rattle.switch_ports.specs.Named.{control_key}
use Rattle.switch_run.specs.Causes.{HasSomeReadFault, HasSomeWriteFault, ports_in}

-- an end stands in this place that tells the octets it has left, and this holds of them
abbrev pub Tells : {X : Type 0} → (X → Option (List ℕ)) → Place X → (List ℕ → Type 0) → Type 0
Tells left place Holds = IsSomeAnd place.stands (λ told. IsSomeAnd (left told) Holds)

-- these octets are a whole input of this format: a capture, or the records of a stream, up to its end
abbrev pub IsWholeInput : Format → List ℕ → Type 0
IsWholeInput format octets = (arrivals : List Arrival) × AreArrivals format true octets arrivals hows.End

-- these octets are lines of control, live or not: whole ones up to their end, or one of them is `quit`
pub record AreWholeLines (live : Bool) (octets : List ℕ) : Type 0 where
  pub lines : List Line
  pub ending : How
  pub run : IsRun live true 0 lines ending octets
  pub closed : (ending ≡ hows.End) ⊎ (list_any is_quit lines ≡ true)

-- the source of each port of this plan is a whole input of the port's format
abbrev pub ArePortsWhole : {S K C : Type 0} → (S → Option (List ℕ)) → Book S K C → Plan → Type 0
ArePortsWhole left book plan = All (λ p. Tells (λ ends. left ends.source) (ports_in plan book (number_of p.number)) (IsWholeInput p.format)) plan.ports

-- and that of control, live or not, where the plan names it, is whole lines
pub record AreWhole {S K C : Type 0} (live : Bool) (left : S → Option (List ℕ)) (book : Book S K C) (plan : Plan) : Type 0 where
  pub ports : ArePortsWhole left book plan
  pub control : IfSome plan.control (λ names. Tells (λ ends. left ends.source) (book.control (control_key live names)) (AreWholeLines live))

-- no count of faults has risen: not the world's own, nor that of FILE's input, of the ends of a port or of control, of an
-- output by name or of standard output
pub record IsFaultless {S K C : Type 0} (source_faults : S → ℕ) (sink_faults : K → ℕ) (file : List ℕ) (old new : Book S K C) : Type 0 where
  pub opened : new.faults ≡ old.faults
  pub read : HasSomeReadFault source_faults file new → ⊥
  pub written : HasSomeWriteFault sink_faults new → ⊥

-- FILE says a plan, for a replay or for a live session, whose inputs are whole, and no count of faults has risen
pub record IsUnhindered {S K C : Type 0} (replay : Bool) (left : S → Option (List ℕ)) (source_faults : S → ℕ) (sink_faults : K → ℕ) (AreInputsWhole : Plan → Type 0) (file : List ℕ) (old new : Book S K C) : Type 0 where
  pub plan : Plan
  pub says : Tells left (old.inputs file) (λ text. IsAnswer text replay (Ok plan))
  pub whole : AreInputsWhole plan
  pub faultless : IsFaultless source_faults sink_faults file old new

-- What a run answers by its words. A replay or a live session that nothing hinders answers 0, or 1 before its session,
-- however long it is, and so does learning, which reads the ports alone. Where no count of faults rose and the answer isn't
-- 1, the check of a file and its audit answer 0 exactly where its text is the journal of a finished history, and its split
-- exactly where it is a capture of several interfaces up to its end. A load answers 0 or 1, or 6 where a write of standard
-- output failed.
pub record IsComplete {S K C : Type 0} (left : S → Option (List ℕ)) (source_faults : S → ℕ) (sink_faults : K → ℕ) (words : List (List ℕ)) (old new : Book S K C) (status : ℕ) : Type 0 where
  pub replay : (file : List ℕ) → IsReplay file words → IsUnhindered true left source_faults sink_faults (AreWhole false left old) file old new
      → (status ≡ 0) ⊎ (status ≡ 1)
  pub serve : (file : List ℕ) → IsServe file words → IsUnhindered false left source_faults sink_faults (AreWhole true left old) file old new
      → (status ≡ 0) ⊎ (status ≡ 1)
  pub learn : (file : List ℕ) (window : ℕ) → IsLearn file window words → IsUnhindered true left source_faults sink_faults (ArePortsWhole left old) file old new → (status ≡ 0) ⊎ (status ≡ 1)
  pub check : (file : List ℕ) → IsCheck file words → IsFaultless source_faults sink_faults file old new → status ≢ 1
      → OfText left (old.inputs file) (λ text. (status ≡ 0) ↔ ((entries : ℕ) × IsFinishedJournal text entries))
  pub audit : (file : List ℕ) → IsAudit file words → IsFaultless source_faults sink_faults file old new → status ≢ 1
      → OfText left (old.inputs file) (λ text. (status ≡ 0) ↔ ((entries : ℕ) × IsFinishedJournal text entries))
  pub split : (file : List ℕ) → IsSplitWords file words → IsFaultless source_faults sink_faults file old new → status ≢ 1
      → OfText left (old.inputs file) (λ text. (status ≡ 0) ↔ ((events : List Event) × Arrive text (record { events = events; ending = hows.End })))
  pub load : (seed frames : ℕ) → IsGen seed frames words → (status ≡ 0) ⊎ ((status ≡ 1) ⊎ ((status ≡ 6) × EndHasFault sink_faults (new.std Out)))
