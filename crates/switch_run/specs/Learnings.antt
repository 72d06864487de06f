-- What learning from captures has done: one input of each port stands in all of it.
use Rattle.std.specs.Prelude.{◌≡◌, ◌≢◌, ◌⊎◌, ℕ, not, Bool, true, false, if◌then◌else◌, List, Option, All, flat_map}
use Rattle.std.specs.List.{list_any}
use Rattle.savi_kinds.specs.declared.plan.Plan.{Plan}
use Rattle.savi_kinds.specs.declared.entry.Who.TheVariants.{Ingress}
use Rattle.savi_kinds.specs.ValidPlan.{numbers_of}
use Rattle.savi_ends.specs.declared.sink.Put.{Put}
use Rattle.savi_ends.specs.declared.sink.Put.TheVariants.{Done, Failed}
use Rattle.savi_ends.specs.declared.world.Std.TheVariants.{Out}
use Rattle.savi_ends.specs.Places.{Book, PortKey}
use Rattle.pcap_io.specs.Kinds.{classic_kinds}
use Rattle.pcap_io.specs.Runs.{Arrive}
use Rattle.savi_history.specs.Endings.{is_failed_reason, is_malformed_reason}
use Rattle.savi_history.specs.EndLines.{end_line}
use Rattle.run_config.specs.Configs.{EndHasNoFault, IsConfigured, IsReadThrough}
use Rattle.learn_run.specs.declared.learning.Ending.{Ending}
use Rattle.learn_run.specs.Learning.{IsHeard, LearnsPorts}
use Rattle.switch_run.specs.Causes.{Keeps, TookOrPart, ports_in}
use Rattle.switch_run.specs.Runs.{IsRunOf}
use Rattle.switch_run.specs.Session.{IsFileUnopened, IsPortUnopened}

-- the lines on standard error for the inputs that were at fault, in the order in which they ended
abbrev pub ending_lines : List Ending → List ℕ
ending_lines endings = flat_map (λ e. end_line (Ingress e.port) e.how) endings

-- a write is done
abbrev pub is_done : Put → Bool
is_done Done = true
is_done Failed = false

-- The status by how the inputs ended, and by whether the text was written: the first that applies of a failed read, a failed
-- write and a malformed input.
abbrev pub learned_status : Bool → List Ending → ℕ
learned_status written endings =
    if list_any (λ e. is_failed_reason e.how) endings then 5
    else if not written then 6
    else if list_any (λ e. is_malformed_reason e.how) endings then 4
    else 0

-- Learning with this plan and this window: the ends of each port are kept in their own place, and its source gave its input;
-- standard output took what is learned from all of them, or a front of it where a write failed; standard error was told the
-- inputs at fault, in what `Says`; and the status is by these. No other port was touched.
pub record IsLearningOf {S K C : Type 0} (left : S → Option (List ℕ)) (written : K → Option (List ℕ)) (source_faults : S → ℕ) (sink_faults : K → ℕ) (plan : Plan) (window : ℕ) (Says : List ℕ → Type 0) (old new : Book S K C) (status : ℕ) : Type 0 where
  -- how the inputs ended, and whether the text was written
  pub endings : List Ending
  pub text_written : Bool
  pub learns : LearnsPorts plan window endings
      (λ text. Keeps (TookOrPart sink_faults written text_written text) (old.std Out) (new.std Out))
      (λ place port input. Keeps (IsHeard left source_faults (Arrive classic_kinds) input) (ports_in plan old port) (ports_in plan new port))
  pub errors : Says (ending_lines endings)
  pub cause : status ≡ learned_status text_written endings
  pub others : (port : PortKey) → All (λ n. n ≢ port.number) (numbers_of plan.ports) → new.ports port ≡ old.ports port

-- Learning with the plan that the configuration says. The configuration's input is kept. It was read to its end, or one octet
-- further than a configuration may have, and no read of it failed.
pub record IsLearning {S K C : Type 0} (left : S → Option (List ℕ)) (written : K → Option (List ℕ)) (source_faults : S → ℕ) (sink_faults : K → ℕ) (file : List ℕ) (window : ℕ) (Says : List ℕ → Type 0) (old new : Book S K C) (status : ℕ) : Type 0 where
  pub plan : Plan
  pub configured : IsConfigured true left (old.inputs file) plan
  pub input : IsReadThrough left (old.inputs file) (new.inputs file)
  pub still : EndHasNoFault source_faults (new.inputs file)
  pub learning : IsLearningOf left written source_faults sink_faults plan window Says old new status

-- A port of the plan that the configuration says could not be opened. No read of the configuration failed.
pub record IsLearnedPortUnopened {S K C : Type 0} (left : S → Option (List ℕ)) (source_faults : S → ℕ) (file : List ℕ) (Says : List ℕ → Type 0) (old new : Book S K C) : Type 0 where
  pub plan : Plan
  pub configured : IsConfigured true left (old.inputs file) plan
  pub input : IsReadThrough left (old.inputs file) (new.inputs file)
  pub still : EndHasNoFault source_faults (new.inputs file)
  pub port : IsPortUnopened plan Says old new

-- What a run has done that was to learn, by its status. It opened and read the configuration and the ports as a replay does,
-- and neither control nor the ticker nor any output by name was touched.
pub record IsLearnRun {S K C : Type 0} (left : S → Option (List ℕ)) (written : K → Option (List ℕ)) (source_faults : S → ℕ) (sink_faults : K → ℕ) (file : List ℕ) (window : ℕ) (Says : List ℕ → Type 0) (old new : Book S K C) (status : ℕ) : Type 0 where
  pub run : IsRunOf true left written source_faults file Says (IsLearning left written source_faults sink_faults file window Says old new status) old new status
  pub opened : status ≡ 7 → IsFileUnopened file Says old new ⊎ IsLearnedPortUnopened left source_faults file Says old new
  pub rest : new ≡ record old { faults = new.faults; inputs = new.inputs; ports = new.ports; std = new.std }
