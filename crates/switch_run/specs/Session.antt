-- What a run has done whose session began: the segments of one history stand in all of it.
use Rattle.std.specs.Prelude.{◌≡◌, ℕ, ◌<◌, ◌⊎◌, ◌&&◌, ◌||◌, not, Bool, true, false, if◌then◌else◌, List, [], ◌∷◌, ◌++◌, Option, None, Some, IfSome, IsSome, All}
use Rattle.std.specs.List.{list_any}
use Rattle.savi_kinds.specs.declared.entry.How.{How}
use Rattle.savi_kinds.specs.declared.entry.Who.{Who}
use Rattle.savi_kinds.specs.declared.plan.Plan.{Plan}
use Rattle.savi_kinds.specs.ValidPlan.{numbers_of}
use Rattle.savi_ends.specs.declared.world.Std.TheVariants.{Out, Err}
use Rattle.savi_ends.specs.declared.world.Ends.{Ends}
use Rattle.savi_ends.specs.Octets.{behind}
use Rattle.savi_ends.specs.Places.{Place, Book, PortKey, ControlKey}
use Rattle.pcap_io.specs.Kinds.{classic_kinds}
use Rattle.pcap_io.specs.Runs.{Arrive}
use Rattle.cli_lang.specs.Arrivals as control
use Rattle.hist_store.specs.Rows.{Row}
use Rattle.hist_store.specs.JournalTexts.{address_text}
use Rattle.savi_history.specs.Endings.{ends_told, has_failed, has_failed_write, has_malformed, is_failed_reason, is_failed_write_of, is_input, is_malformed_reason}
use Rattle.savi_history.specs.EndLines.{told_lines}
use Rattle.savi_history.specs.Adverts.{IsGuarded}
use Rattle.savi_history.specs.Summary.{summary_of, summary_text}
use Rattle.savi_segments.specs.FirstCome.{AllSegmentsPassedRightly, SegmentsKeepWhoCameFirst}
use Rattle.savi_segments.specs.Journals.{IsJournalOf, IsSame, journal_of}
use Rattle.savi_segments.specs.Segments.{joined}
use Rattle.savi_segments.specs.Unbroken.{unbroken}
use Rattle.savi_conf.specs.declared.fault.ConfFault.{ConfFault}
use Rattle.run_config.specs.Configs.{EndHasFault, EndHasNoFault, IsConfigured, IsReadFrom, IsReadThrough, IsRefused}
use Rattle.switch_report.specs.RunLines.{cannot_open_line, config_line, write_failed_line, read_failed_line, port_name, control_word, journal_word}
use Rattle.port_worker.specs.ControlServed.{IsControlServed}
use Rattle.port_worker.specs.Served.{IsServed, ServesPorts}
use Rattle.switch_ports.specs.Named.{control_key}
use Rattle.switch_run.specs.Causes.{IsUnserved, Keeps, KeepsAll, IsOffPlanSame, TookOrPart, ports_in}

-- The status by the rows of which ends are told, and by whether the journal and the summary were written: the first that
-- applies of a failed read, a failed write and a malformed input.
abbrev pub status_of : Bool → List Row → ℕ
status_of written past =
    if has_failed past then 5 else if has_failed_write past || not written then 6 else if has_malformed past then 4 else 0

-- the same by the ends that are told, of which none is a pause
abbrev pub told_status : Bool → List (Who × How) → ℕ
told_status written ends =
    if list_any (λ told. is_input told.0 && is_failed_reason told.1) ends then 5
    else if list_any (λ told. is_failed_write_of told.0 told.1) ends || not written then 6
    else if list_any (λ told. is_malformed_reason told.1) ends then 4
    else 0

-- A sink took these lines, or a write of it failed, which changes no status.
abbrev pub ToldBy : {K : Type 0} → (K → ℕ) → (K → Option (List ℕ)) → K → K → List ℕ → Type 0
ToldBy faults written old new lines = (written new ≡ behind (written old) lines) ⊎ (0 < faults new)

-- the same of standard error
abbrev pub WasTold : {S K C : Type 0} → (K → ℕ) → (K → Option (List ℕ)) → Book S K C → Book S K C → List ℕ → Type 0
WasTold faults written old new lines = Keeps (λ told kept. ToldBy faults written told kept lines) (old.std Err) (new.std Err)

-- the line of a journal that couldn't be written
abbrev pub journal_lines : Bool → List ℕ
journal_lines true = []
journal_lines false = write_failed_line journal_word

-- Standard output took the summary of all rows, or a front of it where a write failed; standard error was told the bad ends
-- among those rows of which ends are told, and that of a journal that wasn't written, in what `Says`; and the status is by
-- these.
pub record IsSummed {K : Type 0} (written : K → Option (List ℕ)) (faults : K → ℕ) (Says : List ℕ → Type 0) (all told : List Row) (journal_written : Bool) (old new : Place K) (status : ℕ) : Type 0 where
  -- whether the summary was written
  pub summary_written : Bool
  pub summary : Keeps (TookOrPart faults written summary_written (summary_text (summary_of all))) old new
  pub errors : Says (told_lines (ends_told told) ++ journal_lines journal_written)
  pub cause : status ≡ status_of (journal_written && summary_written) told

-- What segments were to the place of control, by the names of the plan, in a run that isn't live. Where it names control's
-- input and output, their ends are kept there, and they were served: control has an input. Where it doesn't, no place of
-- control was touched, and control has none.
abbrev pub ServesControlPlace : {S K C : Type 0} → (S → Option (List ℕ)) → (K → Option (List ℕ)) → (S → ℕ) → (K → ℕ) → Plan → List (List Row) → Option (List ℕ × List ℕ) → Option control.Input → Option ℕ → (ControlKey → Place (Ends S K C)) → (ControlKey → Place (Ends S K C)) → Type 0
ServesControlPlace left written source_faults sink_faults plan segments None None stop old new = new ≡ old
ServesControlPlace left written source_faults sink_faults plan segments None (Some input) stop old new = ⊥
ServesControlPlace left written source_faults sink_faults plan segments (Some names) None stop old new = ⊥
ServesControlPlace left written source_faults sink_faults plan segments (Some names) (Some input) stop old new =
    Keeps (IsControlServed left written source_faults sink_faults plan segments input stop) (old (control_key false names)) (new (control_key false names))

-- What the segments of this plan leave: the journal took their text, which stands for no other legal ones, or a front of it
-- where a write failed; they are summed up on the standard outputs and in the status, by the rows of which ends are told; no
-- advertisement and no hidden fragment passed the port of a host or a server; and where sources are validated, an IPv6 frame
-- passed such a port exactly where no rule on messages stopped it and its source was live there, or a named exception
-- permitted it, and who came first kept an address: a frame passed another such port with that source only once the first
-- port had lost it by one of three causes.
pub record IsReported {S K C : Type 0} (written : K → Option (List ℕ)) (sink_faults : K → ℕ) (plan : Plan) (segments : List (List Row)) (told : List Row) (Says : List ℕ → Type 0) (old new : Book S K C) (status : ℕ) : Type 0 where
  -- whether the journal was written
  pub journal_written : Bool
  pub journal : Keeps (TookOrPart sink_faults written journal_written (journal_of plan segments)) (old.outputs plan.journal) (new.outputs plan.journal)
  pub tells : IsJournalOf address_text plan segments (journal_of plan segments)
  pub alone : (plan' : Plan) (segments' : List (List Row)) → IsJournalOf address_text plan' segments' (journal_of plan segments) → IsSame plan segments plan' segments'
  pub summed : IsSummed written sink_faults Says (joined segments) told journal_written (old.std Out) (new.std Out) status
  pub guarded : IsGuarded plan (joined segments)
  -- where sources are validated
  pub access : plan.savi ≡ true → AllSegmentsPassedRightly plan segments
  pub first_come : plan.savi ≡ true → SegmentsKeepWhoCameFirst plan segments

-- A replay with this plan: its segments are those of a session, and the replay of what the sources of control, where the
-- plan names it, and of the plan's ports gave to sinks that stop so; the ends of control and of each port are kept in their
-- own place, and the segments fit what was given up and taken there; and they are reported, without pauses.
pub record IsReplayOf {S K C : Type 0} (left : S → Option (List ℕ)) (written : K → Option (List ℕ)) (source_faults : S → ℕ) (sink_faults : K → ℕ) (plan : Plan) (Says : List ℕ → Type 0) (old new : Book S K C) (status : ℕ) : Type 0 where
  pub segments : List (List Row)
  pub serves : ServesPorts plan segments
      (λ lines stop. ServesControlPlace left written source_faults sink_faults plan segments plan.control lines stop old.control new.control)
      (λ place port input stop. Keeps (IsServed left written source_faults sink_faults (Arrive classic_kinds) plan segments port input stop) (ports_in plan old port) (ports_in plan new port))
  pub reported : IsReported written sink_faults plan segments (unbroken segments) Says old new status

-- A session of this plan: it was a replay, and no other port or output was touched, nor control where the plan names none.
pub record IsSessionOf {S K C : Type 0} (left : S → Option (List ℕ)) (written : K → Option (List ℕ)) (source_faults : S → ℕ) (sink_faults : K → ℕ) (plan : Plan) (Says : List ℕ → Type 0) (old new : Book S K C) (status : ℕ) : Type 0 where
  pub elsewhere : IsOffPlanSame plan old new
  pub did : IsReplayOf left written source_faults sink_faults plan Says old new status

-- A session of the plan that the configuration says. The configuration's input is kept. It was read to its end, or one octet
-- further than a configuration may have, and no read of it failed.
pub record IsSession {S K C : Type 0} (left : S → Option (List ℕ)) (written : K → Option (List ℕ)) (source_faults : S → ℕ) (sink_faults : K → ℕ) (file : List ℕ) (Says : List ℕ → Type 0) (old new : Book S K C) (status : ℕ) : Type 0 where
  pub plan : Plan
  pub configured : IsConfigured true left (old.inputs file) plan
  pub input : IsReadThrough left (old.inputs file) (new.inputs file)
  pub still : EndHasNoFault source_faults (new.inputs file)
  pub session : IsSessionOf left written source_faults sink_faults plan Says old new status

-- A read of the configuration failed, before anything else was opened.
pub record IsFileUnread {S K C : Type 0} (left : S → Option (List ℕ)) (source_faults : S → ℕ) (file : List ℕ) (Says : List ℕ → Type 0) (old new : Book S K C) (status : ℕ) : Type 0 where
  pub status_is : status ≡ 5
  pub fault : EndHasFault source_faults (new.inputs file)
  pub input : IsReadFrom left (old.inputs file) (new.inputs file)
  pub errors : Says (read_failed_line file)
  pub out : new.std Out ≡ old.std Out
  pub unserved : IsUnserved old new

-- The configuration could not be opened, and nothing else was touched.
pub record IsFileUnopened {S K C : Type 0} (file : List ℕ) (Says : List ℕ → Type 0) (old new : Book S K C) : Type 0 where
  pub errors : Says (cannot_open_line file)
  pub place : new.inputs file ≡ old.inputs file
  pub unserved : IsUnserved old new

-- A port could not be opened: it and those behind it in the plan are as they were, and so are control and each output.
pub record IsPortUnopened {S K C : Type 0} (plan : Plan) (Says : List ℕ → Type 0) (old new : Book S K C) : Type 0 where
  pub before : List ℕ
  pub port : ℕ
  pub later : List ℕ
  pub all : numbers_of plan.ports ≡ before ++ port ∷ later
  pub kept : All (λ n. IsSome (ports_in plan new n).stands) before
  pub same : All (λ n. (key : PortKey) → key.number ≡ n → new.ports key ≡ old.ports key) (port ∷ later)
  pub control : new.control ≡ old.control
  pub outputs : new.outputs ≡ old.outputs
  pub elsewhere : IsOffPlanSame plan old new
  pub errors : Says (cannot_open_line (port_name port))

-- The plan names control, and its ends could not be opened: the ends of each port are kept, and control and each output are
-- as they were.
pub record IsControlUnopened {S K C : Type 0} (plan : Plan) (Says : List ℕ → Type 0) (old new : Book S K C) : Type 0 where
  pub named : IsSome plan.control
  pub kept : All (λ n. IsSome (ports_in plan new n).stands) (numbers_of plan.ports)
  pub control : new.control ≡ old.control
  pub outputs : new.outputs ≡ old.outputs
  pub elsewhere : IsOffPlanSame plan old new
  pub errors : Says (cannot_open_line control_word)

-- The journal could not be opened: the ends of each port are kept, and those of control, where the plan names them, and each
-- output is as it was.
pub record IsJournalUnopened {S K C : Type 0} (live : Bool) (plan : Plan) (Says : List ℕ → Type 0) (old new : Book S K C) : Type 0 where
  pub kept : All (λ n. IsSome (ports_in plan new n).stands) (numbers_of plan.ports)
  pub control : IfSome plan.control (λ names. IsSome (new.control (control_key live names)).stands)
  pub outputs : (name : List ℕ) → new.outputs name ≡ old.outputs name
  pub elsewhere : IsOffPlanSame plan old new
  pub errors : Says (cannot_open_line journal_word)

abbrev pub IsPartUnopened : {S K C : Type 0} → Bool → Plan → (List ℕ → Type 0) → Book S K C → Book S K C → Type 0
IsPartUnopened live plan Says old new =
    IsPortUnopened plan Says old new ⊎ (IsControlUnopened plan Says old new ⊎ IsJournalUnopened live plan Says old new)

-- A port, control or the journal of the plan that the configuration says could not be opened, and the ticker wasn't touched.
-- No read of the configuration failed.
pub record IsPlanUnopened {S K C : Type 0} (replay : Bool) (left : S → Option (List ℕ)) (source_faults : S → ℕ) (file : List ℕ) (Says : List ℕ → Type 0) (old new : Book S K C) : Type 0 where
  pub plan : Plan
  pub configured : IsConfigured replay left (old.inputs file) plan
  pub input : IsReadThrough left (old.inputs file) (new.inputs file)
  pub still : EndHasNoFault source_faults (new.inputs file)
  pub ticker : new.ticker ≡ old.ticker
  pub part : IsPartUnopened (not replay) plan Says old new

-- Something that was to be opened could not be.
abbrev pub IsUnopened : {S K C : Type 0} → Bool → (S → Option (List ℕ)) → (S → ℕ) → List ℕ → (List ℕ → Type 0) → Book S K C → Book S K C → Type 0
IsUnopened replay left source_faults file Says old new = IsFileUnopened file Says old new ⊎ IsPlanUnopened replay left source_faults file Says old new

-- The configuration, whose input is kept, says no plan, and nothing else was opened. No read of it failed.
pub record IsNoPlan {S K C : Type 0} (replay : Bool) (left : S → Option (List ℕ)) (source_faults : S → ℕ) (file : List ℕ) (Says : List ℕ → Type 0) (old new : Book S K C) : Type 0 where
  pub fault : ConfFault
  pub refused : IsRefused replay left (old.inputs file) fault
  pub input : IsReadThrough left (old.inputs file) (new.inputs file)
  pub still : EndHasNoFault source_faults (new.inputs file)
  pub unserved : IsUnserved old new
  pub errors : Says (config_line fault)

-- There was no memory. The input of the configuration is as it was, or kept, and it was read to its end, or one octet further
-- than a configuration may have, where no read failed. Either no port, no output and no ends of control were touched, or the
-- ends of all ports of the plan, of control, where the plan names it, and of the journal are kept, and no others were touched.
pub record IsUnplayed {S K C : Type 0} (replay : Bool) (left : S → Option (List ℕ)) (written : K → Option (List ℕ)) (source_faults : S → ℕ) (file : List ℕ) (old new : Book S K C) : Type 0 where
  pub input : (new.inputs file ≡ old.inputs file) ⊎ (IsReadThrough left (old.inputs file) (new.inputs file) × EndHasNoFault source_faults (new.inputs file))
  pub ends : IsUnserved old new ⊎ ((plan : Plan) × IsConfigured replay left (old.inputs file) plan × KeepsAll (not replay) left written plan old new × IsOffPlanSame plan old new)
