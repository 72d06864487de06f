-- What a replay over the ends of control, of ports and of a journal has done.
use Rattle.std.specs.Prelude.{◌≡◌, ℕ, Bool, List, Option}
use Rattle.savi_kinds.specs.declared.plan.Plan.{Plan}
use Rattle.hist_store.specs.Rows.{Row}
use Rattle.hist_store.specs.JournalTexts.{address_text}
use Rattle.savi_history.specs.Shown.{counts_of}
use Rattle.savi_history.specs.Summary.{summary_of}
use Rattle.savi_segments.specs.Counted.{summary_by}
use Rattle.savi_segments.specs.Journals.{IsJournalOf, journal_of}
use Rattle.savi_segments.specs.Segments.{joined}
use Rattle.savi_core.specs.Machines.{base_of}
use Rattle.port_worker.specs.declared.control_ends.ControlEnds.{ControlEnds}
use Rattle.port_worker.specs.declared.port_ends.PortEnds.{PortEnds}
use Rattle.port_worker.specs.Served.{ServesEnds}
use Rattle.journal_write.specs.Told.{TellsOf}
use Rattle.switch_run.specs.declared.outcome.Outcome.{Outcome}
use Rattle.switch_run.specs.Causes.{TookOrPart}

-- The segments of a session of the plan: what they were to the ends of control, where there are any, and of the ports, and
-- to the journal.
pub record IsPlayed {S K C : Type 0} (left : S → Option (List ℕ)) (written : K → Option (List ℕ)) (source_faults : S → ℕ) (sink_faults : K → ℕ) (plan : Plan) (segments : List (List Row)) (control control' : Option (ControlEnds S K C)) (ports ports' : List (PortEnds S K C)) (journal journal' : K) (journal_written : Bool) : Type 0 where
  pub serves : ServesEnds left written source_faults sink_faults plan segments control control' ports ports'
  pub journal_was : TookOrPart sink_faults written journal_written (journal_of plan segments) journal journal'
  pub tells : IsJournalOf address_text plan segments (journal_of plan segments)

-- what is left of them: how many entries they have, how passes ended for good, and a switch whose counters sum them up
pub record IsOutcomeOf (segments : List (List Row)) (outcome : Outcome) : Type 0 where
  pub tells : TellsOf outcome.entries outcome.ends.items segments
  pub counted : summary_of (joined segments) ≡ summary_by outcome.entries (counts_of (base_of outcome.core) outcome.core.past)
