-- What a live session has done: one list of segments stands in all of it, and by these each end was served.
use Rattle.std.specs.Prelude.{◌≡◌, ℕ, true, false, Bool, List, Option, Some, None, All}
use Rattle.savi_kinds.specs.declared.plan.Plan.{Plan}
use Rattle.savi_kinds.specs.Ports.{number_of}
use Rattle.savi_ends.specs.declared.world.Ends.{Ends}
use Rattle.savi_ends.specs.Places.{Place, Book, ControlKey}
use Rattle.hist_store.specs.Rows.{Row}
use Rattle.hist_store.specs.JournalTexts.{address_text}
use Rattle.savi_segments.specs.Journals.{IsJournalOf, journal_of}
use Rattle.savi_segments.specs.Segments.{IsWholeSession}
use Rattle.savi_segments.specs.Unbroken.{unbroken}
use Rattle.live_session.specs.LiveRows.{ControlRow, NoControlRow, TickerRow}
use Rattle.live_session.specs.LiveSession.{PortRow, IsLive}
use Rattle.live_switch.specs.declared.ready.Ready.{Ready}
use Rattle.run_config.specs.Configs.{EndHasNoFault, IsConfigured, IsReadThrough}
use Rattle.switch_ports.specs.Named.{control_key}
use Rattle.switch_run.specs.Causes.{IsOffPlanSame, Keeps, TookOrPart, ports_in}
use Rattle.switch_run.specs.Session.{IsReported}

module _ {S K C : Type 0} (left : S → Option (List ℕ)) (written : K → Option (List ℕ)) (source_faults : S → ℕ)
    (sink_faults : K → ℕ) (readings : C → Option (List ℕ)) where
  -- The segments of a session of the plan: what they were to all ends, and to the journal.
  pub record IsLivePlayed (plan : Plan) (segments : List (List Row)) (old new : Ready S K C) (journal_written : Bool) : Type 0 where
    pub live : IsLive left written source_faults sink_faults readings plan segments old.ports.items new.ports.items old.control new.control old.ticker new.ticker
    pub journal_was : TookOrPart sink_faults written journal_written (journal_of plan segments) old.journal new.journal
    pub tells : IsJournalOf address_text plan segments (journal_of plan segments)

  -- What segments were to the place of live control, by the names of the plan. Where it names control's input and output,
  -- their ends are kept there, and they were served; where it doesn't, no place of control was touched, and no line was
  -- entered.
  abbrev pub ServesControlAt : Plan → List (List Row) → Option (List ℕ × List ℕ) → (ControlKey → Place (Ends S K C)) → (ControlKey → Place (Ends S K C)) → Type 0
  ServesControlAt plan segments None old new = NoControlRow segments × (new ≡ old)
  ServesControlAt plan segments (Some names) old new = Keeps (ControlRow left written source_faults sink_faults readings plan segments) (old (control_key true names)) (new (control_key true names))

  -- A live session of this plan: its segments are those of a session; the ends of each port, of control, where the plan names
  -- it, and the ticker's clock are kept in their own place, and by the segments they were served; these are reported, without
  -- pauses; and no other port or output was touched.
  pub record IsServeOf (plan : Plan) (Says : List ℕ → Type 0) (old new : Book S K C) (status : ℕ) : Type 0 where
    pub segments : List (List Row)
    pub session : IsWholeSession plan segments
    pub ports : All (λ p. Keeps (PortRow left written source_faults sink_faults readings plan segments p) (ports_in plan old (number_of p.number)) (ports_in plan new (number_of p.number))) plan.ports
    pub control : ServesControlAt plan segments plan.control old.control new.control
    pub ticker : Keeps (TickerRow readings plan segments) old.ticker new.ticker
    pub reported : IsReported written sink_faults plan segments (unbroken segments) Says old new status
    pub elsewhere : IsOffPlanSame plan old new

  -- A live session of the plan that the configuration says. The configuration's input is kept. It was read to its end, or one
  -- octet further than a configuration may have, and no read of it failed.
  pub record IsServeSession (file : List ℕ) (Says : List ℕ → Type 0) (old new : Book S K C) (status : ℕ) : Type 0 where
    pub plan : Plan
    pub configured : IsConfigured false left (old.inputs file) plan
    pub input : IsReadThrough left (old.inputs file) (new.inputs file)
    pub still : EndHasNoFault source_faults (new.inputs file)
    pub session : IsServeOf plan Says old new status
