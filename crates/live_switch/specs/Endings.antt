-- How a session ends: what it was to all its ends.
use Rattle.std.specs.Prelude.{◌≡◌, ℕ, List, [], ◌∷◌, Option}
use Rattle.savi_kinds.specs.declared.plan.Plan.{Plan}
use Rattle.hist_store.specs.Rows.{Row}
use Rattle.savi_segments.specs.Journals.{journal_of}
use Rattle.savi_segments.specs.Segments.{base_after}
use Rattle.savi_core.specs.Machines.{base_of}
use Rattle.journal_write.specs.Told.{TellsOf}
use Rattle.journal_write.specs.Written.{WasGiven}
use Rattle.live_session.specs.LiveSession.{IsLive}
use Rattle.live_switch.specs.declared.ready.Closed.{Closed}
use Rattle.live_switch.specs.declared.ready.Ready.{Ready}
use Rattle.live_switch.specs.declared.readers.Readers.{Readers}
use Rattle.live_switch.specs.declared.segments.Left.{Left}
use Rattle.live_switch.specs.Sharing.{AreGathered, IsControlGathered}

-- the ends of who served them, put together again, and what is told
pub record IsClosedBy {S K C : Type 0} (readers : Readers S C) (left : Left K C) (closed : Closed S K C) : Type 0 where
  pub core : closed.core ≡ left.kept.core.value
  pub ports : AreGathered readers.ports.items left.course.service.ports.items [] closed.ready.ports.items
  pub control : IsControlGathered readers.control left.course.service.control closed.ready.control
  pub ticker : closed.ready.ticker ≡ left.course.service.ticker.clock
  pub journal : (closed.ready.journal ≡ left.course.journal.sink) × (closed.journal_failed ≡ left.course.journal.failed)
  pub told : (closed.entries ≡ left.course.told.entries) × (closed.ends ≡ left.course.told.ends)

-- The segments before the newest, which is that of the switch that came back: by all of them each end was served; it is
-- told how many entries they have and how passes ended for good; and the journal's sink took their journal, or a front of
-- it where a write failed.
pub record HasServed {S K C : Type 0} (left : S → Option (List ℕ)) (written : K → Option (List ℕ)) (source_faults : S → ℕ)
    (sink_faults : K → ℕ) (readings : C → Option (List ℕ)) (plan : Plan) (old : Ready S K C) (closed : Closed S K C) : Type 0 where
  pub before : List (List Row)
  pub base : base_of closed.core ≡ base_after plan before
  pub live : IsLive left written source_faults sink_faults readings plan (closed.core.past ∷ before) old.ports.items closed.ready.ports.items old.control closed.ready.control old.ticker closed.ready.ticker
  pub tells : TellsOf closed.entries closed.ends.items (closed.core.past ∷ before)
  pub journal : WasGiven written sink_faults old.journal closed.ready.journal [] closed.journal_failed (journal_of plan (closed.core.past ∷ before))
