-- What a session starts with, and what its segments leave.
use Rattle.std.specs.Prelude.{◌≡◌, ℕ, ◌≤◌, false, List, [], ◌∷◌, length, Option}
use Rattle.hist_store.specs.Rows.{Row}
use Rattle.savi_kinds.specs.ValidPlan.{IsValidPlan}
use Rattle.checkpoint.specs.Bases.{empty}
use Rattle.savi_history.specs.Passes.{pass_count}
use Rattle.savi_segments.specs.Journals.{journal_of}
use Rattle.savi_segments.specs.Segments.{IsWholeSession, base_after}
use Rattle.savi_core.specs.Machines.{base_of}
use Rattle.table_lock.specs.Passes.{lock_seats}
use Rattle.journal_write.specs.Told.{TellsOf}
use Rattle.journal_write.specs.Written.{HasText, IsSettled}
use Rattle.live_turns.specs.Seats.{lock_base, lock_plan}
use Rattle.live_switch.specs.declared.segments.Left.{Left}
use Rattle.live_switch.specs.declared.segments.Start.{Start}
use Rattle.live_switch.specs.Dealt.{AreFor}
use Rattle.live_switch.specs.Joined.{StandOn}
use Rattle.live_switch.specs.Open.{AreOpenIn}
use Rattle.live_switch.specs.Works.{IsSameService, IsServiceOf}

-- The lock is that of a new switch, with the passes of all its workers; of the journal nothing was written, and its
-- header is there; and nothing is told yet.
pub record CanStart {K C : Type 0} (start : Start K C) : Type 0 where
  pub valid : IsValidPlan (lock_plan start.lock)
  pub base : lock_base start.lock ≡ empty
  pub seats : lock_seats start.lock ≡ pass_count (lock_plan start.lock)
  pub going : AreOpenIn start.lock start.going.items
  pub passes : AreFor start.lock (length (lock_plan start.lock).ports) start.passes.items
  pub service : IsServiceOf (lock_plan start.lock) start.course.service
  pub header : start.header.items ≡ journal_of (lock_plan start.lock) []
  pub whole : start.course.journal.failed ≡ false
  pub blank : start.course.journal.buffer.octets ≡ []
  pub room : 3401 ≤ start.course.journal.buffer.room
  pub none : start.course.told.entries ≡ 0
  pub no_ends : start.course.told.ends.items ≡ []

-- The segments are those of a whole session, of which the switch has the newest; behind them stands what serves the ends;
-- their journal was written, and it is told of them how many entries they have and how passes ended.
pub record HasRun {K C : Type 0} (written : K → Option (List ℕ)) (faults : K → ℕ) (readings : C → Option (List ℕ))
    (start : Start K C) (left : Left K C) : Type 0 where
  pub before : List (List Row)
  pub plan_is : left.kept.core.value.plan ≡ lock_plan start.lock
  pub base_is : base_of left.kept.core.value ≡ base_after (lock_plan start.lock) before
  pub session : IsWholeSession (lock_plan start.lock) (left.kept.core.value.past ∷ before)
  pub same : IsSameService start.course.service left.course.service
  pub stands : StandOn written faults readings (lock_plan start.lock) [] (left.kept.core.value.past ∷ before) start.course.service left.course.service
  pub tells : TellsOf left.course.told.entries left.course.told.ends.items (left.kept.core.value.past ∷ before)
  pub text : HasText written faults start.course.journal.sink left.course.journal (journal_of (lock_plan start.lock) (left.kept.core.value.past ∷ before))
  pub settled : IsSettled left.course.journal
