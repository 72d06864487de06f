-- What a run has done, by its status, before standard error is kept.
use Rattle.std.specs.Prelude.{◌≡◌, ◌≢◌, ◌⊎◌, ℕ, Bool, true, false, List, Option}
use Rattle.savi_ends.specs.declared.world.Std.TheVariants.{Out}
use Rattle.savi_ends.specs.Faults.{Rose}
use Rattle.savi_ends.specs.Places.{Book, OthersStay}
use Rattle.switch_report.specs.RunLines.{memory_line}
use Rattle.switch_run.specs.Causes.{IsOneOf, IsUnused, quiet_statuses, session_statuses, statuses, unused_statuses}
use Rattle.switch_run.specs.Live.{IsServeSession}
use Rattle.switch_run.specs.Session.{IsFileUnread, IsNoPlan, IsSession, IsUnopened, IsUnplayed}

-- What a run has done with a configuration, whether for a replay or for a live session; `Session` is what such a session is.
pub record IsRunOf {S K C : Type 0} (replay : Bool) (left : S → Option (List ℕ)) (written : K → Option (List ℕ)) (source_faults : S → ℕ) (file : List ℕ) (Says : List ℕ → Type 0) (Session : Type 0) (old new : Book S K C) (status : ℕ) : Type 0 where
  pub one_of : IsOneOf statuses status
  pub usage : status ≢ 2
  pub memory : status ≡ 1 → Says memory_line
  pub unplayed : status ≡ 1 → IsUnplayed replay left written source_faults file old new
  pub config : status ≡ 3 → IsNoPlan replay left source_faults file Says old new
  pub opening : status ≡ 7 → Rose old.faults new.faults
  pub still : status ≢ 7 → new.faults ≡ old.faults
  pub unopened : status ≡ 7 → IsUnopened replay left source_faults file Says old new
  pub session : IsOneOf session_statuses status → IsFileUnread left source_faults file Says old new status ⊎ Session
  pub quiet : IsOneOf quiet_statuses status → new.std Out ≡ old.std Out
  pub unused : IsOneOf unused_statuses status → IsUnused replay left file old new
  pub inputs : OthersStay old.inputs new.inputs file

-- a replay, which doesn't touch the ticker
pub record IsReplayRun {S K C : Type 0} (left : S → Option (List ℕ)) (written : K → Option (List ℕ)) (source_faults : S → ℕ) (sink_faults : K → ℕ) (file : List ℕ) (Says : List ℕ → Type 0) (old new : Book S K C) (status : ℕ) : Type 0 where
  pub run : IsRunOf true left written source_faults file Says (IsSession left written source_faults sink_faults file Says old new status) old new status
  pub ticker : new.ticker ≡ old.ticker

-- a live session
abbrev pub IsServeRun : {S K C : Type 0} → (S → Option (List ℕ)) → (K → Option (List ℕ)) → (S → ℕ) → (K → ℕ) → (C → Option (List ℕ)) → List ℕ → (List ℕ → Type 0) → Book S K C → Book S K C → ℕ → Type 0
IsServeRun left written source_faults sink_faults readings file Says old new status =
    IsRunOf false left written source_faults file Says (IsServeSession left written source_faults sink_faults readings file Says old new status) old new status
