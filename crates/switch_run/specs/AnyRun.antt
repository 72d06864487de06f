-- What a run has done, whichever of all forms its words are, before standard error is kept.
use Rattle.std.specs.Prelude.{◌≡◌, ◌⊎◌, ℕ, List, Option}
use Rattle.savi_ends.specs.Places.{Book}
use Rattle.run_config.specs.Words.{IsAudit, IsCheck, IsForm, IsGen, IsLearn, IsReplay, IsServe, IsSplitWords}
use Rattle.switch_report.specs.RunLines.{usage_line}
use Rattle.switch_run.specs.Audits.{IsAuditRun}
use Rattle.switch_run.specs.Checks.{IsCheckRun}
use Rattle.switch_run.specs.Learnings.{IsLearnRun}
use Rattle.switch_run.specs.Loads.{IsLoadRun}
use Rattle.switch_run.specs.Runs.{IsReplayRun, IsServeRun}
use Rattle.switch_run.specs.Splits.{IsCaptureRun}

-- it audited the journal that its words name, or learned from the captures; or the words were no form of the command line,
-- and nothing was touched; or what they name was replayed, served, checked or split, or the load that they ask for was
-- replayed
abbrev pub IsAnyRun : {S K C : Type 0} → (S → Option (List ℕ)) → (K → Option (List ℕ)) → (S → ℕ) → (K → ℕ) → (C → Option (List ℕ)) → List (List ℕ) → (List ℕ → Type 0) → Book S K C → Book S K C → ℕ → Type 0
IsAnyRun left written source_faults sink_faults readings words Says old new status =
    ((file : List ℕ) × IsAudit file words × IsAuditRun left written source_faults sink_faults file Says old new status)
    ⊎ (((file : List ℕ) × (window : ℕ) × IsLearn file window words × IsLearnRun left written source_faults sink_faults file window Says old new status)
    ⊎ (((status ≡ 2) × (IsForm words → ⊥) × Says usage_line × (new ≡ old))
    ⊎ (((file : List ℕ) × IsReplay file words × IsReplayRun left written source_faults sink_faults file Says old new status)
    ⊎ (((file : List ℕ) × IsServe file words × IsServeRun left written source_faults sink_faults readings file Says old new status)
    ⊎ (((file : List ℕ) × IsCheck file words × IsCheckRun left written source_faults sink_faults file Says old new status)
    ⊎ (((seed : ℕ) × (frames : ℕ) × IsGen seed frames words × IsLoadRun written sink_faults seed frames Says old new status)
    ⊎ ((file : List ℕ) × IsSplitWords file words × IsCaptureRun left written source_faults sink_faults file Says old new status)))))))
