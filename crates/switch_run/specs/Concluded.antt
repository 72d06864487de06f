-- What a run without a plan says, and its status.
use Rattle.std.specs.Prelude.{ℕ, List}
use Rattle.run_config.specs.declared.refusal.Refusal.{Refusal}
use Rattle.run_config.specs.declared.refusal.Refusal.TheVariants as refusal
use Rattle.switch_report.specs.RunLines.{cannot_open_line, config_line, memory_line, read_failed_line}

-- the status of a run that has no plan
abbrev pub refusal_status : Refusal → ℕ
refusal_status refusal.NoMemory = 1
refusal_status refusal.CannotOpen = 7
refusal_status refusal.ReadFailed = 5
refusal_status (refusal.Refused fault) = 3

-- and its line
abbrev pub refusal_line : List ℕ → Refusal → List ℕ
refusal_line file refusal.NoMemory = memory_line
refusal_line file refusal.CannotOpen = cannot_open_line file
refusal_line file refusal.ReadFailed = read_failed_line file
refusal_line file (refusal.Refused fault) = config_line fault
