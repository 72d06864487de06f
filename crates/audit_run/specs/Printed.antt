-- What a printer's sink took of a text, and what of it waits.
use Rattle.std.specs.Prelude.{ℕ, List, Option}
use Rattle.journal_write.specs.Written.{WasGiven}
use Rattle.audit_run.specs.declared.printer.Printer.{Printer}

-- a sink that was `first` was given this text
abbrev pub HasPrinted : {K : Type 0} → (K → Option (List ℕ)) → (K → ℕ) → K → Printer K → List ℕ → Type 0
HasPrinted written faults first printer text = WasGiven written faults first printer.sink printer.waits.items printer.failed text
