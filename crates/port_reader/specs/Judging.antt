-- What a judge entered of what it took, and what reader and judge together leave of a port. `entered` are the arrivals that
-- were entered, in order, and `ended` is how the input ended for good, if it did.
use Rattle.std.specs.Prelude.{◌≡◌, ℕ, List, [], ◌∷◌, ◌++◌, Option, Some, None}
use Rattle.savi_kinds.specs.declared.plan.Format.{Format}
use Rattle.savi_kinds.specs.declared.entry.How.{How}
use Rattle.savi_kinds.specs.Arrivals.{Arrival}
use Rattle.parcel_ring.specs.Handed.{Handed}
use Rattle.port_reader.specs.Rows.{InputRow, all_handed, whole}

-- what was taken and waits for room, if anything does
abbrev pub waiting : Option Handed → List Handed
waiting None = []
waiting (Some handed) = handed ∷ []

-- A judge took of an input, in order, what was entered of it, and behind that what it keeps until there is room. Where the
-- input has ended it took all of it, and last that end, and keeps nothing.
abbrev pub JudgesSo : List Arrival → Option How → List Handed → Option Handed → Type 0
JudgesSo entered None taken kept = taken ≡ all_handed entered ++ waiting kept
JudgesSo entered (Some how) taken kept = (taken ≡ whole entered how) × (kept ≡ None)

-- The source of a port, by what was entered of it: that is all of its arrivals, in order, and the input ended as it ended at
-- the source.
abbrev pub EnteredRow : {S C : Type 0} → (S → Option (List ℕ)) → (S → ℕ) → (C → Option (List ℕ)) → Format
    → List Arrival → Option How → S → S → C → C → Type 0
EnteredRow left faults readings format entered ended old_source new_source old_clock new_clock =
    (ending : How) × (ended ≡ Some ending)
    × InputRow left faults readings format entered ending old_source new_source old_clock new_clock
