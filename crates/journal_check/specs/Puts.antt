-- What comes of putting an event to a switch.
use Rattle.std.specs.Prelude.{◌≡◌, ℕ}
use Rattle.savi_history.specs.Events.{Event}
use Rattle.savi_history.specs.Legal.{MayCome}
use Rattle.savi_core.specs.declared.event.Stepped.{Stepped}
use Rattle.savi_core.specs.declared.event.Stepped.TheVariants.{Done, Full, Nothing}
use Rattle.savi_core.specs.Machines.{Machine, base_of, with_event}
use Rattle.savi_core.specs.Steps.{entry_of}
use Rattle.journal_check.specs.declared.putting.Put.{Put}
use Rattle.journal_check.specs.declared.putting.Put.TheVariants.{Entered, Never, Other}
use Rattle.journal_check.specs.Differing.{WantsNumber}

-- It may come, and was entered; or no number would mend it; or it would come with another number. Else nothing has changed.
abbrev pub Puts : Machine → Event → Machine → Put → Type 0
Puts old event new (Entered entry) = MayCome old.plan (base_of old) old.past event × (new ≡ with_event old event) × (entry ≡ entry_of old event)
Puts old event new Never =
    (¬ MayCome old.plan (base_of old) old.past event) × ((want have : ℕ) → ¬ WantsNumber old.plan (base_of old) old.past event want have) × (new ≡ old)
Puts old event new (Other want have) = WantsNumber old.plan (base_of old) old.past event want have × (new ≡ old)

-- what the answer of the switch comes to
abbrev pub put_of : Stepped → Put
put_of (Done entry) = Entered entry
put_of (Full len) = Never
put_of Nothing = Never
