-- What a turn, or a round's move, adds to what segments tell of a port's input.
use Rattle.std.specs.Prelude.{◌≡◌, ℕ, Bool, true, false, List, [], ◌∷◌, ◌++◌, Option, Some}
use Rattle.savi_kinds.specs.declared.entry.How.{How}
use Rattle.savi_kinds.specs.Arrivals.{Arrival}
use Rattle.savi_kinds.specs.Arrivals as arrivals
use Rattle.savi_kinds.specs.Ports.{number_of}
use Rattle.hist_store.specs.Rows.{Row}
use Rattle.savi_history.specs.Events.{Event, Frame, Long, Command, Tick, Drain, End}
use Rattle.savi_history.specs.PortInputs.{arrived, input_end}
use Rattle.savi_segments.specs.Unbroken.{unbroken}

-- what segments tell of the input of a port: the arrivals that were entered, and how it ended for good
abbrev pub told_of : ℕ → List (List Row) → List Arrival × Option How
told_of port segments = (arrived port (unbroken segments), input_end port (unbroken segments))

-- `before` and `after` are the rows of the newest segment, and `earlier` are the segments in front of it, whichever they
-- are.

-- an arrival at a port was entered, behind those that came before it there
abbrev pub Enters : ℕ → Arrival → List Row → List Row → Type 0
Enters port arrival before after = (earlier : List (List Row))
    → told_of port (after ∷ earlier) ≡ (arrived port (unbroken (before ∷ earlier)) ++ arrival ∷ [], input_end port (unbroken (before ∷ earlier)))

-- nothing more is told of the input: it goes on, or is paused
abbrev pub TellsSame : ℕ → List Row → List Row → Type 0
TellsSame port before after = (earlier : List (List Row)) → told_of port (after ∷ earlier) ≡ told_of port (before ∷ earlier)

-- the input has ended so, behind the arrivals that were entered
abbrev pub EndsInput : ℕ → How → List Row → List Row → Type 0
EndsInput port how before after = (earlier : List (List Row)) → told_of port (after ∷ earlier) ≡ (arrived port (unbroken (before ∷ earlier)), Some how)

-- The arrival was entered; or there was no room for it, and the input is paused.
abbrev pub EntersOr : ℕ → Arrival → Bool → List Row → List Row → Type 0
EntersOr port arrival true before after = Enters port arrival before after
EntersOr port arrival false before after = TellsSame port before after

-- the same of the arrival that an event is
abbrev pub EntersEvent : Event → Bool → List Row → List Row → Type 0
EntersEvent (Frame port stamp octets) entered before after = EntersOr (number_of port) (arrivals.Frame stamp octets) entered before after
EntersEvent (Long port stamp len) entered before after = EntersOr (number_of port) (arrivals.Long stamp len) entered before after
EntersEvent (Command stamp line) entered before after = ⊥
EntersEvent (Tick stamp) entered before after = ⊥
EntersEvent (Drain port count) entered before after = ⊥
EntersEvent (End who how) entered before after = ⊥
