-- What a reader leaves of its ends, by the arrivals that it put and how the input ended.
use Rattle.std.specs.Prelude.{◌≡◌, ◌≢◌, ℕ, ◌≤◌, List, [], ◌∷◌, ◌++◌, length, map, Option}
use Rattle.savi_kinds.specs.declared.plan.Format.{Format}
use Rattle.savi_kinds.specs.declared.entry.How.{How}
use Rattle.savi_kinds.specs.declared.entry.How.TheVariants as hows
use Rattle.savi_kinds.specs.Arrivals.{Arrival}
use Rattle.savi_ends.specs.Faults.{Rose}
use Rattle.savi_ends.specs.Octets.{Takes}
use Rattle.parcel_ring.specs.Handed.{Handed, Arrived, Ended}
use Rattle.port_reader.specs.Inputs.{AreReadStamped, FitsRead, IsNearInputFault}

abbrev pub all_handed : List Arrival → List Handed
all_handed arrivals = map (λ arrival. Arrived arrival) arrivals

-- all that comes of an input: its arrivals, and last how it ended
abbrev pub whole : List Arrival → How → List Handed
whole arrivals ending = all_handed arrivals ++ Ended ending ∷ []

-- The source of an input: what it gave up are these arrivals, each once and in order, and it ended so; from a place at fault
-- on it gave up no more than a record, and where octets are left no more than the front that is at fault, with the last piece
-- of a stream. Its clock stamped them. It ended by a failed read exactly where its own faults rose.
pub record InputRow {S C : Type 0} (left : S → Option (List ℕ)) (faults : S → ℕ) (readings : C → Option (List ℕ))
    (format : Format) (arrivals : List Arrival) (ending : How) (old_source new_source : S) (old_clock new_clock : C) : Type 0 where
  pub gave : (octets : List ℕ) × Takes (left old_source) (left new_source) octets
  pub fits : FitsRead format (left old_source) (left new_source) arrivals ending
  pub near : (at : ℕ) → ending ≡ hows.Malformed at → IsNearInputFault format at (length gave.0) (left new_source)
  pub stamped : AreReadStamped format (readings old_clock) (readings new_clock) arrivals
  pub later : faults old_source ≤ faults new_source
  pub broken : ending ≡ hows.Failed → Rose (faults old_source) (faults new_source)
  pub still : ending ≢ hows.Failed → faults new_source ≡ faults old_source

module _ {S C : Type 0} (left : S → Option (List ℕ)) (faults : S → ℕ) (readings : C → Option (List ℕ)) where
  -- all of an input was put, and last how it ended
  abbrev pub WasPut : Format → List Handed → S → S → C → C → Type 0
  WasPut format put old_source new_source old_clock new_clock =
      (arrivals : List Arrival) × (ending : How) × (put ≡ whole arrivals ending)
      × InputRow left faults readings format arrivals ending old_source new_source old_clock new_clock
