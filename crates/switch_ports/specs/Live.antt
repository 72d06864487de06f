-- The ends of ports in the order of a plan, and live ends of control.
use Rattle.std.specs.Prelude.{◌≡◌, ◌≢◌, ◌<◌, ℕ, List, length, slice_index, slice_index_or, Option, None, Some, true}
use Rattle.savi_ends.specs.declared.world.Ends.{Ends}
use Rattle.savi_ends.specs.Places.{Place, PortKey, ControlKey, IsPortKept}
use Rattle.switch_ports.specs.Named.{control_key}
use Rattle.switch_ports.specs.Openings.{IsOpened}

-- none of the first so many of these numbers is this one
abbrev pub IsOffFirst : List ℕ → ℕ → ℕ → Type 0
IsOffFirst numbers count n = (place : ℕ) → place < count → slice_index numbers place ≢ n

-- the places of ports but the first so many of these are as they were
abbrev pub OthersSame : {X : Type 0} → List ℕ → ℕ → (PortKey → Place X) → (PortKey → Place X) → Type 0
OthersSame numbers count old new = (key : PortKey) → IsOffFirst numbers count key.number → new key ≡ old key

-- this is the number behind the first so many
abbrev pub IsNextOf : List ℕ → ℕ → ℕ → Type 0
IsNextOf numbers count n = (count < length numbers) × (slice_index numbers count ≡ n)

-- these ends are open, those of the first of these numbers, in their order
abbrev pub AreOpened : {S K C : Type 0} → (Ends S K C → Type 0) → List ℕ → (ℕ → Place (Ends S K C)) → (ℕ → Place (Ends S K C)) → List (Ends S K C) → Type 0
AreOpened {S} {K} {C} IsFresh numbers old new held =
    (place : ℕ) (d : Ends S K C) → place < length held → IsOpened IsFresh (old (slice_index numbers place)) (new (slice_index numbers place)) (slice_index_or held place d)

-- these ends are kept, those of the first of these numbers, in their order
abbrev pub AreKept : {S K C : Type 0} → List ℕ → (PortKey → Place (Ends S K C)) → (PortKey → Place (Ends S K C)) → List (Ends S K C) → Type 0
AreKept {S} {K} {C} numbers old new held =
    (place : ℕ) (d : Ends S K C) → place < length held → IsPortKept old new (slice_index numbers place) (slice_index_or held place d)

-- Where there are names of control's input and output, its live ends are held, as what was told of their place by these
-- names; where there are none, nothing is held, and no place was touched.
abbrev pub IsLiveControlOpened : {S K C : Type 0} → (Ends S K C → Type 0) → Option (List ℕ × List ℕ) → (ControlKey → Place (Ends S K C)) → (ControlKey → Place (Ends S K C)) → Option (Ends S K C) → Type 0
IsLiveControlOpened IsFresh None old new None = new ≡ old
IsLiveControlOpened IsFresh None old new (Some ends) = ⊥
IsLiveControlOpened IsFresh (Some names) old new None = ⊥
IsLiveControlOpened IsFresh (Some names) old new (Some ends) =
    IsOpened IsFresh (old (control_key true names)) (new (control_key true names)) ends
