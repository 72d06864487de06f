-- Histories in segments: each goes on from what those before it left.
use Rattle.std.specs.Prelude.{◌≡◌, true, false, List, [], ◌∷◌, ◌++◌, All}
use Rattle.hex.specs.Hex.{IsBytes}
use Rattle.savi_kinds.specs.declared.plan.Plan.{Plan}
use Rattle.hist_store.specs.Rows.{Row}
use Rattle.checkpoint.specs.Bases.{Base, empty}
use Rattle.savi_history.specs.Endings.{has_pause}
use Rattle.savi_history.specs.Legal.{IsLegal, IsFinished}
use Rattle.savi_segments.specs.Checkpoints.{after}

-- what segments leave, the newest of them first, from the start of a switch
abbrev pub base_after : Plan → List (List Row) → Base
base_after plan [] = empty
base_after plan (segment ∷ before) = after plan (base_after plan before) segment

-- their rows one behind the other, the newest first
abbrev pub joined : List (List Row) → List Row
joined [] = []
joined (segment ∷ before) = segment ++ joined before

-- rows of octets
abbrev pub AreOctets : List Row → Type 0
AreOctets past = All (λ r. IsBytes r.octets) past

-- each segment is legal from what those before it leave
abbrev pub AreLegal : Plan → List (List Row) → Type 0
AreLegal plan [] = Unit {0}
AreLegal plan (segment ∷ before) = IsLegal plan (base_after plan before) segment × AreOctets segment × AreLegal plan before

-- the newest segment is left for a next one: every pass has ended, and an input is paused
abbrev pub HasTurned : Plan → List (List Row) → Type 0
HasTurned plan [] = Unit {0}
HasTurned plan (segment ∷ before) = IsFinished plan (base_after plan before) segment × (has_pause segment ≡ true)

-- each segment but the newest was left so
abbrev pub HaveTurned : Plan → List (List Row) → Type 0
HaveTurned plan [] = Unit {0}
HaveTurned plan (segment ∷ before) = HasTurned plan before × HaveTurned plan before

-- in the newest segment every pass has ended, and no input is paused: nothing goes on
abbrev pub HasClosed : Plan → List (List Row) → Type 0
HasClosed plan [] = ⊥
HasClosed plan (segment ∷ before) = IsFinished plan (base_after plan before) segment × (has_pause segment ≡ false)

-- the segments of a session from its start to its end
pub record IsWholeSession (plan : Plan) (segments : List (List Row)) : Type 0 where
  pub legal : AreLegal plan segments
  pub turned : HaveTurned plan segments
  pub closed : HasClosed plan segments
