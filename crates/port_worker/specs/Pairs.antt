-- Lists that are compared element by element.
use Rattle.std.specs.Prelude.{◌≡◌, ℕ, ◌<◌, List, length, slice_index_or}

-- two lists of one length, each element of the one with the same one of the other
pub record EachPair {X : Type 0} (R : X → X → Type 0) (old new : List X) : Type 0 where
  pub size : length new ≡ length old
  pub each : (k : ℕ) (d : X) → k < length old → R (slice_index_or old k d) (slice_index_or new k d)
