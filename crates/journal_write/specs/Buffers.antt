-- What waits in a buffer on its way to a sink.
use Rattle.std.specs.Prelude.{◌≡◌, ℕ, List, ◌++◌, Option}
use Rattle.savi_ends.specs.Octets.{behind}

-- What a sink took since then and what waits for it are this text.
pub record Holds (old new : Option (List ℕ)) (waits text : List ℕ) : Type 0 where
  pub took : List ℕ
  pub sink : new ≡ behind old took
  pub all : took ++ waits ≡ text

-- the octets that wait, and for how many there is room
pub record Buffered : Type 0 where
  pub octets : List ℕ
  pub room : ℕ
