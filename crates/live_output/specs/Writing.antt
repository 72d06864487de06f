-- What a sink took of octets that are written in pieces.
use Rattle.std.specs.Prelude.{◌≡◌, ℕ, List, ◌++◌, Option}
use Rattle.savi_ends.specs.Octets.{behind}

-- What a sink took since then, and behind it what is gathered for it, are these octets.
pub record Holds (old new : Option (List ℕ)) (gathered octets : List ℕ) : Type 0 where
  pub took : List ℕ
  pub sink : new ≡ behind old took
  pub all : took ++ gathered ≡ octets
