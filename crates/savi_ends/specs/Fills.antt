-- What a buffer holds after it was filled from a source.
use Rattle.std.specs.Prelude.{◌≡◌, ℕ, ◌<◌, List, take, length, Option}
use Rattle.savi_ends.specs.declared.filling.Filled.{Filled}
use Rattle.savi_ends.specs.declared.filling.Filled.TheVariants as filled
use Rattle.savi_ends.specs.Octets.{NothingLeft}

-- The octets that were given fill the buffer, or they are its front and the last ones of the source, or
-- the read of what was still missing failed.
abbrev pub Fills : Filled → List ℕ → List ℕ → Option (List ℕ) → Type 0
Fills filled.Whole buf gave after = gave ≡ buf
Fills (filled.Short n) buf gave after = (n < length buf) × (gave ≡ take n buf) × NothingLeft after
Fills filled.Failed buf gave after = (length gave < length buf) × (gave ≡ take (length gave) buf)
