-- What a write did.
use Rattle.std.specs.Prelude.{◌≡◌, ℕ, List, Option}
use Rattle.savi_ends.specs.declared.sink.Put.{Put}
use Rattle.savi_ends.specs.declared.sink.Put.TheVariants as put
use Rattle.savi_ends.specs.Octets.{behind, IsFront}

-- A write that is done has written the whole piece, and one that failed a front of it.
abbrev pub Extends : Put → Option (List ℕ) → Option (List ℕ) → List ℕ → Type 0
Extends put.Done old new piece = new ≡ behind old piece
Extends put.Failed old new piece = (front : List ℕ) × IsFront front piece × (new ≡ behind old front)
