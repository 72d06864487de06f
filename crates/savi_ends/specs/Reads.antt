-- What a read gave.
use Rattle.std.specs.Prelude.{ℕ, ◌≤◌, List, [], take}
use Rattle.savi_ends.specs.declared.source.Got.{Got}
use Rattle.savi_ends.specs.declared.source.Got.TheVariants as got

-- the octets that a read gave, which stand at the front of the buffer
abbrev pub octets_given : Got → List ℕ → List ℕ
octets_given (got.Bytes n) buf = take n buf
octets_given got.End buf = []
octets_given got.Failed buf = []

-- a read gives at least one octet, and no more than there is room for
abbrev pub FitsIn : Got → ℕ → Type 0
FitsIn (got.Bytes n) room = (1 ≤ n) × (n ≤ room)
FitsIn got.End room = Unit {0}
FitsIn got.Failed room = Unit {0}
