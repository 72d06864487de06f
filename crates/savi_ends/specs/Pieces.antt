-- Which octets a source in memory gives in one read.
use Rattle.std.specs.Prelude.{ℕ, List, [], ◌∷◌, ◌++◌, length, min, take, drop}
use Rattle.savi_ends.specs.declared.source.Got.{Got}
use Rattle.savi_ends.specs.declared.source.Got.TheVariants as got

-- what is given of the octets that are left: as many as there are, up to the most
abbrev pub piece_of : List ℕ → ℕ → Got
piece_of [] most = got.End
piece_of (x ∷ xs) most = got.Bytes (min most (length (x ∷ xs)))

-- how many octets a read gave
abbrev pub count_given : Got → ℕ
count_given (got.Bytes n) = n
count_given got.End = 0
count_given got.Failed = 0

-- the buffer after a read: the octets that were given, and behind them what it held
abbrev pub buffer_after : Got → List ℕ → List ℕ → List ℕ
buffer_after result left buf = take (count_given result) left ++ drop (count_given result) buf
