-- What was taken from a source, and from the octets that were held of it, for the parts of a record.
use Rattle.std.specs.Prelude.{◌≡◌, ◌≢◌, ◌⊎◌, ℕ, ◌+◌, ◌^◌, ◌<◌, ◌≤◌, List, [], ◌++◌, length, take, drop, Option}
use Rattle.savi_ends.specs.declared.source.Got.{Got}
use Rattle.savi_ends.specs.declared.source.Got.TheVariants as got
use Rattle.savi_ends.specs.declared.filling.Filled.{Filled}
use Rattle.savi_ends.specs.declared.filling.Filled.TheVariants as filled
use Rattle.savi_ends.specs.Octets.{NothingLeft}
use Rattle.stream_io.specs.declared.record.Taken.{Taken}
use Rattle.stream_io.specs.declared.record.Taken.TheVariants as taken
use Rattle.stream_io.specs.Records.{IsRecord}
use Rattle.stream_io.specs.Streams.{IsAtFault, IsCut}
use Rattle.stream_io.specs.Readers.{front_octets, longest_record}

-- so many octets are held, at least one; or nothing is held, since nothing is left or a read failed
abbrev pub HoldsAhead : Got → List ℕ → Option (List ℕ) → Type 0
HoldsAhead (got.Bytes n) held left = (1 ≤ n) × (n ≡ length held)
HoldsAhead got.End held left = (held ≡ []) × NothingLeft left
HoldsAhead got.Failed held left = held ≡ []

-- The buffer was filled with the first of these octets and the others are held; or they are its front and the last ones of
-- the source; or the read of what was still missing failed.
abbrev pub FillsFrom : Filled → List ℕ → List ℕ → List ℕ → Option (List ℕ) → Type 0
FillsFrom filled.Whole buf octets held left = octets ≡ buf ++ held
FillsFrom (filled.Short n) buf octets held left = (n < length buf) × (octets ≡ take n buf) × NothingLeft left
FillsFrom filled.Failed buf octets held left = length octets < length buf

-- So many of these octets were passed over and the others are held; or they are fewer, and the last ones of the source; or
-- the read of what was still missing failed.
abbrev pub PassesOver : Filled → ℕ → List ℕ → List ℕ → Option (List ℕ) → Type 0
PassesOver filled.Whole len octets held left = (front : List ℕ) × (length front ≡ len) × (octets ≡ front ++ held)
PassesOver (filled.Short n) len octets held left = (length octets < len) × NothingLeft left
PassesOver filled.Failed len octets held left = length octets < len

-- So many of these octets were taken, into the buffer where they may be a frame's, and the others are held; or they are
-- fewer, and the last ones of the source; or the read of what was still missing failed.
abbrev pub TakesBody : Filled → ℕ → List ℕ → List ℕ → List ℕ → Option (List ℕ) → Type 0
TakesBody filled.Whole len octets held buf left =
    (body : List ℕ) × (length body ≡ len) × (octets ≡ body ++ held) × (len ≤ 1518 → take len buf ≡ body)
TakesBody (filled.Short n) len octets held buf left = (length octets < len) × NothingLeft left
TakesBody filled.Failed len octets held buf left = length octets < len

-- The record of this length at the front of these octets was taken: a frame's octets are the first of the buffer, and the
-- octets behind the record are held.
pub record TakesWhole (place len : ℕ) (octets held buf : List ℕ) : Type 0 where
  pub first : List ℕ
  pub split : octets ≡ first ++ held
  pub record_is : IsRecord first len
  pub bounded : len ≤ 262144
  pub placed : place + (4 + len) ≤ 2 ^ 62
  pub frame : len ≤ 1518 → take len buf ≡ drop 4 first

-- Of the record at this place: it was taken; or there is none, since nothing is left; or it is at fault, or cut short by
-- the end of the source, and then no more was taken than the longest record has, and where octets are left no more than its
-- length, and what is held; or the read of what was still missing failed.
abbrev pub TakesRecord : Taken → ℕ → List ℕ → List ℕ → List ℕ → Option (List ℕ) → Type 0
TakesRecord (taken.Whole len) place octets held buf left = TakesWhole place len octets held buf
TakesRecord taken.End place octets held buf left = (octets ≡ []) × NothingLeft left
TakesRecord taken.Malformed place octets held buf left =
    (IsAtFault place octets ⊎ ((octets ≢ []) × IsCut octets × NothingLeft left)) × (length octets ≤ longest_record + length held)
    × (¬ NothingLeft left → length octets ≤ front_octets + length held)
TakesRecord taken.Failed place octets held buf left = IsCut octets × ¬ IsAtFault place octets
