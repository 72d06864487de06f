-- What the octets of a capture are: a header, records one after the other, and how they end.
use Rattle.std.specs.Prelude.{◌≡◌, ◌≢◌, ℕ, ◌+◌, ◌^◌, ◌<◌, ◌≤◌, Bool, false, IsTrue, List, [], ◌∷◌, ◌++◌, length, take, drop, Contains, ◌⊎◌}
use Rattle.savi_kinds.specs.declared.entry.How.{How}
use Rattle.savi_kinds.specs.declared.entry.How.TheVariants as how
use Rattle.savi_kinds.specs.Arrivals.{Arrival, Input}
use Rattle.pcap_io.specs.declared.kind.HeaderKind.{HeaderKind}
use Rattle.pcap_io.specs.Kinds.{IsHeader}
use Rattle.pcap_io.specs.Records.{captured_of, IsRecordOf}

-- The header that was read at this place has more captured octets than a record may have, or the record would end past place
-- 2^62.
pub record IsAtFault (kind : HeaderKind) (place : ℕ) (octets : List ℕ) : Type 0 where
  pub counted : 16 ≤ length octets
  pub fault : (262144 < captured_of kind octets) ⊎ (2 ^ 62 < place + (16 + captured_of kind octets))

-- fewer octets than a record's header and what it has captured
abbrev pub IsCut : HeaderKind → List ℕ → Type 0
IsCut kind octets = length octets < 16 + captured_of kind octets

-- What is left at this place ends the input: nothing; a record that is at fault, or is cut short by the end of the input;
-- or, where the input wasn't seen to end, a record that isn't whole, in which the read failed.
abbrev pub EndsAs : HeaderKind → Bool → ℕ → How → List ℕ → Type 0
EndsAs kind seen place how.End octets = IsTrue seen × (octets ≡ [])
EndsAs kind seen place (how.Malformed at) octets =
    (at ≡ place) × (IsAtFault kind place octets ⊎ (IsTrue seen × (octets ≢ []) × IsCut kind octets))
EndsAs kind seen place how.Failed octets = (seen ≡ false) × IsCut kind octets × ¬ IsAtFault kind place octets
EndsAs kind seen place how.Quit octets = ⊥
EndsAs kind seen place (how.Overlong at) octets = ⊥
EndsAs kind seen place how.Unwritten octets = ⊥
EndsAs kind seen place how.Paused octets = ⊥

-- What is left at this place is the records of these arrivals, one after the other, and then ends so.
abbrev pub IsRun : HeaderKind → Bool → ℕ → List Arrival → How → List ℕ → Type 0
IsRun kind seen place [] ending octets = EndsAs kind seen place ending octets
IsRun kind seen place (a ∷ arrivals) ending octets =
    (first : List ℕ) × (rest : List ℕ) × (octets ≡ first ++ rest) × IsRecordOf kind first a
    × (place + length first ≤ 2 ^ 62) × IsRun kind seen (place + length first) arrivals ending rest

-- an input without arrivals
abbrev pub ended : How → Input
ended ending = record { arrivals = []; ending = ending }

-- a capture: a header of one of these kinds, and behind it a run of records
pub record IsCapture (kinds : List HeaderKind) (seen : Bool) (octets : List ℕ) (input : Input) : Type 0 where
  pub kind : HeaderKind
  pub accepted : Contains kinds kind
  pub header : IsHeader kind (take 24 octets)
  pub run : IsRun kind seen 24 input.arrivals input.ending (drop 24 octets)

-- no header of one of these kinds, perhaps because it is cut short by the end of the input: malformed at its place
pub record IsNoCapture (kinds : List HeaderKind) (seen : Bool) (octets : List ℕ) (input : Input) : Type 0 where
  pub read : (24 ≤ length octets) ⊎ IsTrue seen
  pub none : (kind : HeaderKind) → Contains kinds kind → ¬ IsHeader kind (take 24 octets)
  pub malformed : input ≡ ended (how.Malformed 0)

-- a header that isn't whole, in which the read failed
pub record IsUnread (seen : Bool) (octets : List ℕ) (input : Input) : Type 0 where
  pub unseen : seen ≡ false
  pub cut : length octets < 24
  pub failed : input ≡ ended how.Failed

-- What the octets of an input are, where headers of these kinds are read, and whether it was seen to end.
abbrev pub Arrive : List HeaderKind → Bool → List ℕ → Input → Type 0
Arrive kinds seen octets input = IsCapture kinds seen octets input ⊎ (IsNoCapture kinds seen octets input ⊎ IsUnread seen octets input)
