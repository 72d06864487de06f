-- What the octets of a stream are: records one after the other, stamped by a clock, and how they end.
use Rattle.std.specs.Prelude.{◌≡◌, ◌≢◌, ℕ, ◌+◌, ◌^◌, ◌<◌, ◌≤◌, Bool, false, IsTrue, List, [], ◌∷◌, ◌++◌, length, ◌⊎◌}
use Rattle.savi_kinds.specs.declared.entry.How.{How}
use Rattle.savi_kinds.specs.declared.entry.How.TheVariants as how
use Rattle.savi_kinds.specs.Arrivals.{Arrival, Frame, Long, arrival_at, Input}
use Rattle.stream_io.specs.Records.{length_in, IsRecordOf}

-- The length that was read at this place is more than a record may have, or the record would end past place 2^62.
pub record IsAtFault (place : ℕ) (octets : List ℕ) : Type 0 where
  pub counted : 4 ≤ length octets
  pub fault : (262144 < length_in octets) ⊎ (2 ^ 62 < place + (4 + length_in octets))

-- fewer octets than a length and what it counts
abbrev pub IsCut : List ℕ → Type 0
IsCut octets = length octets < 4 + length_in octets

-- What is left at this place ends the input: nothing; a record that is at fault, or is cut short by the end of the input;
-- or, where the input wasn't seen to end, a record that isn't whole, in which the read failed.
abbrev pub EndsAs : Bool → ℕ → How → List ℕ → Type 0
EndsAs seen place how.End octets = IsTrue seen × (octets ≡ [])
EndsAs seen place (how.Malformed at) octets =
    (at ≡ place) × (IsAtFault place octets ⊎ (IsTrue seen × (octets ≢ []) × IsCut octets))
EndsAs seen place how.Failed octets = (seen ≡ false) × IsCut octets × ¬ IsAtFault place octets
EndsAs seen place how.Quit octets = ⊥
EndsAs seen place (how.Overlong at) octets = ⊥
EndsAs seen place how.Unwritten octets = ⊥
EndsAs seen place how.Paused octets = ⊥

-- What is left at this place is the records of these arrivals, one after the other, and then ends so.
abbrev pub IsRun : Bool → ℕ → List Arrival → How → List ℕ → Type 0
IsRun seen place [] ending octets = EndsAs seen place ending octets
IsRun seen place (a ∷ arrivals) ending octets =
    (first : List ℕ) × (rest : List ℕ) × (octets ≡ first ++ rest) × IsRecordOf first a × (place + length first ≤ 2 ^ 62)
    × IsRun seen (place + length first) arrivals ending rest

abbrev pub stamped_at : ℕ → Arrival → Arrival
stamped_at reading (Frame stamp octets) = Frame reading octets
stamped_at reading (Long stamp len) = Long reading len

-- The arrivals with the readings of a clock as their stamps, one after the other, as many as there are readings for.
abbrev pub stamped_by : List ℕ → List Arrival → List Arrival
stamped_by [] arrivals = []
stamped_by (reading ∷ readings) [] = []
stamped_by (reading ∷ readings) (a ∷ arrivals) = stamped_at reading a ∷ stamped_by readings arrivals

-- What the octets of a stream are, with the readings of its clock, and whether it was seen to end.
pub record Arrive (seen : Bool) (readings octets : List ℕ) (input : Input) : Type 0 where
  pub whole : List Arrival
  pub run : IsRun seen 0 whole input.ending octets
  pub stamps : input.arrivals ≡ stamped_by readings whole

-- written frames as they are read again
abbrev pub frames_stamped : List ℕ → List (List ℕ) → List Arrival
frames_stamped [] frames = []
frames_stamped (reading ∷ readings) [] = []
frames_stamped (reading ∷ readings) (frame ∷ frames) = arrival_at reading frame ∷ frames_stamped readings frames
