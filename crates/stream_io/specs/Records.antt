-- The records of a stream of frames: a length of 4 octets, and then that many octets.
use Rattle.std.specs.Prelude.{◌≡◌, ℕ, ◌+◌, ◌<◌, ◌≤◌, List, [], ◌∷◌, ◌++◌, length, take, drop, All}
use Rattle.std.specs.Int.{w32, to_be_bytes, from_be_bytes}
use Rattle.savi_kinds.specs.Arrivals.{Arrival, Frame, Long}

-- the length that stands in the first 4 octets, the most significant first
abbrev pub length_in : List ℕ → ℕ
length_in octets = from_be_bytes w32 (take 4 octets)

-- a length, and as many octets behind it
pub record IsRecord (octets : List ℕ) (len : ℕ) : Type 0 where
  pub size : length octets ≡ 4 + len
  pub counted : length_in octets ≡ len

-- These octets are the record of this arrival, whatever its stamp: a frame, or one that is longer than a frame may be and
-- no longer than a record may be.
abbrev pub IsRecordOf : List ℕ → Arrival → Type 0
IsRecordOf octets (Frame stamp frame) = IsRecord octets (length frame) × (length frame ≤ 1518) × (frame ≡ drop 4 octets)
IsRecordOf octets (Long stamp len) = IsRecord octets len × (1518 < len) × (len ≤ 262144)

-- the record of a frame that is written
abbrev pub record_text : List ℕ → List ℕ
record_text frame = to_be_bytes w32 (length frame) ++ frame

-- a whole stream of written frames
abbrev pub stream_text : List (List ℕ) → List ℕ
stream_text [] = []
stream_text (frame ∷ frames) = record_text frame ++ stream_text frames

-- no frame is longer than one that goes out may be: as long as one that comes in, and a tag
abbrev pub AreFrames : List (List ℕ) → Type 0
AreFrames frames = All (λ frame. length frame ≤ 1522) frames
