-- The text of a capture that is written: little-endian, with microseconds.
use Rattle.std.specs.Prelude.{ℕ, ◌*◌, ◌/◌, ◌%◌, ◌^◌, ◌≤◌, List, [], ◌∷◌, ◌++◌, length, All}
use Rattle.std.specs.Int.{w16, w32, to_le_bytes}
use Rattle.savi_kinds.specs.Arrivals.{Arrival, arrival_at}

-- a frame and the moment (ms) at which it is sent
pub record Sent : Type 0 where
  pub moment : ℕ
  pub frame : List ℕ

-- magic, version 2.4, zone and sigfigs 0, snaplen 65,535, link type 1
abbrev pub header_text : List ℕ
header_text =
    to_le_bytes w32 0xa1b2c3d4
    ++ to_le_bytes w16 2 ++ to_le_bytes w16 4
    ++ to_le_bytes w32 0 ++ to_le_bytes w32 0
    ++ to_le_bytes w32 65535
    ++ to_le_bytes w32 1

-- seconds, modulo 2^32, microseconds, the length twice, and the frame
abbrev pub record_text : ℕ → List ℕ → List ℕ
record_text moment frame =
    to_le_bytes w32 (moment / 1000 % 2 ^ 32)
    ++ to_le_bytes w32 (1000 * (moment % 1000))
    ++ to_le_bytes w32 (length frame)
    ++ to_le_bytes w32 (length frame)
    ++ frame

abbrev pub records_text : List Sent → List ℕ
records_text [] = []
records_text (item ∷ items) = record_text item.moment item.frame ++ records_text items

-- a whole capture
abbrev pub capture_text : List Sent → List ℕ
capture_text items = header_text ++ records_text items

-- a written frame as it is read again: its moment comes back modulo 2^32 seconds
abbrev pub arrival_of : Sent → Arrival
arrival_of item = arrival_at (item.moment % (1000 * 2 ^ 32)) item.frame

-- no frame is longer than one that goes out may be: as long as one that comes in, and a tag
abbrev pub AreFrames : List Sent → Type 0
AreFrames items = All (λ item. length item.frame ≤ 1522) items
