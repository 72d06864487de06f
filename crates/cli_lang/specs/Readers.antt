-- What a reader of lines is ready for, and what each of its answers says.
use Rattle.std.specs.Prelude.{◌≡◌, ℕ, ◌+◌, ◌^◌, ◌≤◌, Bool, true, false, List, [], ◌∷◌, ◌++◌, length, take, Option, Some, None, ◌⊎◌}
use Rattle.savi_kinds.specs.declared.entry.How.{How}
use Rattle.savi_kinds.specs.declared.entry.How.TheVariants as how
use Rattle.savi_ends.specs.Octets.{NothingLeft}
use Rattle.savi_ends.specs.Readings.{AddsReading}
use Rattle.cli_lang.specs.declared.kinds.LineGot.{LineGot}
use Rattle.cli_lang.specs.declared.kinds.LineGot.TheVariants as got
use Rattle.cli_lang.specs.Arrivals.{Line, Input, IsRun}

pub data State : Type 0 where
  -- the next line begins at this place, and these octets were taken from the source and belong to no line yet
  Running : (place : ℕ) (held : List ℕ) → State
  -- the input has ended so, or a read has failed
  Ended : (ending : How) → State

-- an input without lines, and one of one line
abbrev pub ended : How → Input
ended ending = record { arrivals = []; ending = ending }

abbrev pub only : Line → Input
only line = record { arrivals = line ∷ []; ending = how.End }

-- A reader in this state will give this input, where these octets are left in its source.
abbrev pub Comes : Bool → Bool → State → List ℕ → Input → Type 0
Comes live seen (Running place held) octets input = IsRun live seen place input.arrivals input.ending (held ++ octets)
Comes live seen (Ended ending) octets input = input ≡ ended ending

-- how many octets were taken so far
abbrev pub octets_taken : State → ℕ
octets_taken (Running place held) = place + length held
octets_taken (Ended ending) = 0

-- the octets of the longest line: those that it may have, and the one that ends it or makes it too long
abbrev pub longest_line : ℕ
longest_line = 120 + 1

-- the most octets that are taken from a source at once
abbrev pub longest_piece : ℕ
longest_piece = 512

-- the most octets that are taken from the front of a line on, before it is known how that line is
abbrev pub longest_reach : ℕ
longest_reach = longest_line + longest_piece

-- the input ends at this place, by a line that is malformed or too long
abbrev pub IsFaultAt : How → ℕ → Type 0
IsFaultAt how.End at = ⊥
IsFaultAt how.Quit at = ⊥
IsFaultAt (how.Malformed place) at = place ≡ at
IsFaultAt (how.Overlong place) at = place ≡ at
IsFaultAt how.Failed at = ⊥
IsFaultAt how.Unwritten at = ⊥
IsFaultAt how.Paused at = ⊥

-- the state holds no place past 2^62
abbrev pub IsPlaced : State → Type 0
IsPlaced (Running place held) = place ≤ 2 ^ 62
IsPlaced (Ended ending) = Unit {0}

-- From the first state to the second one these octets were taken and gave these lines: whatever comes behind them, the
-- lines come before it.
abbrev pub HasRead : Bool → State → State → List ℕ → List Line → Type 0
HasRead live first now gave lines =
    (seen : Bool) (rest : List ℕ) (later : List Line) (ending : How)
    → Comes live seen now rest (record { arrivals = later; ending = ending })
    → Comes live seen first (gave ++ rest) (record { arrivals = lines ++ later; ending = ending })

-- one line was read, and the reader stands behind it; or it was the last one, without a line feed
abbrev pub HasReadOne : Bool → State → State → List ℕ → Option (List ℕ) → Line → Type 0
HasReadOne live old new gave left line =
    (((place : ℕ) × (held : List ℕ) × (new ≡ Running place held)) × HasRead live old new gave (line ∷ []) × (octets_taken new ≡ octets_taken old + length gave))
    ⊎ ((new ≡ Ended how.End) × NothingLeft left × Comes live true old gave (only line))

-- The input ends so, whatever is left behind what was taken; or since nothing is left. From the place of a line at fault on
-- no more was taken than the longest line and one piece have.
abbrev pub HasEnded : Bool → State → State → List ℕ → Option (List ℕ) → How → Type 0
HasEnded live old new gave left ending =
    (new ≡ Ended ending)
    × (((seen : Bool) (rest : List ℕ) → Comes live seen old (gave ++ rest) (ended ending))
    ⊎ (NothingLeft left × Comes live true old gave (ended ending)))
    × ((at : ℕ) → IsFaultAt ending at → octets_taken old + length gave ≤ at + longest_reach)

-- What an answer says of the octets that were taken for it, of the buffer, and of what is left.
abbrev pub Answers : Bool → State → State → List ℕ → List ℕ → Option (List ℕ) → LineGot → Type 0
Answers live old new gave buf left (got.Line stamp len) =
    (len ≤ 120) × HasReadOne live old new gave left (record { stamp = stamp; command = take len buf })
Answers live old new gave buf left got.End = HasEnded live old new gave left how.End
Answers live old new gave buf left (got.Malformed at) = HasEnded live old new gave left (how.Malformed at)
Answers live old new gave buf left (got.Overlong at) = HasEnded live old new gave left (how.Overlong at)
Answers live old new gave buf left got.Failed = (new ≡ Ended how.Failed) × Comes live false old gave (ended how.Failed)

-- the stamp of a live line is a reading of the clock, and of nothing else the clock is read
abbrev pub ReadsClock : {C : Type 0} → (C → Option (List ℕ)) → Bool → C → C → ℕ → Type 0
ReadsClock readings true old new stamp = AddsReading (readings old) (readings new) stamp
ReadsClock readings false old new stamp = new ≡ old

abbrev pub Stamps : {C : Type 0} → (C → Option (List ℕ)) → Bool → C → C → LineGot → Type 0
Stamps readings live old new (got.Line stamp len) = ReadsClock readings live old new stamp
Stamps readings live old new got.End = new ≡ old
Stamps readings live old new (got.Malformed at) = new ≡ old
Stamps readings live old new (got.Overlong at) = new ≡ old
Stamps readings live old new got.Failed = new ≡ old

-- Where no line was read, the buffer stays as it was.
abbrev pub KeepsUnlessLine : LineGot → List ℕ → List ℕ → Type 0
KeepsUnlessLine (got.Line stamp len) old new = Unit {0}
KeepsUnlessLine got.End old new = new ≡ old
KeepsUnlessLine (got.Malformed at) old new = new ≡ old
KeepsUnlessLine (got.Overlong at) old new = new ≡ old
KeepsUnlessLine got.Failed old new = new ≡ old

-- the answer of an input that has ended so
abbrev pub answer_of : How → Option LineGot
answer_of how.End = Some got.End
answer_of how.Quit = None
answer_of (how.Malformed at) = Some (got.Malformed at)
answer_of (how.Overlong at) = Some (got.Overlong at)
answer_of how.Failed = Some got.Failed
answer_of how.Unwritten = None
answer_of how.Paused = None

-- what a reader that has ended answers again and again
abbrev pub last_answer : State → Option LineGot
last_answer (Running place held) = None
last_answer (Ended ending) = answer_of ending
