-- What the octets of a control input are: lines, each with its stamp and its command, and how they end.
use Rattle.std.specs.Prelude.{◌≡◌, ◌≢◌, ℕ, ◌+◌, ◌^◌, ◌<◌, ◌≤◌, Bool, true, false, IsTrue, List, [], ◌∷◌, ◌++◌, All, length, take, decimal, ◌⊎◌}
use Rattle.savi_kinds.specs.declared.entry.How.{How}
use Rattle.savi_kinds.specs.declared.entry.How.TheVariants as how
use Rattle.savi_kinds.specs.Characters.{space, line_feed}

pub record Line : Type 0 where
  pub stamp : ℕ
  pub command : List ℕ

-- a whole input: its lines, and behind them its ending
pub record Input : Type 0 where
  pub arrivals : List Line
  pub ending : How

abbrev pub HasNoFeed : List ℕ → Type 0
HasNoFeed octets = All (λ c. c ≢ line_feed) octets

-- What the text of a line says. Where the input is live it is the command, and the stamp is a reading of the clock; else
-- it is the stamp in decimal without a leading zero, one space, and the command.
abbrev pub Says : Bool → List ℕ → Line → Type 0
Says true text line = text ≡ line.command
Says false text line = (text ≡ decimal line.stamp ++ (space ∷ line.command)) × (line.stamp < 2 ^ 64)

-- The next octets are a line with this text, of at most 120 octets: the text and a line feed; or, where the input was
-- seen to end, the last octets of it.
pub record IsLine (seen : Bool) (text octets rest : List ℕ) : Type 0 where
  pub apart : HasNoFeed text
  pub short : length text ≤ 120
  pub whole : (octets ≡ text ++ (line_feed ∷ [])) ⊎ (IsTrue seen × (text ≢ []) × (octets ≡ text) × (rest ≡ []))

-- more than 120 octets without a line feed
pub record IsLong (octets : List ℕ) : Type 0 where
  pub enough : 121 ≤ length octets
  pub apart : HasNoFeed (take 121 octets)

-- a line begins at this place that ends past place 2^62 of its input, or says nothing
pub record BeginsBadLine (live seen : Bool) (place : ℕ) (octets : List ℕ) : Type 0 where
  pub text : List ℕ
  pub front : List ℕ
  pub rest : List ℕ
  pub split : octets ≡ front ++ rest
  pub line : IsLine seen text front rest
  pub bad : (2 ^ 62 < place + length front) ⊎ ((line : Line) → ¬ Says live text line)

-- What is left at this place ends the input: nothing; an overlong line, which counts as ending with its 121st octet; a line
-- that is malformed; or, where the input wasn't seen to end, a line that isn't whole, in which the read failed.
abbrev pub EndsAs : Bool → Bool → ℕ → How → List ℕ → Type 0
EndsAs live seen place how.End octets = IsTrue seen × (octets ≡ [])
EndsAs live seen place how.Quit octets = ⊥
EndsAs live seen place (how.Malformed at) octets =
    (at ≡ place) × ((IsLong octets × (2 ^ 62 < place + 121)) ⊎ BeginsBadLine live seen place octets)
EndsAs live seen place (how.Overlong at) octets = (at ≡ place) × IsLong octets × (place + 121 ≤ 2 ^ 62)
EndsAs live seen place how.Failed octets = (seen ≡ false) × HasNoFeed octets × (length octets ≤ 120)
EndsAs live seen place how.Unwritten octets = ⊥
EndsAs live seen place how.Paused octets = ⊥

-- one line at this place, in front of these octets
abbrev pub IsLineOf : Bool → Bool → ℕ → List ℕ → List ℕ → Line → Type 0
IsLineOf live seen place octets rest line =
    (text : List ℕ) × IsLine seen text octets rest × Says live text line × (place + length octets ≤ 2 ^ 62)

-- What is left at this place is these lines, one after the other, and then ends so.
abbrev pub IsRun : Bool → Bool → ℕ → List Line → How → List ℕ → Type 0
IsRun live seen place [] ending octets = EndsAs live seen place ending octets
IsRun live seen place (line ∷ lines) ending octets =
    (first : List ℕ) × (rest : List ℕ) × (octets ≡ first ++ rest) × IsLineOf live seen place first rest line
    × IsRun live seen (place + length first) lines ending rest

abbrev pub stamped_at : ℕ → Line → Line
stamped_at reading line = record { stamp = reading; command = line.command }

-- The lines of a live input with the readings of its clock as their stamps, one after the other, as many as there are
-- readings for; those of any other input, which have their stamps in them, as they are.
abbrev pub stamped_by : Bool → List ℕ → List Line → List Line
stamped_by false readings lines = lines
stamped_by true [] lines = []
stamped_by true (reading ∷ readings) [] = []
stamped_by true (reading ∷ readings) (line ∷ lines) = stamped_at reading line ∷ stamped_by true readings lines

-- What the octets of a control input are, with the readings of its clock, and whether it was seen to end.
pub record Arrive (live seen : Bool) (readings octets : List ℕ) (input : Input) : Type 0 where
  pub whole : List Line
  pub run : IsRun live seen 0 whole input.ending octets
  pub stamps : input.arrivals ≡ stamped_by live readings whole
