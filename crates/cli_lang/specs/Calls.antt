-- Call after call of a reader, over one source.
use Rattle.std.specs.Prelude.{◌≡◌, ℕ, Bool, true, false, List, [], ◌∷◌, take, Option, Some, IfSome}
use Rattle.savi_kinds.specs.declared.entry.How.{How}
use Rattle.savi_kinds.specs.declared.entry.How.TheVariants as how
use Rattle.savi_ends.specs.Octets.{Takes}
use Rattle.cli_lang.specs.declared.kinds.LineGot.{LineGot}
use Rattle.cli_lang.specs.declared.kinds.LineGot.TheVariants as got
use Rattle.cli_lang.specs.Arrivals.{Line, Input, IsRun, Arrive}
use Rattle.cli_lang.specs.Readers.{State, Running, Ended, Answers, last_answer}

-- an answer, and what the buffer holds then
pub record Told : Type 0 where
  pub answer : LineGot
  pub buf : List ℕ

-- What each call says of the reader and of what its source has left, before and after.
pub record IsCall (live : Bool) (old new : State) (before after : Option (List ℕ)) (told : Told) : Type 0 where
  pub octets : (gave : List ℕ) × Takes before after gave × Answers live old new gave told.buf after told.answer
  pub again : IfSome (last_answer old) (λ answer. (told.answer ≡ answer) × (new ≡ old) × (after ≡ before))

-- These are the answers of one call after another, in whatever pieces the source gives, and wherever it fails.
abbrev pub AreCalls : Bool → State → Option (List ℕ) → List Told → State → Option (List ℕ) → Type 0
AreCalls live old before [] new after = (new ≡ old) × (after ≡ before)
AreCalls live old before (told ∷ later) new after = (mid : State) × (left : Option (List ℕ)) × IsCall live old mid before left told × AreCalls live mid left later new after

-- each of them is this answer
abbrev pub AllAnswer : LineGot → List Told → Type 0
AllAnswer answer [] = Unit {0}
AllAnswer answer (told ∷ later) = (told.answer ≡ answer) × AllAnswer answer later

-- One answer, where these lines are still to come and then the input ends so: it is the first of them, behind which the
-- others go on; or none is left, it is the ending, and it stays so; or a read failed, and it stays so.
abbrev pub Tells : LineGot → List ℕ → (List Line → Type 0) → Type 0 → List Line → How → Type 0
Tells (got.Line stamp len) buf GoOn Stays [] ending = ⊥
Tells (got.Line stamp len) buf GoOn Stays (line ∷ lines) ending = (line ≡ record { stamp = stamp; command = take len buf }) × GoOn lines
Tells got.End buf GoOn Stays [] ending = (ending ≡ how.End) × Stays
Tells got.End buf GoOn Stays (line ∷ lines) ending = ⊥
Tells (got.Malformed at) buf GoOn Stays [] ending = (ending ≡ how.Malformed at) × Stays
Tells (got.Malformed at) buf GoOn Stays (line ∷ lines) ending = ⊥
Tells (got.Overlong at) buf GoOn Stays [] ending = (ending ≡ how.Overlong at) × Stays
Tells (got.Overlong at) buf GoOn Stays (line ∷ lines) ending = ⊥
Tells got.Failed buf GoOn Stays lines ending = Stays

-- The answers, one after the other, are the lines in their order and then the ending, as far as there were calls and no read
-- failed.
abbrev pub AnswersAre : List Told → List Line → How → Type 0
AnswersAre [] lines ending = Unit {0}
AnswersAre (told ∷ later) lines ending = Tells told.answer told.buf (λ rest. AnswersAre later rest ending) (AllAnswer told.answer later) lines ending

-- the stamps of the lines that were told, one after the other: of a live input the readings of its clock
abbrev pub stamp_told : LineGot → List ℕ → List ℕ
stamp_told (got.Line stamp len) stamps = stamp ∷ stamps
stamp_told got.End stamps = []
stamp_told (got.Malformed at) stamps = []
stamp_told (got.Overlong at) stamps = []
stamp_told got.Failed stamps = []

abbrev pub stamps_of : List Told → List ℕ
stamps_of [] = []
stamps_of (told ∷ later) = stamp_told told.answer (stamps_of later)

-- The answers of a new reader are the lines of all the octets that its source had left, in their order, each with the stamp
-- that was told, and then how they end.
abbrev pub CallsGiveInput : Type 0
CallsGiveInput =
    (live : Bool) (octets : List ℕ) (calls : List Told) (new : State) (after : Option (List ℕ)) → AreCalls live (Running 0 []) (Some octets) calls new after
    → (input : Input) × IsRun live true 0 input.arrivals input.ending octets × AnswersAre calls input.arrivals input.ending

-- the lines that were told, one after the other, up to the first answer that is none
abbrev pub line_of : LineGot → List ℕ → List Line → List Line
line_of (got.Line stamp len) buf lines = record { stamp = stamp; command = take len buf } ∷ lines
line_of got.End buf lines = []
line_of (got.Malformed at) buf lines = []
line_of (got.Overlong at) buf lines = []
line_of got.Failed buf lines = []

abbrev pub lines_of : List Told → List Line
lines_of [] = []
lines_of (told ∷ later) = line_of told.answer told.buf (lines_of later)

-- Where a read failed at last, the lines that a new reader told are those of the octets that its source gave, an input that
-- wasn't seen to end.
abbrev pub CallsBeforeFault : Type 0
CallsBeforeFault =
    (live : Bool) (before : Option (List ℕ)) (calls : List Told) (after : Option (List ℕ)) → AreCalls live (Running 0 []) before calls (Ended how.Failed) after
    → (gave : List ℕ) × Takes before after gave × Arrive live false (stamps_of calls) gave (record { arrivals = lines_of calls; ending = how.Failed })
