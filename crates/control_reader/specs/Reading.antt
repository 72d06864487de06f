-- What was read of control's input, from a new reader on.
use Rattle.std.specs.Prelude.{◌≡◌, ◌⊎◌, ℕ, true, List, [], length, Option}
use Rattle.savi_kinds.specs.declared.entry.How.{How}
use Rattle.savi_kinds.specs.declared.entry.How.TheVariants as hows
use Rattle.savi_ends.specs.Octets.{NothingLeft}
use Rattle.cli_lang.specs.Arrivals.{Line, Input}
use Rattle.cli_lang.specs.Readers.{State, Running, Ended, Comes, HasRead, octets_taken}

-- a new reader
abbrev pub start : State
start = Running 0 []

abbrev pub IsReading : State → Type 0
IsReading state = (place : ℕ) × (held : List ℕ) × (state ≡ Running place held)

-- an input of these lines
abbrev pub of_lines : List Line → How → Input
of_lines lines ending = record { arrivals = lines; ending = ending }

-- These octets are these lines: whatever comes behind them, the lines come before it, and the reader took so many; or the
-- last one had no line feed, and nothing is left.
abbrev pub HasReadLines : State → List ℕ → Option (List ℕ) → List Line → Type 0
HasReadLines state gave left lines =
    (IsReading state × HasRead true start state gave lines × (octets_taken state ≡ length gave))
    ⊎ ((state ≡ Ended hows.End) × NothingLeft left × Comes true true start gave (of_lines lines hows.End))
