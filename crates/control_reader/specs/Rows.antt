-- What the reader of control leaves of its ends, by the lines that it put and how that ended.
use Rattle.std.specs.Prelude.{◌≡◌, ◌≢◌, ℕ, ◌+◌, ◌≤◌, true, List, ◌++◌, length, Option, Some}
use Rattle.savi_kinds.specs.declared.entry.How.{How}
use Rattle.savi_kinds.specs.declared.entry.How.TheVariants as hows
use Rattle.savi_ends.specs.Faults.{Rose}
use Rattle.savi_ends.specs.Octets.{Takes}
use Rattle.stream_io.specs.Calls.{AddsReadings}
use Rattle.cli_lang.specs.Arrivals.{Line}
use Rattle.cli_lang.specs.Readers.{IsFaultAt, longest_reach}
use Rattle.savi_history.specs.ControlFits.{AreFirst, FitsControl}
use Rattle.control_reader.specs.Heard.{HeardLine, whole_lines}
use Rattle.control_reader.specs.LiveLines.{AreLiveLines, line_stamps}

-- a reader of lines stops so: as its input ends, or behind `quit`
abbrev pub IsLinesEnd : How → Type 0
IsLinesEnd hows.End = Unit {0}
IsLinesEnd hows.Quit = Unit {0}
IsLinesEnd (hows.Malformed at) = Unit {0}
IsLinesEnd (hows.Overlong at) = Unit {0}
IsLinesEnd hows.Failed = Unit {0}
IsLinesEnd hows.Unwritten = ⊥
IsLinesEnd hows.Paused = ⊥

-- The readings of the clock are these stamps, one after the other; where a reply couldn't be written, and those of the lines
-- behind.
abbrev pub StampedTo : Option (List ℕ) → Option (List ℕ) → List ℕ → How → Type 0
StampedTo read read_more stamps hows.Unwritten = (behind : List ℕ) × AddsReadings read read_more (stamps ++ behind)
StampedTo read read_more stamps hows.End = AddsReadings read read_more stamps
StampedTo read read_more stamps hows.Quit = AddsReadings read read_more stamps
StampedTo read read_more stamps (hows.Malformed at) = AddsReadings read read_more stamps
StampedTo read read_more stamps (hows.Overlong at) = AddsReadings read read_more stamps
StampedTo read read_more stamps hows.Failed = AddsReadings read read_more stamps
StampedTo read read_more stamps hows.Paused = ⊥

-- The source of control: what it gave up are these lines, each once and in order, and it ended so, or the last one is the
-- first `quit`; from the place of a line at fault on it gave up no more than the reader of lines reaches. Its clock stamped
-- them, and was read for nothing else. It ended by a failed read exactly where its own faults rose.
pub record LinesRow {S C : Type 0} (left : S → Option (List ℕ)) (faults : S → ℕ) (readings : C → Option (List ℕ))
    (lines : List Line) (ending : How) (old_source new_source : S) (old_clock new_clock : C) : Type 0 where
  pub stops : IsLinesEnd ending
  pub gave : (octets : List ℕ) × Takes (left old_source) (left new_source) octets
  pub first : AreFirst (AreLiveLines true) (left old_source) lines
  pub fits : FitsControl AreLiveLines (left old_source) (left new_source) lines (Some ending)
  pub near : (at : ℕ) → IsFaultAt ending at → length gave.0 ≤ at + longest_reach
  pub stamped : AddsReadings (readings old_clock) (readings new_clock) (line_stamps lines)
  pub later : faults old_source ≤ faults new_source
  pub broken : ending ≡ hows.Failed → Rose (faults old_source) (faults new_source)
  pub still : ending ≢ hows.Failed → faults new_source ≡ faults old_source

module _ {S C : Type 0} (left : S → Option (List ℕ)) (faults : S → ℕ) (readings : C → Option (List ℕ)) where
  -- all lines of the input were put, and last how it ended, or those up to the first `quit`
  abbrev pub WerePut : List HeardLine → S → S → C → C → Type 0
  WerePut put old_source new_source old_clock new_clock =
      (lines : List Line) × (ending : How) × (put ≡ whole_lines lines ending)
      × LinesRow left faults readings lines ending old_source new_source old_clock new_clock

-- The source of control by the lines that were entered and how control ended: they are all of its lines up to that end.
-- Where a reply couldn't be written, more may have come behind them, and been stamped; and a read that failed then shows
-- nowhere.
pub record SourceRow {S C : Type 0} (left : S → Option (List ℕ)) (faults : S → ℕ) (readings : C → Option (List ℕ))
    (entered : List Line) (ending : How) (old_source new_source : S) (old_clock new_clock : C) : Type 0 where
  pub gave : (octets : List ℕ) × Takes (left old_source) (left new_source) octets
  pub fits : FitsControl AreLiveLines (left old_source) (left new_source) entered (Some ending)
  pub near : (at : ℕ) → IsFaultAt ending at → length gave.0 ≤ at + longest_reach
  pub stamped : StampedTo (readings old_clock) (readings new_clock) (line_stamps entered) ending
  pub later : faults old_source ≤ faults new_source
  pub broken : ending ≡ hows.Failed → Rose (faults old_source) (faults new_source)
  pub still : ending ≢ hows.Failed → ending ≢ hows.Unwritten → faults new_source ≡ faults old_source
