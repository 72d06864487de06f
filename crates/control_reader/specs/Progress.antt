-- What was put of control's input while its reader goes on.
use Rattle.std.specs.Prelude.{◌≡◌, ◌≢◌, ℕ, Bool, true, false, List, Option}
use Rattle.savi_kinds.specs.declared.entry.How.TheVariants as hows
use Rattle.savi_ends.specs.Octets.{Takes}
use Rattle.stream_io.specs.Calls.{AddsReadings}
use Rattle.cli_lang.specs.Arrivals.{Line}
use Rattle.cli_lang.specs.Readers as readers
use Rattle.savi_history.specs.ControlFits.{HasNoQuit}
use Rattle.control_reader.specs.Heard.{HeardLine, all_said}
use Rattle.control_reader.specs.LiveLines.{line_stamps}
use Rattle.control_reader.specs.Reading.{HasReadLines}
use Rattle.control_reader.specs.Rows.{WerePut}
use Rattle.control_reader.specs.declared.reader.LineInput.{LineInput}

module _ {S C : Type 0} (left : S → Option (List ℕ)) (faults : S → ℕ) (readings : C → Option (List ℕ)) where
  -- What was read of control's input, from its first source and clock on, is what was put: lines, none of which is `quit`,
  -- each stamped by the clock. No read has failed.
  pub record GoesOn (source : S) (clock : C) (input : LineInput S C) (put : List HeardLine) : Type 0 where
    pub said : List Line
    pub given : put ≡ all_said said
    pub gave : List ℕ
    pub takes : Takes (left source) (left input.source) gave
    pub read : HasReadLines input.lines gave (left input.source) said
    pub none : HasNoQuit said
    pub stamped : AddsReadings (readings clock) (readings input.clock) (line_stamps said)
    pub still : faults input.source ≡ faults source
    pub unbroken : input.lines ≢ readers.Ended hows.Failed

  -- the reading goes on, or is over
  abbrev pub GoesOnOrEnds : S → C → LineInput S C → List HeardLine → Bool → Type 0
  GoesOnOrEnds source clock input put true = GoesOn source clock input put
  GoesOnOrEnds source clock input put false = WerePut left faults readings put source input.source clock input.clock
