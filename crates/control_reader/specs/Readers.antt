-- The reader of control: what it leaves.
use Rattle.std.specs.Prelude.{◌≡◌, ℕ, List, Option}
use Rattle.intake_ring.specs.Sides.{filler_ring}
use Rattle.control_reader.specs.Heard.{lines_put}
use Rattle.control_reader.specs.Rows.{WerePut}
use Rattle.control_reader.specs.declared.reader.LineReader.{LineReader}

-- All of control's input was put into the ring, up to the first `quit`, and last how it ended.
pub record HasFilledLines {S C : Type 0} (left : S → Option (List ℕ)) (faults : S → ℕ) (readings : C → Option (List ℕ))
    (old new : LineReader S C) : Type 0 where
  pub ring : filler_ring new.filler ≡ filler_ring old.filler
  pub put : WerePut left faults readings (lines_put new.filler) old.source new.source old.clock new.clock
