-- Which lines of control's input a replay enters, by how control ends for good.
use Rattle.std.specs.Prelude.{◌≡◌, List, ◌++◌, Option, Some, None}
use Rattle.savi_kinds.specs.declared.entry.How.{How}
use Rattle.savi_kinds.specs.declared.entry.How.TheVariants as hows
use Rattle.cli_lang.specs.Arrivals.{Line}
use Rattle.cli_lang.specs.Arrivals as control
use Rattle.savi_history.specs.ControlFits.{HasNoQuit, HasNoQuitBefore, EndsAtQuit}

-- all of the input, which ends so; none of its lines is `quit`
pub record AreAll (input : control.Input) (lines : List Line) (how : How) : Type 0 where
  pub all : lines ≡ input.arrivals
  pub ending : input.ending ≡ how
  pub none : HasNoQuit lines

-- those at the front of the input
abbrev pub AreFirst : control.Input → List Line → Type 0
AreFirst input lines = (behind : List Line) × (input.arrivals ≡ lines ++ behind)

-- control ends for good in no other way
abbrev pub AreEntered : control.Input → List Line → Option How → Type 0
AreEntered input lines (Some hows.End) = AreAll input lines hows.End
AreEntered input lines (Some (hows.Malformed at)) = AreAll input lines (hows.Malformed at)
AreEntered input lines (Some (hows.Overlong at)) = AreAll input lines (hows.Overlong at)
AreEntered input lines (Some hows.Failed) = AreAll input lines hows.Failed
AreEntered input lines (Some hows.Paused) = ⊥
AreEntered input lines (Some hows.Quit) = AreFirst input lines × EndsAtQuit lines
AreEntered input lines (Some hows.Unwritten) = AreFirst input lines × HasNoQuitBefore lines
AreEntered input lines None = ⊥
