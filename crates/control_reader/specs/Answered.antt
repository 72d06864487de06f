-- What was taken of control's input, by what was entered of it. `entered` are the lines that were entered, in order, and
-- `ended` is how control ended for good, if it did.
use Rattle.std.specs.Prelude.{◌≡◌, List, [], ◌∷◌, ◌++◌, Option, Some, None}
use Rattle.savi_kinds.specs.declared.entry.How.{How}
use Rattle.savi_kinds.specs.declared.entry.How.TheVariants as hows
use Rattle.cli_lang.specs.Arrivals.{Line}
use Rattle.savi_history.specs.ControlFits.{EndsAtQuit, HasNoQuit, HasNoQuitBefore}
use Rattle.control_reader.specs.Heard.{HeardLine, all_said, whole_lines}

-- what was taken and waits for room, if anything does
abbrev pub waiting_line : Option HeardLine → List HeardLine
waiting_line None = []
waiting_line (Some heard) = heard ∷ []

-- All that came was taken, and the end is the one that was taken, or that behind the first `quit`; or the reply to the last
-- line couldn't be written, and what came behind that line was passed over.
abbrev pub EndsSo : List Line → How → List HeardLine → Type 0
EndsSo entered hows.Unwritten taken = HasNoQuitBefore entered × (behind : List HeardLine) × (taken ≡ all_said entered ++ behind)
EndsSo entered hows.Quit taken = EndsAtQuit entered × (taken ≡ whole_lines entered hows.Quit)
EndsSo entered hows.End taken = HasNoQuit entered × (taken ≡ whole_lines entered hows.End)
EndsSo entered (hows.Malformed at) taken = HasNoQuit entered × (taken ≡ whole_lines entered (hows.Malformed at))
EndsSo entered (hows.Overlong at) taken = HasNoQuit entered × (taken ≡ whole_lines entered (hows.Overlong at))
EndsSo entered hows.Failed taken = HasNoQuit entered × (taken ≡ whole_lines entered hows.Failed)
EndsSo entered hows.Paused taken = ⊥

-- Of control's input was taken, in order, what was entered, and behind that what is kept until there is room. Once control
-- has ended nothing is kept.
abbrev pub AnswersSo : List Line → Option How → List HeardLine → Option HeardLine → Type 0
AnswersSo entered None taken kept = HasNoQuit entered × (taken ≡ all_said entered ++ waiting_line kept)
AnswersSo entered (Some how) taken kept = EndsSo entered how taken × (kept ≡ None)
