-- What a turn of control, or a move of it, adds to what segments tell, and what became of a line at the sink. `before` and
-- `now` are the rows of the newest segment, which goes on from `base`.
use Rattle.std.specs.Prelude.{◌≡◌, ◌≤◌, ℕ, List, [], ◌∷◌, ◌++◌, Option, Some, None}
use Rattle.savi_kinds.specs.declared.plan.Plan.{Plan}
use Rattle.savi_kinds.specs.declared.entry.How.{How}
use Rattle.cli_lang.specs.Arrivals.{Line}
use Rattle.hist_store.specs.Rows.{Row}
use Rattle.checkpoint.specs.Bases.{Base}
use Rattle.savi_history.specs.ControlInputs.{control_end, entered_lines, is_quit}
use Rattle.savi_history.specs.ControlOutputs.{replies}
use Rattle.savi_segments.specs.Unbroken.{unbroken}
use Rattle.live_control.specs.Replying.{TakesReply}
use Rattle.live_control.specs.declared.state.ControlState.{ControlState}
use Rattle.live_control.specs.declared.state.ControlState.TheVariants as states

-- the line of these octets
abbrev pub line_told : ℕ → List ℕ → Line
line_told stamp octets = record { stamp = stamp; command = octets }

-- what segments tell of control's input: the lines that were entered, and how it ended for good
abbrev pub told_of_control : List (List Row) → List Line × Option How
told_of_control segments = (entered_lines (unbroken segments), control_end (unbroken segments))

-- how control has ended, where a turn has ended it so, or hasn't
abbrev pub ended_or : Option How → Option How → Option How
ended_or None before = before
ended_or (Some how) before = Some how

-- nothing more is told of control: it goes on, or is paused
pub record TellsSameLines (plan : Plan) (base : Base) (before now : List Row) : Type 0 where
  pub told : (earlier : List (List Row)) → told_of_control (now ∷ earlier) ≡ told_of_control (before ∷ earlier)
  pub replied : replies plan base now ≡ replies plan base before

-- control has ended so, behind the lines that were entered
pub record EndsControl (plan : Plan) (base : Base) (how : How) (before now : List Row) : Type 0 where
  pub told : (earlier : List (List Row)) → told_of_control (now ∷ earlier) ≡ (entered_lines (unbroken (before ∷ earlier)), Some how)
  pub replied : replies plan base now ≡ replies plan base before

-- the line was entered, and this is the reply to it
pub record AddsLine (plan : Plan) (base : Base) (line : Line) (reply : List ℕ) (before now : List Row) : Type 0 where
  pub told : (earlier : List (List Row)) → told_of_control (now ∷ earlier) ≡ (entered_lines (unbroken (before ∷ earlier)) ++ line ∷ [], control_end (unbroken (before ∷ earlier)))
  pub replied : replies plan base now ≡ replies plan base before ++ reply ∷ []

-- the line was entered and replied to, and control has ended so behind it, or goes on
pub record IsAnswered {K : Type 0} (written : K → Option (List ℕ)) (faults : K → ℕ) (plan : Plan) (base : Base) (line : Line)
    (before now : List Row) (old new : K) (ended : Option How) : Type 0 where
  pub reply : List ℕ
  pub told : (earlier : List (List Row))
      → told_of_control (now ∷ earlier) ≡ (entered_lines (unbroken (before ∷ earlier)) ++ line ∷ [], ended_or ended (control_end (unbroken (before ∷ earlier))))
  pub replied : replies plan base now ≡ replies plan base before ++ reply ∷ []
  pub took : TakesReply (is_quit line) (written old) (written new) (faults old) (faults new) reply ended
  pub later : faults old ≤ faults new

-- The line was answered and control goes on; or there was no room for it, and control is paused; or control has ended behind
-- the answer.
abbrev pub AnswersLine : {K : Type 0} → (K → Option (List ℕ)) → (K → ℕ) → Plan → Base → Line → ControlState → List Row → List Row → K → K → Type 0
AnswersLine written faults plan base line states.Open before now old new = IsAnswered written faults plan base line before now old new None
AnswersLine written faults plan base line states.Paused before now old new = TellsSameLines plan base before now × (new ≡ old)
AnswersLine written faults plan base line (states.Ended how) before now old new = IsAnswered written faults plan base line before now old new (Some how)
