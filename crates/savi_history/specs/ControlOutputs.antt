-- What a history says of control's output: the replies, and what a sink that took them has taken.
use Rattle.std.specs.Prelude.{◌≡◌, ℕ, List, [], ◌∷◌, ◌++◌, Option, Some, None}
use Rattle.std.specs.List.{concat}
use Rattle.savi_kinds.specs.declared.plan.Plan.{Plan}
use Rattle.savi_kinds.specs.declared.entry.Act.{Act}
use Rattle.savi_kinds.specs.declared.entry.Act.TheVariants as acts
use Rattle.savi_kinds.specs.declared.entry.How.{How}
use Rattle.savi_kinds.specs.declared.entry.How.TheVariants as hows
use Rattle.savi_ends.specs.Octets.{behind, IsFront}
use Rattle.hist_store.specs.Rows.{Row}
use Rattle.checkpoint.specs.Bases.{Base}
use Rattle.savi_history.specs.ControlInputs.{control_end}
use Rattle.savi_history.specs.Shown.{shown}

-- the reply to the newest entry of a history, where this act of it is that of a line
abbrev pub reply_by : Plan → Base → List Row → Act → List (List ℕ)
reply_by plan base past (acts.Frame port stamp at len) = []
reply_by plan base past (acts.Long port stamp len) = []
reply_by plan base past (acts.Tick stamp) = []
reply_by plan base past (acts.Command stamp at len) = shown plan base past ∷ []
reply_by plan base past (acts.Drain port count) = []
reply_by plan base past (acts.End who how) = []

-- the replies to the lines that were entered, the oldest first
abbrev pub replies : Plan → Base → List Row → List (List ℕ)
replies plan base [] = []
replies plan base (r ∷ past) = replies plan base past ++ reply_by plan base (r ∷ past) r.entry.act

-- a sink took all of these replies but the last one, and a front of that one
pub record IsUnwritten (before after : Option (List ℕ)) (replies : List (List ℕ)) : Type 0 where
  pub written : List (List ℕ)
  pub last : List ℕ
  pub all : replies ≡ written ++ last ∷ []
  pub front : List ℕ
  pub part : IsFront front last
  pub took : after ≡ behind before (concat written ++ front)

-- What a sink took is the replies, by how control ended: all of them; or, where one could not be written, a front of them.
abbrev pub FitsReplies : Option (List ℕ) → Option (List ℕ) → List (List ℕ) → Option How → Type 0
FitsReplies before after replies (Some hows.End) = after ≡ behind before (concat replies)
FitsReplies before after replies (Some hows.Quit) = after ≡ behind before (concat replies)
FitsReplies before after replies (Some (hows.Malformed at)) = after ≡ behind before (concat replies)
FitsReplies before after replies (Some (hows.Overlong at)) = after ≡ behind before (concat replies)
FitsReplies before after replies (Some hows.Failed) = after ≡ behind before (concat replies)
FitsReplies before after replies (Some hows.Unwritten) = IsUnwritten before after replies
FitsReplies before after replies (Some hows.Paused) = after ≡ behind before (concat replies)
FitsReplies before after replies None = ⊥

-- the same after a history
abbrev pub FitsRepliesAt : Plan → Base → Option (List ℕ) → Option (List ℕ) → List Row → Type 0
FitsRepliesAt plan base before after past = FitsReplies before after (replies plan base past) (control_end past)
