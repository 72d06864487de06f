-- What a move adds is of the pass that makes it.
use Rattle.std.proofs.Common.{◌≡◌, ℕ, List, [], ◌∷◌, ◌++◌, refl, sym, ap, ◌∙◌, append_assoc, inl, inr}
use Rattle.savi_kinds.specs.declared.plan.Plan.{Plan}
use Rattle.savi_kinds.specs.declared.entry.Who.{Who}
use Rattle.hist_store.specs.Rows.{Row}
use Rattle.checkpoint.specs.Bases.{Base}
use Rattle.savi_history.specs.Events.{Event, Frame, Long, Command, Tick, Drain, End, row_of}
use Rattle.savi_history.specs.Passes.{pass_of}
use Rattle.live_turns.specs.Rounds.{AreOwn, MadeBy}
use Rattle.live_turns.specs.TurnKinds.{maker_of}
use Rattle.live_turns.proofs.Entering.{MakesOne}

pub by_maker : (plan : Plan) (base : Base) (past : List Row) (event : Event) → (row_of plan base past event).entry.by ≡ pass_of plan (maker_of event)
by_maker plan base past (Frame port stamp octets) = refl
by_maker plan base past (Long port stamp len) = refl
by_maker plan base past (Command stamp line) = refl
by_maker plan base past (Tick stamp) = refl
by_maker plan base past (Drain port count) = refl
by_maker plan base past (End who how) = refl

module _ (plan : Plan) (base : Base) (past now : List Row) where
  pub made_by : (who : Who) → MakesOne plan base past now who → MadeBy (pass_of plan who) past now
  made_by who (inl none) = record { newer = []; split = none; own = tt }
  made_by who (inr made) = record {
    newer = row_of plan base past made.0 ∷ [];
    split = made.2;
    own = (by_maker plan base past made.0 ∙ ap (pass_of plan) made.1, tt);
  }

-- one move behind another
own_both : (pass : ℕ) (later newer : List Row) → AreOwn pass later → AreOwn pass newer → AreOwn pass (later ++ newer)
own_both pass [] newer own others = others
own_both pass (r ∷ later) newer own others = (own.0, own_both pass later newer own.1 others)

pub made_both : (pass : ℕ) (past mid now : List Row) → MadeBy pass past mid → MadeBy pass mid now → MadeBy pass past now
made_both pass past mid now one two = record {
  newer = two.newer ++ one.newer;
  split = two.split ∙ ap (λ (rows : List Row). two.newer ++ rows) one.split ∙ sym (append_assoc two.newer one.newer past);
  own = own_both pass two.newer one.newer two.own one.own;
}

pub made_none : (pass : ℕ) (past : List Row) → MadeBy pass past past
made_none pass past = record { newer = []; split = refl; own = tt }
