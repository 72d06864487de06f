-- A pass that has ended stays so, and one that hasn't goes on so, while others make entries. What a turn did to it.
use Rattle.std.proofs.Common.{◌≡◌, ℕ, ◌&&◌, ◌||◌, Bool, List, [], ◌∷◌, ◌++◌, refl, ap, sym, ◌∙◌, None}
use Rattle.std.proofs.Math.Bool.{and-false, false-or}
use Rattle.savi_kinds.specs.declared.entry.Who.{Who}
use Rattle.table_lock.specs.declared.lock.TableLock.{TableLock}
use Rattle.table_lock.specs.declared.pass.Pass.{Pass}
use Rattle.table_lock.specs.Passes.{pass_fixed, pass_number, pass_seen, pass_sleeps_at, pass_table}
use Rattle.hist_store.specs.Rows.{Row}
use Rattle.checkpoint.specs.Bases.{Base}
use Rattle.savi_history.specs.Passes.{has_ended, is_end, pass_of}
use Rattle.core_keep.specs.declared.keep.KeptCore.{KeptCore}
use Rattle.core_keep.specs.Pasts.{decoded}
use Rattle.core_keep.specs.Seen.{AreOthers, IsLater}
use Rattle.live_turns.specs.Seats.{IsNewPass, IsRunning, lock_base, lock_plan, sleeps_at}

ended_behind : (base : Base) (pass : ℕ) (newer past : List Row) → AreOthers pass newer → has_ended base pass (newer ++ past) ≡ has_ended base pass past
ended_behind base pass [] past others = refl
ended_behind base pass (r ∷ newer) past others =
    ap (λ (b : Bool). (is_end r.entry.act && b) || has_ended base pass (newer ++ past)) others.0
    ∙ ap (λ (b : Bool). b || has_ended base pass (newer ++ past)) (and-false (is_end r.entry.act))
    ∙ false-or (has_ended base pass (newer ++ past))
    ∙ ended_behind base pass newer past others.1

pub ended_stays : (base : Base) (pass : ℕ) (before now : List Row) → IsLater pass before now → has_ended base pass now ≡ has_ended base pass before
ended_stays base pass before now later = ap (has_ended base pass) later.split ∙ ended_behind base pass later.newer before later.others

-- a pass that is new may take a turn, where its worker sleeps nowhere
pub new_runs : (lock : TableLock KeptCore) (who : Who) (pass : Pass) → sleeps_at who ≡ None → IsNewPass lock who pass → IsRunning lock who pass
new_runs lock who pass awake new = record {
  of = new.dealt.of;
  known = new.dealt.known;
  number_is = new.dealt.number_is;
  sleeps = new.dealt.placeless ∙ sym awake;
  state = ap (has_ended (lock_base lock) (pass_of (lock_plan lock) who)) new.dealt.nothing ∙ new.open_in;
}

-- and where the worker sleeps once its pass was given that place
pub placed_runs : (lock : TableLock KeptCore) (who : Who) (new placed : Pass) → pass_table placed ≡ pass_table new → pass_fixed placed ≡ pass_fixed new
    → pass_number placed ≡ pass_number new → pass_seen placed ≡ pass_seen new → pass_sleeps_at placed ≡ sleeps_at who
    → IsNewPass lock who new → IsRunning lock who placed
placed_runs lock who new placed table fixed number seen place is = record {
  of = (table ∙ is.dealt.of.0, fixed ∙ is.dealt.of.1);
  known = is.dealt.known;
  number_is = number ∙ is.dealt.number_is;
  sleeps = place;
  state = ap (has_ended (lock_base lock) (pass_of (lock_plan lock) who)) (ap decoded seen ∙ is.dealt.nothing) ∙ is.open_in;
}
