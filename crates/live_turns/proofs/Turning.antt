-- A turn at the lock: what it finds, and what the pass knows behind it.
use Rattle.std.proofs.Common.{◌≡◌, ℕ, Bool, List, [], ◌∷◌, ◌++◌, ap, sym, ◌∙◌, subst, inl, inr}
use Rattle.savi_kinds.specs.declared.plan.Plan.{Plan}
use Rattle.savi_kinds.specs.declared.entry.Who.{Who}
use Rattle.table_lock.specs.declared.lock.TableLock.{TableLock}
use Rattle.table_lock.specs.declared.pass.Pass.{Pass}
use Rattle.table_lock.specs.Entries.{EntryList, StartsWith, mine}
use Rattle.table_lock.specs.Passes.{IsPassOf, lock_first, pass_number, pass_own, pass_seen, pass_sleeps_at}
use Rattle.table_lock.specs.Turns.{IsOrGrowsBy}
use Rattle.hist_store.specs.Rows.{Row}
use Rattle.checkpoint.specs.Bases.{Base}
use Rattle.checkpoint.specs.Columns as columns
use Rattle.savi_history.specs.Events.{row_of}
use Rattle.savi_history.specs.Legal.{IsLegal, IsOpen}
use Rattle.savi_history.specs.Passes.{has_ended, pass_of}
use Rattle.savi_core.specs.Machines.{base_of}
use Rattle.core_keep.specs.declared.keep.KeptCore.{KeptCore}
use Rattle.core_keep.specs.Pasts.{coded, decoded}
use Rattle.core_keep.specs.RowCodes.{row_code}
use Rattle.core_keep.specs.Seen.{IsLater, past_seen}
use Rattle.core_keep.proofs.Goings.{later_of}
use Rattle.core_keep.proofs.PastsRead.{past_again}
use Rattle.core_keep.proofs.BasesApart.{one_fixed}
use Rattle.live_turns.specs.Seats.{IsAt, IsRunning, kept_fixed, lock_base, lock_plan}
use Rattle.live_turns.specs.Turned.{Turned}
use Rattle.live_turns.proofs.Entering.{MakesOne}
use Rattle.live_turns.proofs.MadeOnly.{by_maker}
use Rattle.live_turns.proofs.Seating.{ended_stays}

-- what a turn of this pass finds
pub record Finds (lock : TableLock KeptCore) (who : Who) (before : Pass) (kept : KeptCore) : Type 0 where
  pub plan_is : kept.core.value.plan ≡ lock_plan lock
  pub base_is : base_of kept.core.value ≡ lock_base lock
  pub later : IsLater (pass_of (lock_plan lock) who) (past_seen before) kept.core.value.past
  pub opens : IsOpen kept.core.value.plan (base_of kept.core.value) kept.core.value.past who

-- the pass that has left is one of this lock
pub left_of : (lock here : TableLock KeptCore) (left after : Pass) → here ≡ lock → after ≡ left → IsPassOf kept_fixed here left → IsPassOf kept_fixed lock after
left_of lock here left after same_lock same of =
    subst (λ (l : TableLock KeptCore). IsPassOf kept_fixed l after) same_lock (subst (λ (p : Pass). IsPassOf kept_fixed here p) (sym same) of)

module _ (lock : TableLock KeptCore) (who : Who) (before : Pass) (running : IsRunning lock who before) where
  pub finds : (pass : Pass) (kept : KeptCore) (seen : EntryList) → pass ≡ before
      → coded kept.core.value.past ≡ seen → StartsWith seen (pass_seen pass) → mine (pass_number pass) seen ≡ pass_own pass
      → kept_fixed kept ≡ kept_fixed (lock_first lock) → Finds lock who before kept
  finds pass kept seen same at extends own fixed =
      let one = one_fixed kept.core.value.plan (lock_plan lock) kept.core.value.checkpoint (lock_first lock).core.value.checkpoint fixed in
      let base_is : base_of kept.core.value ≡ lock_base lock = ap columns.kept_base one.1 in
      let past_is : decoded seen ≡ kept.core.value.past = sym (ap decoded at) ∙ past_again kept.core.value.past in
      let went : IsLater (pass_number pass) (past_seen pass) (decoded seen) = later_of (pass_number pass) (pass_seen pass) seen extends own in
      let here : IsLater (pass_number before) (past_seen before) (decoded seen) = subst (λ (p : Pass). IsLater (pass_number p) (past_seen p) (decoded seen)) same went in
      let numbered : IsLater (pass_of (lock_plan lock) who) (past_seen before) (decoded seen) = subst (λ (n : ℕ). IsLater n (past_seen before) (decoded seen)) running.number_is here in
      let later : IsLater (pass_of (lock_plan lock) who) (past_seen before) kept.core.value.past = subst (λ (rows : List Row). IsLater (pass_of (lock_plan lock) who) (past_seen before) rows) past_is numbered in
      let opens : IsOpen (lock_plan lock) (lock_base lock) kept.core.value.past who = record {
        known = running.known;
        running = ended_stays (lock_base lock) (pass_of (lock_plan lock) who) (past_seen before) kept.core.value.past later ∙ running.state;
      } in
      record {
        plan_is = one.0;
        base_is = base_is;
        later = later;
        opens = subst (λ (t : Plan × Base). IsOpen t.0 t.1 kept.core.value.past who) (λ i. (sym one.0 i, sym base_is i)) opens;
      }

  -- the pass may leave: it made one entry of its own at most
  pub may_leave : (pass : Pass) (number : ℕ) (kept new : KeptCore) (seen : EntryList) → pass ≡ before → number ≡ pass_number pass
      → Finds lock who before kept → coded kept.core.value.past ≡ seen
      → MakesOne kept.core.value.plan (base_of kept.core.value) kept.core.value.past new.core.value.past who
      → IsOrGrowsBy number seen (coded new.core.value.past)
  may_leave pass number kept new seen same numbered found at (inl none) = inl (ap coded none ∙ at)
  may_leave pass number kept new seen same numbered found at (inr made) =
      let row = row_of kept.core.value.plan (base_of kept.core.value) kept.core.value.past made.0 in
      let by : row.entry.by ≡ number =
      by_maker kept.core.value.plan (base_of kept.core.value) kept.core.value.past made.0
      ∙ ap (pass_of kept.core.value.plan) made.1
      ∙ ap (λ (p : Plan). pass_of p who) found.plan_is
      ∙ sym (numbered ∙ ap pass_number same ∙ running.number_is) in
      inr (row_code row, by, ap coded made.2 ∙ ap (λ (h : EntryList). h ++ row_code row ∷ []) at)

  module _ (kept new : KeptCore) (after : Pass) (found : Finds lock who before kept) (seen : pass_seen after ≡ coded new.core.value.past) where
    now_is : past_seen after ≡ new.core.value.past
    now_is = ap decoded seen ∙ past_again new.core.value.past

    pub turned : (Does : Plan → Base → List Row → List Row → Type 0) → IsLegal kept.core.value.plan (base_of kept.core.value) kept.core.value.past
        → Does kept.core.value.plan (base_of kept.core.value) kept.core.value.past new.core.value.past → Turned lock who before after Does
    turned Does legal did = record {
      found = kept.core.value.past;
      later = found.later;
      legal = subst (λ (t : Plan × Base). IsLegal t.0 t.1 kept.core.value.past) (λ i. (found.plan_is i, found.base_is i)) legal;
      did = subst (λ (rows : List Row). Does (lock_plan lock) (lock_base lock) kept.core.value.past rows) (sym now_is)
          (subst (λ (t : Plan × Base). Does t.0 t.1 kept.core.value.past new.core.value.past) (λ i. (found.plan_is i, found.base_is i)) did);
    }

    pub stands : (pass : Pass) (number : ℕ) (ended : Bool) → pass ≡ before → number ≡ pass_number pass
        → IsPassOf kept_fixed lock after → pass_number after ≡ number → pass_sleeps_at after ≡ pass_sleeps_at pass
        → has_ended (base_of kept.core.value) (pass_of kept.core.value.plan who) new.core.value.past ≡ ended → IsAt lock who ended after
    stands pass number ended same numbered of after_number placed state = record {
      of = of;
      known = running.known;
      number_is = after_number ∙ numbered ∙ ap pass_number same ∙ running.number_is;
      sleeps = placed ∙ ap pass_sleeps_at same ∙ running.sleeps;
      state = ap (has_ended (lock_base lock) (pass_of (lock_plan lock) who)) now_is
          ∙ (λ i. has_ended (sym found.base_is i) (pass_of (sym found.plan_is i) who) new.core.value.past) ∙ state;
    }
