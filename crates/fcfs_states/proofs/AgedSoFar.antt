-- A state that was aged by some rows, and still has rows to come.
use Rattle.std.proofs.Common.{◌≡◌, ℕ, ◌+◌, ◌<◌, ◌≤◌, ◌^◌, Bool, true, false, Some, None, List, [], ◌∷◌, ◌++◌, length, length-append, append_assoc, append-nil, refl, ◌∙◌, ap, arith}
use Rattle.fcfs_states.specs.declared.answer.Probe.{Probe}
use Rattle.fcfs_states.specs.declared.state.Fcfs.{Fcfs}
use Rattle.fcfs_states.specs.declared.state.Fcfs.TheVariants.{NoBind, Tentative, Valid, TestLt, TestVp}
use Rattle.fcfs_states.specs.declared.times.Times.{Times}
use Rattle.fcfs_states.specs.Premises.{AreTimes, MomentsFit}
use Rattle.fcfs_states.specs.Ageing.{Ages, rests, goes_on as more, probes_behind, IsRested}
use Rattle.fcfs_states.specs.Aged.{due_of, after_due, probe_sent}
use Rattle.fcfs_states.proofs.AgeingLemmas.{rank, probes_left, rank-passed, first_row, earliest}

pub record AgedSoFar (k : Times) (t : ℕ) (old now : Fcfs) (probes : List (ℕ × Probe)) (changed : Bool) : Type 0 where
  -- what the rows to come do is done probes_behind what was done
  pub goes_on : (later : List (ℕ × Probe)) (new : Fcfs) → Ages k t now later new → Ages k t old (probes ++ later) new
  pub few : length probes + probes_left now ≤ 3
  pub lower : changed ≡ true → rank now < rank old
  pub same : changed ≡ false → now ≡ old
  pub fits : MomentsFit now

module _ (k : Times) where
  probes_left-passed : (state : Fcfs) (due : ℕ) → due_of k state ≡ Some due → probes_left (after_due k due state) + length (probes_behind due (probe_sent state) []) ≡ probes_left state
  probes_left-passed NoBind due e = cc
  probes_left-passed (Tentative p since true) due e = refl
  probes_left-passed (Tentative p since false) due e = refl
  probes_left-passed (Valid p until) due e = refl
  probes_left-passed (TestLt p since true) due e = refl
  probes_left-passed (TestLt p since false) due e = refl
  probes_left-passed (TestVp p q since true) due e = refl
  probes_left-passed (TestVp p q since false) due e = refl

  passed_fits : AreTimes k → (state : Fcfs) (due : ℕ) → due ≤ 2 ^ 62 → MomentsFit state → MomentsFit (after_due k due state)
  passed_fits times NoBind due early fits = tt
  passed_fits times (Tentative p since true) due early fits = fits
  passed_fits times (Tentative p since false) due early fits = omega arith
  passed_fits times (Valid p until) due early fits = omega arith
  passed_fits times (TestLt p since true) due early fits = fits
  passed_fits times (TestLt p since false) due early fits = tt
  passed_fits times (TestVp p q since true) due early fits = fits
  passed_fits times (TestVp p q since false) due early fits = omega arith

  module _ (times : AreTimes k) (t : ℕ) (early : t ≤ 2 ^ 62) (old now : Fcfs) (probes : List (ℕ × Probe)) (changed : Bool) (so_far : AgedSoFar k t old now probes changed) where
    module _ (due : ℕ) (due_is : due_of k now ≡ Some due) (by : due ≤ t) where
      -- a row more
      one_more : (later : List (ℕ × Probe)) (new : Fcfs) → Ages k t (after_due k due now) later new → Ages k t old (probes ++ probes_behind due (probe_sent now) later) new
      one_more later new ages = so_far.goes_on (probes_behind due (probe_sent now) later) new (more (first_row k now due due_is) by (earliest k times now due due_is) ages)

      rank_most : (b : Bool) → changed ≡ b → rank now ≤ rank old
      rank_most true is = let lower : rank now < rank old = so_far.lower is in omega arith
      rank_most false is = let same : rank now ≡ rank old = ap rank (so_far.same is) in omega arith

      rank_less : rank (after_due k due now) < rank old
      rank_less =
          let left : rank (after_due k due now) + 1 ≡ rank now = rank-passed k now due due_is in
          let most : rank now ≤ rank old = rank_most changed refl in
          omega arith

      pub with_probe : (new : Fcfs) (probe : Probe) (after : List (ℕ × Probe)) → new ≡ after_due k due now → probe_sent now ≡ Some probe → after ≡ probes ++ (due, probe) ∷ [] → AgedSoFar k t old new after true
      with_probe new probe after new_is probe_is after_is =
          let left : probes_left (after_due k due now) + length (probes_behind due (probe_sent now) []) ≡ probes_left now = probes_left-passed now due due_is in
          let left_one : probes_left (after_due k due now) + 1 ≡ probes_left now = rw probe_is at left in
          let longer : length after ≡ length probes + 1 = ap length after_is ∙ length-append probes ((due, probe) ∷ []) in
          rw new_is (record {
            goes_on = λ later end ages. let all : Ages k t old (probes ++ (due, probe) ∷ later) end = rw probe_is at (one_more later end ages) in rw (after_is, append_assoc) all;
            few = let so : length probes + probes_left now ≤ 3 = so_far.few in omega arith;
            lower = λ _. rank_less;
            same = λ is. cc;
            fits = passed_fits times now due (omega arith) so_far.fits;
          })

      pub without_probe : (new : Fcfs) → new ≡ after_due k due now → probe_sent now ≡ None → AgedSoFar k t old new probes true
      without_probe new new_is probe_is =
          let left : probes_left (after_due k due now) + length (probes_behind due (probe_sent now) []) ≡ probes_left now = probes_left-passed now due due_is in
          let left_same : probes_left (after_due k due now) + 0 ≡ probes_left now = rw probe_is at left in
          rw new_is (record {
            goes_on = λ later end ages. rw probe_is at (one_more later end ages);
            few = let so : length probes + probes_left now ≤ 3 = so_far.few in omega arith;
            lower = λ _. rank_less;
            same = λ is. cc;
            fits = passed_fits times now due (omega arith) so_far.fits;
          })

    -- no more rows
    pub all_done : IsRested k t now → Ages k t old probes now
    all_done rest = rw append-nil at (so_far.goes_on [] now (rests rest))
