-- The marks of one address, and what they make of its state.
use Rattle.std.proofs.Common.{◌≡◌, ◌==◌, ℕ, ◌≤◌, true, false, Option, Some, List, [], ◌∷◌, ◌++◌, refl, sym, ◌∙◌, ap, subst, inl, inr, arith}
use Rattle.std.proofs.lemmas.Bool.{cases_Bool, and_parts, eqb-true}
use Rattle.savi_kinds.specs.declared.plan.Method.{Method}
use Rattle.fcfs_states.specs.declared.times.Times.{Times}
use Rattle.fcfs_states.specs.FirstCome.{TimedEvent, event_moment}
use Rattle.mix_rules.specs.declared.state.AddrState.{AddrState}
use Rattle.savi_kinds.specs.Orders.{AreInTurn}
use Rattle.mix_rules.specs.FirstCome.{outcome, state_of as run_of}
use Rattle.savi_access.specs.Rows.{state_in}
use Rattle.savi_access.specs.Bases.{AddrRules, AddrBase}
use Rattle.savi_access.specs.NamedMarks.{Named, mark_of, names, marks_on, named_moment}
use Rattle.savi_access.specs.States.{outcome_by, outcome_of, state_of}

-- marks of one address, from a state
abbrev pub moved_by : Option Method → Times → AddrState → List TimedEvent → AddrState
moved_by method k s [] = s
moved_by method k s (mark ∷ past) = (outcome_by method k mark (moved_by method k s past)).1

pub moved-run : (m : Method) (k : Times) (s : AddrState) (marks : List TimedEvent) → moved_by (Some m) k s marks ≡ run_of m k s marks
moved-run m k s [] = refl
moved-run m k s (mark ∷ past) = ap (λ state. (outcome m k mark state).1) (moved-run m k s past)

module _ (vlan a : ℕ) where
  pub marks_on-own : (named : Named) (past : List Named) → names vlan a named ≡ true → marks_on vlan a (named ∷ past) ≡ mark_of named ∷ marks_on vlan a past
  marks_on-own named past is = rw is refl

  pub marks_on-other : (named : Named) (past : List Named) → names vlan a named ≡ false → marks_on vlan a (named ∷ past) ≡ marks_on vlan a past
  marks_on-other named past is = rw is refl

  pub marks_on-append : (late early : List Named) → marks_on vlan a (late ++ early) ≡ marks_on vlan a late ++ marks_on vlan a early
  marks_on-append [] early = refl
  marks_on-append (named ∷ late) early =
      elim (cases_Bool (names vlan a named)) [
        | inl is ↦ marks_on-own named (late ++ early) is ∙ ap (λ marks. mark_of named ∷ marks) (marks_on-append late early) ∙ sym (ap (λ marks. marks ++ marks_on vlan a early) (marks_on-own named late is))
        | inr not ↦ marks_on-other named (late ++ early) not ∙ marks_on-append late early ∙ sym (ap (λ marks. marks ++ marks_on vlan a early) (marks_on-other named late not))
      ]

  run-later : (from t u : ℕ) (marks : List TimedEvent) → t ≤ u → AreInTurn event_moment from t marks → AreInTurn event_moment from u marks
  run-later from t u [] after run = omega (arith, after, run)
  run-later from t u (mark ∷ past) after run = (omega (arith, after, run.0), run.1)

  pub run_on : (from t : ℕ) (past : List Named) → AreInTurn named_moment from t past → AreInTurn event_moment from t (marks_on vlan a past)
  run_on from t [] turn = turn
  run_on from t (named ∷ past) turn =
      elim (cases_Bool (names vlan a named)) [
        | inl is ↦ subst (AreInTurn event_moment from t) (sym (marks_on-own named past is)) (turn.0, run_on from named.moment past turn.1)
        | inr not ↦ subst (AreInTurn event_moment from t) (sym (marks_on-other named past not)) (run-later from named.moment t (marks_on vlan a past) turn.0 (run_on from named.moment past turn.1))
      ]

module _ (r : AddrRules) (base : AddrBase) (vlan a : ℕ) where
  pub state_of-own : (named : Named) (past : List Named) → names vlan a named ≡ true → state_of r base (named ∷ past) vlan a ≡ (outcome_by (r.method_of vlan a) r.times (mark_of named) (state_of r base past vlan a)).1
  state_of-own named past is =
      let both : ((named.vlan == vlan) ≡ true) × ((named.address == a) ≡ true) = and_parts (named.vlan == vlan) (named.address == a) is in
      let s : AddrState = state_of r base past vlan a in
      let named_it : state_of r base (named ∷ past) vlan a ≡ (outcome_of r named s).1 = rw is refl in
      named_it
      ∙ ap (λ v. (outcome_by (r.method_of v named.address) r.times (mark_of named) s).1) (eqb-true named.vlan vlan both.0)
      ∙ ap (λ n. (outcome_by (r.method_of vlan n) r.times (mark_of named) s).1) (eqb-true named.address a both.1)

  pub state_of-other : (named : Named) (past : List Named) → names vlan a named ≡ false → state_of r base (named ∷ past) vlan a ≡ state_of r base past vlan a
  state_of-other named past is = rw is refl

  -- an address sees its own marks
  pub own_marks : (past : List Named) → state_of r base past vlan a ≡ moved_by (r.method_of vlan a) r.times (state_in (base.rows vlan) a) (marks_on vlan a past)
  own_marks [] = refl
  own_marks (named ∷ past) =
      elim (cases_Bool (names vlan a named)) [
        | inl is ↦
            state_of-own named past is
            ∙ ap (λ s. (outcome_by (r.method_of vlan a) r.times (mark_of named) s).1) (own_marks past)
            ∙ sym (ap (moved_by (r.method_of vlan a) r.times (state_in (base.rows vlan) a)) (marks_on-own vlan a named past is))
        | inr not ↦
            state_of-other named past not
            ∙ own_marks past
            ∙ sym (ap (moved_by (r.method_of vlan a) r.times (state_in (base.rows vlan) a)) (marks_on-other vlan a named past not))
      ]

  pub own_run : (m : Method) (past : List Named) → r.method_of vlan a ≡ Some m → state_of r base past vlan a ≡ run_of m r.times (state_in (base.rows vlan) a) (marks_on vlan a past)
  own_run m past is =
      own_marks past
      ∙ ap (λ method. moved_by method r.times (state_in (base.rows vlan) a) (marks_on vlan a past)) is
      ∙ moved-run m r.times (state_in (base.rows vlan) a) (marks_on vlan a past)

  pub same_marks : (past other : List Named) → marks_on vlan a past ≡ marks_on vlan a other → state_of r base past vlan a ≡ state_of r base other vlan a
  same_marks past other same = own_marks past ∙ ap (moved_by (r.method_of vlan a) r.times (state_in (base.rows vlan) a)) same ∙ sym (own_marks other)
