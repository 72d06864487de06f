-- Whole runs of events: a test stands in silence, and a live address leaves its port only by such a test.
use Rattle.std.proofs.Common.{◌≡◌, ℕ, ◌+◌, ◌<◌, ◌≤◌, Bool, ◌⊎◌, inl, inr, sym, ◌∙◌, ap, subst, arith, Option, List, [], ◌∷◌, ◌++◌}
use Rattle.std.specs.List.{AllByRecursion}
use Rattle.std.proofs.lemmas.Bool.{cases_lt, cases_eq}
use Rattle.savi_kinds.specs.declared.port.Port.{Port}
use Rattle.savi_kinds.specs.Ports.{number_of}
use Rattle.fcfs_states.specs.declared.answer.Probe.{Probe}
use Rattle.fcfs_states.specs.declared.state.Fcfs.{Fcfs}
use Rattle.fcfs_states.specs.declared.state.Fcfs.TheVariants.{NoBind, Tentative, Valid, TestLt, TestVp}
use Rattle.fcfs_states.specs.declared.times.Times.{Times}
use Rattle.fcfs_states.specs.Premises.{AreTimes, IsFcfsEvent}
use Rattle.fcfs_states.specs.States.{Same, IsSound, IsLive}
use Rattle.fcfs_states.specs.Next.{next}
use Rattle.fcfs_states.specs.Ageing.{AgeRow, tentative_probe, test_lt_probe, test_vp_probe, tentative_ends, valid_ends, test_lt_ends, test_vp_ends, IsRested, Ages, rests, goes_on}
use Rattle.fcfs_states.specs.Aged.{AgedState, aged}
use Rattle.fcfs_states.specs.FirstCome.{IsTestOf, IsHeardAt, TimedEvent, moved_on, state_of, IsTimeline, IsSilentAfter, IsSilentWithin, IsBoundTo, IsLostByTest}
use Rattle.fcfs_states.proofs.TableLemmas.{Row-next}
use Rattle.fcfs_states.proofs.RowLemmas.{Row-sound, Row-rested, Row-live, Row-test}
use Rattle.fcfs_states.proofs.AgeingLemmas.{Ages-aged, Ages-rest, untouched}
use Rattle.fcfs_states.proofs.AgesLemmas.{Ages-sound, AgeRow-rests, AgeRow-sound, AgeRow-live, aged-joins}

-- events of first come, first served, in turn, one after the other
abbrev pub IsRun : ℕ → List TimedEvent → Type 0
IsRun t [] = Unit {0}
IsRun t (mark ∷ past) = (mark.moment ≤ t) × IsFcfsEvent mark.event × IsRun mark.moment past

pub run_of : (t : ℕ) (marks : List TimedEvent) → IsTimeline t marks → IsRun t marks
run_of t [] line = tt
run_of t (mark ∷ past) line = (line.0.0, line.1.0, run_of mark.moment past (line.0.1, line.1.1))

module _ (k : Times) (times : AreTimes k) where
  -- the state after a run is sound, and nothing is due in it at the last event
  sound_of : (t : ℕ) (marks : List TimedEvent) → IsRun t marks → IsSound (state_of k marks)
  sound_of t [] run = tt
  sound_of t (mark ∷ past) run =
      Row-sound (Row-next k mark.moment mark.room (aged k mark.moment (state_of k past)).state mark.event run.1)
      (Ages-sound k mark.moment (Ages-aged k times mark.moment (state_of k past)) (sound_of mark.moment past run.2))

  rested_of : (t : ℕ) (mark : TimedEvent) (past : List TimedEvent) → IsRun t (mark ∷ past) → IsRested k mark.moment (state_of k (mark ∷ past))
  rested_of t mark past run =
      Row-rested (Row-next k mark.moment mark.room (aged k mark.moment (state_of k past)).state mark.event run.1) times
      (Ages-rest k times mark.moment (Ages-aged k times mark.moment (state_of k past)))

  -- a test that ageing leaves was there before, or began where something was due
  pub AgeRow-test : {state new : Fcfs} {due : ℕ} {probe : Option Probe} → AgeRow k state due new probe → (port : Port) (since : ℕ) → IsTestOf port since new → IsTestOf port since state ⊎ (due ≡ since)
  AgeRow-test tentative_probe port since test = absurd test
  AgeRow-test test_lt_probe port since test = inl test
  AgeRow-test test_vp_probe port since test = inl test
  AgeRow-test tentative_ends port since test = absurd test
  AgeRow-test valid_ends port since test = inr test.1
  AgeRow-test test_lt_ends port since test = absurd test
  AgeRow-test test_vp_ends port since test = absurd test

  pub Ages-test : (t : ℕ) {state new : Fcfs} {probes : List (ℕ × Probe)} → Ages k t state probes new → (port : Port) (since : ℕ) → IsTestOf port since new → (from : ℕ) → IsRested k from state → IsTestOf port since state ⊎ (from < since)
  Ages-test t (rests rest) port since test from idle = inl test
  Ages-test t (goes_on {due = due} {probe = probe} row by first later) port since test from idle =
      let late : from < due = idle due _ probe row in
      elim (Ages-test t later port since test due (AgeRow-rests k times row)) [
        | inl before ↦ elim (AgeRow-test row port since before) [ inl there ↦ inl there | inr began ↦ inr (omega arith) ]
        | inr after ↦ inr (omega arith)
      ]

  -- no event of a run is above its end
  silent_late : (t : ℕ) (port : Port) (since : ℕ) (marks : List TimedEvent) → IsRun t marks → t ≤ since → IsSilentAfter port since marks
  silent_late t port since [] run late = tt
  silent_late t port since (mark ∷ past) run late = (λ above. absurd (let by : mark.moment ≤ t = run.0 in omega arith), silent_late mark.moment port since past run.2 (let by : mark.moment ≤ t = run.0 in omega arith))

  pub silent : (t : ℕ) (marks : List TimedEvent) (port : Port) (since : ℕ) → IsRun t marks → IsTestOf port since (aged k t (state_of k marks)).state → IsSilentAfter port since marks
  silent t [] port since run test = tt
  silent t (mark ∷ past) port since run test =
      let itself : IsRun mark.moment (mark ∷ past) = (omega arith, run.1, run.2) in
      elim (Ages-test t (Ages-aged k times t (state_of k (mark ∷ past))) port since test mark.moment (rested_of t mark past run)) [
        | inl there ↦
            elim (cases_lt since mark.moment) [
              | inl older ↦
                  let before : Fcfs = (aged k mark.moment (state_of k past)).state in
                  let sound : IsSound before = Ages-sound k mark.moment (Ages-aged k times mark.moment (state_of k past)) (sound_of mark.moment past run.2) in
                  let stood : (¬ IsHeardAt port mark.event) × (state_of k (mark ∷ past) ≡ before) = Row-test (Row-next k mark.moment mark.room before mark.event run.1) sound port since there older in
                  (λ _. stood.0, silent mark.moment past port since run.2 (subst (IsTestOf port since) stood.1 there))
              | inr newer ↦ silent_late mark.moment port since (mark ∷ past) itself newer
            ]
        | inr after ↦ silent_late mark.moment port since (mark ∷ past) itself (omega arith)
      ]

-- the address is live at the port, or it isn't
pub same_or_not : (p port : Port) → Same p port ⊎ ¬ Same p port
same_or_not p port = cases_eq (number_of p) (number_of port)

pub live_or_not : (state : Fcfs) (port : Port) → IsLive state port ⊎ ¬ IsLive state port
live_or_not NoBind port = inr (λ live. live)
live_or_not (Tentative p since two) port = inr (λ live. live)
live_or_not (Valid p until) port = same_or_not p port
live_or_not (TestLt p since two) port = same_or_not p port
live_or_not (TestVp p q since two) port = same_or_not p port

-- a test of the port as the holder began then, or will begin then
pub data Stands (port : Port) (since : ℕ) : Fcfs → Type 0 where
  will_be : {p : Port} {until : ℕ} → Same p port → until ≡ since → Stands port since (Valid p until)
  may_be_lost : {p : Port} {from : ℕ} {two : Bool} → Same p port → from ≡ since → Stands port since (TestLt p from two)
  has_rival : {p q : Port} {from : ℕ} {two : Bool} → Same p port → from ≡ since → Stands port since (TestVp p q from two)

pub stands_for : (port : Port) (since : ℕ) (state : Fcfs) → IsTestOf port since state → Stands port since state
stands_for port since NoBind test = absurd test
stands_for port since (Tentative p from two) test = absurd test
stands_for port since (Valid p until) test = absurd test
stands_for port since (TestLt p from two) test = may_be_lost test.0 test.1
stands_for port since (TestVp p q from two) test = has_rival test.0 test.1

pub none_stands : (port : Port) (since : ℕ) → Stands port since NoBind → ⊥
none_stands port since stands = elim stands [ ]

-- a test isn't a binding
pub bound_test : (port : Port) (since : ℕ) (state : Fcfs) → IsBoundTo port state → IsTestOf port since state → ⊥
bound_test port since NoBind bound test = bound
bound_test port since (Tentative p from two) bound test = bound
bound_test port since (Valid p until) bound test = test
bound_test port since (TestLt p from two) bound test = bound
bound_test port since (TestVp p q from two) bound test = bound

-- who isn't heard after a moment isn't heard between it and a later one
pub silent_within : (port : Port) (from to : ℕ) (marks : List TimedEvent) → IsSilentAfter port from marks → IsSilentWithin port from to marks
silent_within port from to [] quiet = tt
silent_within port from to (mark ∷ past) quiet = (λ above below. quiet.0 above, silent_within port from to past quiet.1)

module _ (k : Times) (times : AreTimes k) where
  pub AgeRow-stands : {state new : Fcfs} {due : ℕ} {probe : Option Probe} → AgeRow k state due new probe → (port : Port) (since : ℕ) → IsSound state → IsLive state port → Stands port since new → Stands port since state
  AgeRow-stands tentative_probe port since sound live stands = absurd live
  AgeRow-stands test_lt_probe port since sound live (may_be_lost same is) = may_be_lost same is
  AgeRow-stands test_vp_probe port since sound live (has_rival same is) = has_rival same is
  AgeRow-stands tentative_ends port since sound live stands = absurd live
  AgeRow-stands valid_ends port since sound live (may_be_lost same is) = will_be same is
  AgeRow-stands test_lt_ends port since sound live stands = absurd (none_stands port since stands)
  AgeRow-stands test_vp_ends port since sound live (will_be same is) = absurd (sound (live ∙ sym same))

  -- what ends that an address is live, in an ageing to t
  pub record Ends (t : ℕ) (port : Port) (state : Fcfs) : Type 0 where
    pub since : ℕ
    pub by : since + k.test ≤ t
    pub stands : Stands port since state

  pub Ages-ends : (t : ℕ) {state new : Fcfs} {probes : List (ℕ × Probe)} → Ages k t state probes new → IsSound state → (port : Port) → IsLive state port → ¬ IsLive new port → Ends t port state
  Ages-ends t (rests rest) sound port live ended = absurd (ended live)
  Ages-ends t (goes_on {state = state} {mid = mid} {due = due} row by first later) sound port live ended =
      elim (live_or_not mid port) [
        | inl still ↦
            let ends : Ends t port mid = Ages-ends t later (AgeRow-sound k row sound) port still ended in
            record { since = ends.since; by = ends.by; stands = AgeRow-stands row port ends.since sound live ends.stands }
        | inr over ↦
            let ended : (since : ℕ) × IsTestOf port since state × (due ≡ since + k.test) = AgeRow-live k row port live over in
            let is : due ≡ ended.0 + k.test = ended.2 in
            record { since = ended.0; by = omega arith; stands = stands_for port ended.0 state ended.1 }
      ]

  -- where nothing is due, the end of the test is to come, and so is its beginning if it isn't there yet
  pub stands_to_come : {state : Fcfs} (port : Port) (since from : ℕ) → Stands port since state → IsRested k from state → from < since + k.test
  stands_to_come port since from (will_be {until = until} same is) idle = let late : from < until = idle until _ _ valid_ends in omega arith
  stands_to_come port since from (may_be_lost {from = began} same is) idle = let late : from < began + k.test = idle (began + k.test) _ _ test_lt_ends in omega arith
  stands_to_come port since from (has_rival {from = began} same is) idle = let late : from < began + k.test = idle (began + k.test) _ _ test_vp_ends in omega arith

  pub stands_now : {state : Fcfs} (port : Port) (since from : ℕ) → Stands port since state → IsRested k from state → IsTestOf port since state ⊎ (from < since)
  stands_now port since from (will_be {until = until} same is) idle = inr (let late : from < until = idle until _ _ valid_ends in omega arith)
  stands_now port since from (may_be_lost same is) idle = inl (same, is)
  stands_now port since from (has_rival same is) idle = inl (same, is)

  -- the events after t0
  module _ (t0 : ℕ) (early : List TimedEvent) (run0 : IsRun t0 early) where
    from_of : List TimedEvent → ℕ
    from_of [] = t0
    from_of (mark ∷ late) = mark.moment

    -- the state behind them, as the state at t0 leads to it
    later : List TimedEvent → Fcfs
    later [] = (aged k t0 (state_of k early)).state
    later (mark ∷ late) = moved_on k mark (later late)

    IsFrom : List TimedEvent → Type 0
    IsFrom late = AllByRecursion (λ mark. t0 ≤ mark.moment) late

    from_most : (t : ℕ) (late : List TimedEvent) → t0 ≤ t → IsRun t (late ++ early) → from_of late ≤ t
    unfolding from_of
    from_most t [] after run = after
    from_most t (mark ∷ late) after run = run.0

    from_least : (late : List TimedEvent) → IsFrom late → t0 ≤ from_of late
    unfolding from_of IsFrom
    from_least [] all = omega arith
    from_least (mark ∷ late) all = all.0

    aged-later : (t : ℕ) (late : List TimedEvent) → t0 ≤ t → IsRun t (late ++ early) → IsFrom late → (aged k t (state_of k (late ++ early))).state ≡ (aged k t (later late)).state
    unfolding later IsFrom
    aged-later t [] after run all = ap (λ (a : AgedState). a.state) (aged-joins k times t0 t (state_of k early) after)
    aged-later t (mark ∷ late) after run all = ap (λ s. (aged k t (next k mark.moment mark.room s mark.event).1).state) (aged-later mark.moment late all.0 run.2 all.1)

    later_sound : (t : ℕ) (late : List TimedEvent) → IsRun t (late ++ early) → IsSound (later late)
    unfolding later
    later_sound t [] run = Ages-sound k t0 (Ages-aged k times t0 (state_of k early)) (sound_of k times t0 early run0)
    later_sound t (mark ∷ late) run =
        Row-sound (Row-next k mark.moment mark.room (aged k mark.moment (later late)).state mark.event run.1)
        (Ages-sound k mark.moment (Ages-aged k times mark.moment (later late)) (later_sound mark.moment late run.2))

    later_rested : (t : ℕ) (late : List TimedEvent) → IsRun t (late ++ early) → IsRested k (from_of late) (later late)
    unfolding later from_of
    later_rested t [] run = Ages-rest k times t0 (Ages-aged k times t0 (state_of k early))
    later_rested t (mark ∷ late) run =
        Row-rested (Row-next k mark.moment mark.room (aged k mark.moment (later late)).state mark.event run.1) times
        (Ages-rest k times mark.moment (Ages-aged k times mark.moment (later late)))

    -- a test that began before t0 was there at t0
    older_there : (t : ℕ) (late : List TimedEvent) → IsRun t (late ++ early) → IsFrom late → (port : Port) (since : ℕ) → IsTestOf port since (later late) → since < t0 → IsTestOf port since (later [])
    unfolding later IsFrom
    older_there t [] run all port since test older = test
    older_there t (mark ∷ late) run all port since test older =
        let before : Fcfs = (aged k mark.moment (later late)).state in
        let ages : Ages k mark.moment (later late) (aged k mark.moment (later late)).probes before = Ages-aged k times mark.moment (later late) in
        let newer : t0 ≤ mark.moment = all.0 in
        let least : t0 ≤ from_of late = from_least late all.1 in
        let stood : (¬ IsHeardAt port mark.event) × (later (mark ∷ late) ≡ before) = Row-test (Row-next k mark.moment mark.room before mark.event run.1) (Ages-sound k mark.moment ages (later_sound mark.moment late run.2)) port since test (omega arith) in
        elim (Ages-test k times mark.moment ages port since (subst (IsTestOf port since) stood.1 test) (from_of late) (later_rested mark.moment late run.2)) [
          | inl there ↦ older_there mark.moment late run.2 all.1 port since there older
          | inr after ↦ absurd (omega arith)
        ]

    itself : (t : ℕ) (late : List TimedEvent) → IsRun t (late ++ early) → IsRun (from_of late) (late ++ early)
    unfolding from_of
    itself t [] run = run0
    itself t (mark ∷ late) run = (omega arith, run.1, run.2)

    quiet : (t : ℕ) (late : List TimedEvent) → IsRun t (late ++ early) → IsFrom late → (port : Port) (since : ℕ) → IsTestOf port since (later late) → IsSilentAfter port since (late ++ early)
    quiet t late run all port since test =
        let own : IsRun (from_of late) (late ++ early) = itself t late run in
        let is : (aged k (from_of late) (state_of k (late ++ early))).state ≡ later late =
        aged-later (from_of late) late (from_least late all) own all
        ∙ ap (λ (a : AgedState). a.state) (untouched k times (from_of late) (later late) (later_rested t late run)) in
        silent k times (from_of late) (late ++ early) port since own (subst (IsTestOf port since) (sym is) test)

    ends_here : (t : ℕ) (late : List TimedEvent) → IsRun t (late ++ early) → IsFrom late → (port : Port) → IsLive (later late) port → ¬ IsLive (aged k t (later late)).state port → IsLostByTest k port t0 t (later []) (late ++ early)
    ends_here t late run all port live ended =
        let ends : Ends t port (later late) = Ages-ends t (Ages-aged k times t (later late)) (later_sound t late run) port live ended in
        let idle : IsRested k (from_of late) (later late) = later_rested t late run in
        let least : t0 ≤ from_of late = from_least late all in
        let to_come : from_of late < ends.since + k.test = stands_to_come port ends.since (from_of late) ends.stands idle in
        let now : IsTestOf port ends.since (later late) ⊎ (from_of late < ends.since) = stands_now port ends.since (from_of late) ends.stands idle in
        record {
          since = ends.since;
          after = omega arith;
          by = ends.by;
          silent = silent_within port ends.since (ends.since + k.test) (late ++ early)
              (elim now [
                | inl test ↦ quiet t late run all port ends.since test
                | inr after ↦ silent_late k times (from_of late) port ends.since (late ++ early) (itself t late run) (omega arith)
              ]);
          whole = λ bound.
              elim now [
                | inl test ↦
                    elim (cases_lt ends.since t0) [
                      | inl older ↦ absurd (bound_test port ends.since (later []) bound (older_there t late run all port ends.since test older))
                      | inr newer ↦ newer
                    ]
                | inr after ↦ omega arith
              ];
        }

    over_before : (t : ℕ) (mark : TimedEvent) (late : List TimedEvent) → IsRun t ((mark ∷ late) ++ early) → (port : Port) → ¬ IsLive (later (mark ∷ late)) port → ¬ IsLive (aged k mark.moment (later late)).state port
    unfolding later
    over_before t mark late run port over = λ still. over (Row-live (Row-next k mark.moment mark.room (aged k mark.moment (later late)).state mark.event run.1) port still)

    later_from : (mark : TimedEvent) (late : List TimedEvent) → IsFrom (mark ∷ late) → IsFrom late
    unfolding IsFrom
    later_from mark late all = all.1

    lost_before : (t : ℕ) (mark : TimedEvent) (late : List TimedEvent) {port : Port} → IsRun t ((mark ∷ late) ++ early) → IsLostByTest k port t0 mark.moment (later []) (late ++ early) → IsLostByTest k port t0 t (later []) ((mark ∷ late) ++ early)
    lost_before t mark late run lost =
        let by : lost.since + k.test ≤ mark.moment = lost.by in
        let below : mark.moment ≤ t = run.0 in
        record {
          since = lost.since;
          after = lost.after;
          by = omega arith;
          silent = (λ above before. absurd (omega arith), lost.silent);
          whole = lost.whole;
        }

    lost : (t : ℕ) (late : List TimedEvent) → IsRun t (late ++ early) → IsFrom late → (port : Port) → IsLive (later []) port → ¬ IsLive (aged k t (later late)).state port → IsLostByTest k port t0 t (later []) (late ++ early)
    lost t [] run all port live ended = ends_here t [] run all port live ended
    lost t (mark ∷ late) run all port live ended =
        elim (live_or_not (later (mark ∷ late)) port) [
          | inl still ↦ ends_here t (mark ∷ late) run all port still ended
          | inr over ↦ lost_before t mark late run (lost mark.moment late run.2 (later_from mark late all) port live (over_before t mark late run port over))
        ]

  -- an address that was live at a port, and no longer is, was lost by a test that its holder didn't answer
  pub lost_by_test : (t0 t : ℕ) (early late : List TimedEvent) (port : Port) → t0 ≤ t → IsRun t0 early → IsRun t (late ++ early) → AllByRecursion (λ mark. t0 ≤ mark.moment) late → IsLive (aged k t0 (state_of k early)).state port → ¬ IsLive (aged k t (state_of k (late ++ early))).state port → IsLostByTest k port t0 t (aged k t0 (state_of k early)).state (late ++ early)
  unfolding later IsFrom
  lost_by_test t0 t early late port after run0 run all live ended =
      lost t0 early run0 t late run all port live (λ still. ended (subst (λ s. IsLive s port) (sym (aged-later t0 early run0 t late after run all)) still))
