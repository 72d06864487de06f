-- Whole runs of events, from any sound state.
use Rattle.std.proofs.Common.{◌≡◌, ℕ, ◌<◌, ◌≤◌, ◌⊎◌, inl, inr, ap, subst, arith, List, [], ◌∷◌, ◌++◌}
use Rattle.std.proofs.lemmas.Bool.{cases_lt}
use Rattle.savi_kinds.specs.declared.port.Port.{Port}
use Rattle.savi_kinds.specs.declared.plan.Method.{Method}
use Rattle.fcfs_states.specs.declared.times.Times.{Times}
use Rattle.fcfs_states.specs.Premises.{AreTimes}
use Rattle.fcfs_states.specs.Ageing.{IsRested}
use Rattle.fcfs_states.specs.FirstCome.{IsTestOf, IsHeardAt, TimedEvent, IsSilentAfter, event_moment}
use Rattle.mix_rules.specs.declared.state.AddrState.{AddrState}
use Rattle.mix_rules.specs.States.{IsSoundFor}
use Rattle.mix_rules.specs.Next.{next_state}
use Rattle.mix_rules.specs.Ageing.{AgedAddr, aged_state, IsStill}
use Rattle.savi_kinds.specs.Orders.{AreInTurn}
use Rattle.mix_rules.specs.FirstCome.{state_of, state_at, OnTheWay, by_age, by_event, earlier}
use Rattle.mix_rules.proofs.EventLemmas.{next-sound, next-test, next-still}
use Rattle.mix_rules.proofs.AgeingLemmas.{aged-sound, aged-still, aged-joins-all}
use Rattle.mix_rules.proofs.EndLemmas.{aged-test}

module _ (m : Method) (k : Times) (times : AreTimes k) where
  pub run-sound : (base : AddrState) → IsSoundFor m base → (past : List TimedEvent) → IsSoundFor m (state_of m k base past)
  run-sound base sound [] = sound
  run-sound base sound (mark ∷ past) = next-sound m k mark.moment mark.room _ mark.event (aged-sound k times mark.moment m (state_of m k base past) (run-sound base sound past))

  pub run-still : (base : AddrState) (mark : TimedEvent) (past : List TimedEvent) → IsStill k mark.moment (state_of m k base (mark ∷ past))
  run-still base mark past = next-still m k mark.moment mark.room _ mark.event times (aged-still k times mark.moment (state_of m k base past))

  -- a run may be cut: the state at a moment leads on as the whole run does
  pub state_at-append : (base : AddrState) (t0 t : ℕ) (early late : List TimedEvent) → AreInTurn event_moment t0 t late → state_at m k base (late ++ early) t ≡ state_at m k (state_at m k base early t0) late t
  state_at-append base t0 t early [] run = ap (λ (a : AgedAddr). a.state) (aged-joins-all k times t0 t run (state_of m k base early))
  state_at-append base t0 t early (mark ∷ late) run = ap (λ s. (aged_state k t (next_state m k mark.moment mark.room s mark.event).1).state) (state_at-append base t0 mark.moment early late run.1)

  pub from_most : (from t : ℕ) (past : List TimedEvent) → AreInTurn event_moment from t past → from ≤ t
  from_most from t [] run = run
  from_most from t (mark ∷ past) run = let le : from ≤ mark.moment = from_most from mark.moment past run.1 in let by : mark.moment ≤ t = run.0 in omega arith

  -- the moment of the newest event, or that from which the run goes on
  abbrev pub last_of : ℕ → List TimedEvent → ℕ
  last_of from [] = from
  last_of from (mark ∷ past) = mark.moment

  pub last_most : (from t : ℕ) (past : List TimedEvent) → AreInTurn event_moment from t past → last_of from past ≤ t
  last_most from t [] run = run
  last_most from t (mark ∷ past) run = run.0

  pub last_least : (from t : ℕ) (past : List TimedEvent) → AreInTurn event_moment from t past → from ≤ last_of from past
  last_least from t [] run = omega arith
  last_least from t (mark ∷ past) run = from_most from mark.moment past run.1

  pub last_rests : (from : ℕ) (base : AddrState) (past : List TimedEvent) → IsRested k from base.fcfs → IsRested k (last_of from past) (state_of m k base past).fcfs
  last_rests from base [] rest = rest
  last_rests from base (mark ∷ past) rest = (run-still base mark past).rested

  -- no event of a run is above its end
  pub silent_late : (port : Port) (from t since : ℕ) (marks : List TimedEvent) → AreInTurn event_moment from t marks → t ≤ since → IsSilentAfter port since marks
  silent_late port from t since [] run late = tt
  silent_late port from t since (mark ∷ past) run late = (λ above. absurd (let by : mark.moment ≤ t = run.0 in omega arith), silent_late port from mark.moment since past run.1 (let by : mark.moment ≤ t = run.0 in omega arith))

  module _ (base : AddrState) (sound : IsSoundFor m base) (port : Port) (since : ℕ) where
    -- a test that stands after an event that came after it stood before that event, which wasn't of its holder
    older : (mark : TimedEvent) (past : List TimedEvent) → IsTestOf port since (state_of m k base (mark ∷ past)).fcfs → since < mark.moment → (¬ IsHeardAt port mark.event) × IsTestOf port since (state_at m k base past mark.moment).fcfs
    older mark past test late =
        let stood : (¬ IsHeardAt port mark.event) × ((state_of m k base (mark ∷ past)).fcfs ≡ (state_at m k base past mark.moment).fcfs) =
        next-test m k mark.moment mark.room (state_at m k base past mark.moment) mark.event port since (aged-sound k times mark.moment m (state_of m k base past) (run-sound base sound past)) test late in
        (stood.0, subst (IsTestOf port since) stood.1 test)

    -- while a test stands its holder isn't heard
    pub silent_at : (from t : ℕ) (past : List TimedEvent) → AreInTurn event_moment from t past → IsTestOf port since (state_at m k base past t).fcfs → IsSilentAfter port since past
    silent_at from t [] run test = tt
    silent_at from t (mark ∷ past) run test =
        let itself : AreInTurn event_moment from mark.moment (mark ∷ past) = (omega arith, run.1) in
        elim (aged-test k times port t (state_of m k base (mark ∷ past)) since mark.moment (run-still base mark past).rested test) [
          | inl there ↦
              elim (cases_lt since mark.moment) [
                | inl late ↦ let stood = older mark past there late in (λ _. stood.0, silent_at from mark.moment past run.1 stood.1)
                | inr early ↦ silent_late port from mark.moment since (mark ∷ past) itself early
              ]
          | inr began ↦ silent_late port from mark.moment since (mark ∷ past) itself (omega arith)
        ]

    -- a test that is older than the run stood before it, where nothing was due there
    pub stood_before : (from t : ℕ) (past : List TimedEvent) → AreInTurn event_moment from t past → IsRested k from base.fcfs → since < from → IsTestOf port since (state_of m k base past).fcfs → IsTestOf port since base.fcfs
    stood_before from t [] run rest old test = test
    stood_before from t (mark ∷ past) run rest old test =
        let newer : from ≤ mark.moment = from_most from mark.moment past run.1 in
        let stood = older mark past test (omega arith) in
        elim (aged-test k times port mark.moment (state_of m k base past) since (last_of from past) (last_rests from base past rest) stood.1) [
          | inl there ↦ stood_before from mark.moment past run.1 rest old there
          | inr began ↦ absurd (let least : from ≤ last_of from past = last_least from mark.moment past run.1 in omega arith)
        ]

-- a property that was lost in a run was lost by an ageing or by an event
module _ (m : Method) (k : Times) (base : AddrState) (P : AddrState → Type 0) (test : (s : AddrState) → P s ⊎ ¬ P s) where
  pub walk : (t : ℕ) (past : List TimedEvent) → P base → ¬ P (state_at m k base past t) → OnTheWay m k base (λ t s. P s × ¬ P (aged_state k t s).state) (λ mark s new. P s × ¬ P new) t past
  walk t [] was over = by_age (was, over)
  walk t (mark ∷ past) was over =
      elim (test (state_of m k base (mark ∷ past))) [
        | inl still ↦ by_age (still, over)
        | inr lost ↦
            elim (test (state_at m k base past mark.moment)) [
              | inl before ↦ by_event (before, lost)
              | inr gone ↦ earlier (walk mark.moment past was gone)
            ]
      ]
