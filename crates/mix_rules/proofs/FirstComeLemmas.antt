-- Who has an address keeps it, but for three causes.
use Rattle.std.proofs.Common.{◌≡◌, ℕ, ◌+◌, ◌<◌, ◌≤◌, ◌⊎◌, inl, inr, refl, sym, ◌∙◌, ap, subst, arith, rules, Option, Some, None, List, [], ◌∷◌, ◌++◌}
use Rattle.std.proofs.lemmas.Bool.{cases_lt, cases_Bool}
use Rattle.savi_kinds.specs.declared.port.Port.{Port}
use Rattle.savi_kinds.specs.declared.plan.Method.{Method}
use Rattle.fcfs_states.specs.declared.event.Ev.TheVariants.{Sent}
use Rattle.fcfs_states.specs.declared.times.Times.{Times}
use Rattle.fcfs_states.specs.declared.state.Fcfs.{Fcfs}
use Rattle.fcfs_states.specs.Premises.{AreTimes}
use Rattle.fcfs_states.specs.States.{Same}
use Rattle.fcfs_states.specs.Ageing.{IsRested}
use Rattle.fcfs_states.specs.FirstCome.{IsTestOf, TimedEvent, event_moment}
use Rattle.fcfs_states.proofs.RunLemmas.{same_or_not, live_or_not as fcfs_live_or_not, bound_test, silent_within}
use Rattle.dhcp_states.specs.declared.bound.Bound.{Bound}
use Rattle.dhcp_states.specs.Bindings.{is_over, binding_at}
use Rattle.mix_rules.specs.declared.state.AddrState.{AddrState}
use Rattle.mix_rules.specs.States.{IsSoundFor, IsLiveAt, IsLiveBy, IsFixedAt, owner_of}
use Rattle.mix_rules.specs.Ageing.{AgedAddr, aged_state, IsStill}
use Rattle.mix_rules.specs.Next.{next_state, IsPassing}
use Rattle.mix_rules.specs.Ends.{EndsByTest, EndsByTime}
use Rattle.savi_kinds.specs.Orders.{AreInTurn}
use Rattle.mix_rules.specs.FirstCome.{state_of, state_at, answer_at, IsOwnedAt, OnTheWay, by_age, by_event, earlier, IsSilenced, KeepsAddress, but_for_silence, but_for_operator, but_for_dhcp}
use Rattle.mix_rules.proofs.EventLemmas.{next-live, next-owned, sent-passes, one_port}
use Rattle.mix_rules.proofs.AgeingLemmas.{aged-sound, aged-still, still-untouched}
use Rattle.mix_rules.proofs.EndLemmas.{aged-live, tested_to_come, tested_now}
use Rattle.mix_rules.proofs.RunLemmas.{run-sound, run-still, state_at-append, last_of, last_least, last_rests, silent_late, silent_at, stood_before, walk}

-- the port owns the address or not, and it is live there or not
owner_or_not : (owner : Option Port) (port : Port) → IsFixedAt owner port ⊎ ¬ IsFixedAt owner port
owner_or_not None port = inr (λ is. is)
owner_or_not (Some p) port = same_or_not p port

live_by_or_not : (owner : Option Port) (fcfs : Fcfs) (port : Port) → IsLiveBy owner fcfs port ⊎ ¬ IsLiveBy owner fcfs port
live_by_or_not None fcfs port = fcfs_live_or_not fcfs port
live_by_or_not (Some p) fcfs port = same_or_not p port

owned_live : (s : AddrState) (port : Port) → IsOwnedAt s port → IsLiveAt s port
owned_live s port owned = search rules

aged-owned : (k : Times) (t : ℕ) (port : Port) (fixed : Option Port) (fcfs : Fcfs) (dhcp : Option Bound) → let s : AddrState = record { fixed = fixed; fcfs = fcfs; dhcp = dhcp } in IsOwnedAt s port → ¬ IsOwnedAt (aged_state k t s).state port → EndsByTime port t s
aged-owned k t port (Some f) fcfs dhcp owned over = absurd (over owned)
aged-owned k t port None fcfs None owned over = absurd owned
aged-owned k t port None fcfs (Some bound) owned over =
    elim (cases_Bool (is_over t bound.until)) [
      | inl is ↦ record { was = owned; over = rw is refl }
      | inr is ↦ absurd (over (subst (λ (dhcp : Option Bound). IsFixedAt (owner_of None dhcp) port) (let stands : Some bound ≡ binding_at t bound = rw is refl in stands) owned))
    ]

run-append : (from t0 t : ℕ) (early late : List TimedEvent) → AreInTurn event_moment from t0 early → AreInTurn event_moment t0 t late → AreInTurn event_moment from t (late ++ early)
run-append from t0 t [] [] before run = let one : from ≤ t0 = before in let two : t0 ≤ t = run in omega arith
run-append from t0 t (mark ∷ past) [] before run = (let one : mark.moment ≤ t0 = before.0 in let two : t0 ≤ t = run in omega arith, before.1)
run-append from t0 t early (mark ∷ late) before run = (run.0, run-append from t0 mark.moment early late before run.1)

module _ (m : Method) (k : Times) (times : AreTimes k) (base : AddrState) (sound : IsSoundFor m base) (from t0 : ℕ) (early : List TimedEvent) (before : AreInTurn event_moment from t0 early) (port : Port) where
  -- the state at t0
  abbrev mid : AddrState
  mid = state_at m k base early t0

  mid-sound : IsSoundFor m mid
  mid-sound = aged-sound k times t0 m (state_of m k base early) (run-sound m k times base sound early)

  mid-still : IsStill k t0 mid
  mid-still = aged-still k times t0 (state_of m k base early)

  last-still : (late : List TimedEvent) → IsStill k (last_of m k times t0 late) (state_of m k mid late)
  last-still [] = mid-still
  last-still (mark ∷ late) = run-still m k times mid mark late

  last-itself : (t : ℕ) (late : List TimedEvent) → AreInTurn event_moment t0 t late → AreInTurn event_moment t0 (last_of m k times t0 late) late
  last-itself t [] run = omega arith
  last-itself t (mark ∷ late) run = (omega arith, run.1)

  -- what holds by the newest event holds later
  later_kept : (t : ℕ) (mark : TimedEvent) (late : List TimedEvent) → AreInTurn event_moment t0 t (mark ∷ late) → KeepsAddress m k base early t0 late mark.moment port → KeepsAddress m k base early t0 (mark ∷ late) t port
  later_kept t mark late run (but_for_silence lost) =
      let by : lost.since + k.test ≤ mark.moment = lost.by in
      let after : mark.moment ≤ t = run.0 in
      but_for_silence (record {
        since = lost.since;
        after = lost.after;
        by = omega arith;
        silent = (λ above below. absurd (omega arith), lost.silent);
        whole = lost.whole;
      })
  later_kept t mark late run (but_for_operator operator) = but_for_operator (inr operator)
  later_kept t mark late run (but_for_dhcp ends) = but_for_dhcp (earlier ends)

  -- an owner is lost by the second or the third cause
  owned_ends : (t : ℕ) (late : List TimedEvent) → AreInTurn event_moment t0 t late → OnTheWay m k mid (λ t s. IsOwnedAt s port × ¬ IsOwnedAt (aged_state k t s).state port) (λ mark s new. IsOwnedAt s port × ¬ IsOwnedAt new port) t late → KeepsAddress m k base early t0 late t port
  owned_ends t late run (by_age lost) = but_for_dhcp (by_age (aged-owned k t port _ _ _ lost.0 lost.1))
  owned_ends t late run (by_event {mark = mark} {past = past} lost) =
      elim (next-owned m k mark.moment mark.room (state_at m k mid past mark.moment) mark.event port lost.0 lost.1) [
        | inl operator ↦ but_for_operator (inl operator)
        | inr ends ↦ but_for_dhcp (by_event ends)
      ]
  owned_ends t late run (earlier {mark = mark} {past = past} way) = later_kept t mark past run (owned_ends mark.moment past run.1 way)

  module _ (free : ¬ IsOwnedAt mid port) where
    -- the end of a test of the port
    silenced : (t : ℕ) (late : List TimedEvent) → AreInTurn event_moment t0 t late → EndsByTest k port t (state_of m k mid late) → IsSilenced k port t0 t mid (late ++ early)
    silenced t late run ends =
        let state : Fcfs = (state_of m k mid late).fcfs in
        let last : ℕ = last_of m k times t0 late in
        let least : t0 ≤ last = last_least m k times t0 t late run in
        let idle : IsRested k last state = last_rests m k times t0 mid late mid-still.rested in
        let to_come : last < ends.since + k.test = tested_to_come k times port ends.since last state ends.tested idle in
        let now : IsTestOf port ends.since state ⊎ (last < ends.since) = tested_now k times port ends.since last state ends.tested idle in
        let itself : AreInTurn event_moment t0 last late = last-itself t late run in
        let all : AreInTurn event_moment from last (late ++ early) = run-append from t0 last early late before itself in
        let is : state_at m k base (late ++ early) last ≡ state_of m k mid late =
        state_at-append m k times base t0 last early late itself ∙ ap (λ (a : AgedAddr). a.state) (still-untouched k times last (state_of m k mid late) (last-still late)) in
        record {
          since = ends.since;
          after = omega arith;
          by = ends.by;
          silent = silent_within port ends.since (ends.since + k.test) (late ++ early)
              (elim now [
                | inl there ↦ silent_at m k times base sound port ends.since from last (late ++ early) all (subst (λ (s : AddrState). IsTestOf port ends.since s.fcfs) (sym is) there)
                | inr began ↦ silent_late m k times port from last ends.since (late ++ early) all (omega arith)
              ]);
          whole = λ had.
              elim had [
                | inl owned ↦ absurd (free owned)
                | inr bound ↦
                    elim now [
                      | inl there ↦
                          elim (cases_lt ends.since t0) [
                            | inl old ↦ absurd (bound_test port ends.since mid.fcfs bound (stood_before m k times mid mid-sound port ends.since t0 t late run mid-still.rested old there))
                            | inr new ↦ new
                          ]
                      | inr began ↦ omega arith
                    ]
              ];
        }

    live_ends : (t : ℕ) (late : List TimedEvent) → AreInTurn event_moment t0 t late → OnTheWay m k mid (λ t s. IsLiveAt s port × ¬ IsLiveAt (aged_state k t s).state port) (λ mark s new. IsLiveAt s port × ¬ IsLiveAt new port) t late → KeepsAddress m k base early t0 late t port
    live_ends t late run (by_age lost) =
        elim (aged-live k times port t m (state_of m k mid late) (run-sound m k times mid mid-sound late) lost.0 lost.1) [
          | inl time ↦ but_for_dhcp (by_age time)
          | inr ends ↦ but_for_silence (silenced t late run ends)
        ]
    live_ends t late run (by_event {mark = mark} {past = past} lost) =
        elim (next-live m k mark.moment mark.room (state_at m k mid past mark.moment) mark.event port lost.0 lost.1) [
          | inl operator ↦ but_for_operator (inl operator)
          | inr ends ↦ but_for_dhcp (by_event ends)
        ]
    live_ends t late run (earlier {mark = mark} {past = past} way) = later_kept t mark past run (live_ends mark.moment past run.1 way)

  -- an address that was live at the port at t0 and no longer is at t
  pub kept : (t : ℕ) (late : List TimedEvent) → AreInTurn event_moment t0 t late → IsLiveAt mid port → ¬ IsLiveAt (state_at m k base (late ++ early) t) port → KeepsAddress m k base early t0 late t port
  kept t late run live over =
      let lost : ¬ IsLiveAt (state_at m k mid late t) port = subst (λ s. ¬ IsLiveAt s port) (state_at-append m k times base t0 t early late run) over in
      elim (owner_or_not (owner_of mid.fixed mid.dhcp) port) [
        | inl owned ↦ owned_ends t late run (walk m k mid (λ s. IsOwnedAt s port) (λ s. owner_or_not (owner_of s.fixed s.dhcp) port) t late owned (λ still. lost (owned_live (state_at m k mid late t) port still)))
        | inr free ↦ live_ends free t late run (walk m k mid (λ s. IsLiveAt s port) (λ s. live_by_or_not (owner_of s.fixed s.dhcp) s.fcfs port) t late live lost)
      ]

  -- a packet of another port that passes says that it is no longer
  pub first_come : (mark : TimedEvent) (late : List TimedEvent) (q : Port) → mark.event ≡ Sent q → ¬ Same q port → AreInTurn event_moment t0 mark.moment late → IsLiveAt mid port → IsPassing (answer_at m k base (late ++ early) mark) → KeepsAddress m k base early t0 late mark.moment port
  first_come mark late q is differ run live passing =
      let s : AddrState = state_at m k base (late ++ early) mark.moment in
      let s-sound : IsSoundFor m s = aged-sound k times mark.moment m (state_of m k base (late ++ early)) (run-sound m k times base sound (late ++ early)) in
      let there : IsLiveAt s q = (sent-passes m k mark.moment mark.room s q s-sound).0 (subst (λ e. IsPassing (next_state m k mark.moment mark.room s e).0) is passing) in
      kept mark.moment late run live (λ still. differ (one_port s q port there still))
