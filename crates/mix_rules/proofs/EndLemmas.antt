-- When something is due first, and how ageing ends that an address is live.
use Rattle.std.proofs.Common.{◌≡◌, ◌≢◌, ℕ, ◌+◌, ◌<◌, ◌≤◌, Bool, true, false, ◌⊎◌, inl, inr, refl, sym, ◌∙◌, ap, subst, Option, Some, None, [], arith, ◌↔◌, nat_le, IfSome, IsNone}
use Rattle.std.proofs.lemmas.Bool.{cases_Bool, cases_lt, leb-true, leb-false, le-leb, lt-leb}
use Rattle.savi_kinds.specs.declared.port.Port.{Port}
use Rattle.savi_kinds.specs.declared.plan.Method.{Method}
use Rattle.fcfs_states.specs.declared.answer.Probe.{Probe}
use Rattle.fcfs_states.specs.declared.state.Fcfs.{Fcfs}
use Rattle.fcfs_states.specs.declared.state.Fcfs.TheVariants.{NoBind, Tentative, Valid, TestLt, TestVp}
use Rattle.fcfs_states.specs.declared.times.Times.{Times}
use Rattle.fcfs_states.specs.Premises.{AreTimes}
use Rattle.fcfs_states.specs.States.{IsSound}
use Rattle.fcfs_states.specs.Ageing.{IsRested, rests, goes_on, probes_behind}
use Rattle.fcfs_states.specs.Aged.{AgedState, aged, due_of, probe_sent}
use Rattle.fcfs_states.specs.FirstCome.{IsTestOf}
use Rattle.fcfs_states.proofs.AgeingLemmas.{Ages-aged, aged-is, first_row, earliest, untouched as fcfs_untouched, touched as fcfs_touched, rested_none, rested_late}
use Rattle.fcfs_states.proofs.AgesLemmas.{AgeRow-rests}
use Rattle.fcfs_states.proofs.RunLemmas.{Stands, will_be, may_be_lost, has_rival, Ends, Ages-ends, Ages-test, stands_to_come, stands_now}
use Rattle.dhcp_states.specs.declared.bound.Bound.{Bound}
use Rattle.dhcp_states.specs.Bindings.{is_over, binding_at}
use Rattle.mix_rules.specs.declared.state.AddrState.{AddrState}
use Rattle.mix_rules.specs.States.{IsSoundFor, IsLiveAt, IsLiveBy, owner_of}
use Rattle.mix_rules.specs.Ageing.{aged_state, bound_at, bound_end, sooner_moment, due_next, IsStill, IsTouched}
use Rattle.mix_rules.specs.Ends.{IsTested, EndsByTest, EndsByTime}
use Rattle.mix_rules.proofs.AgeingLemmas.{still-untouched, untouched-still}

-- what a moment is, where something is due first at it
data Soonest (first last : Option ℕ) (due : ℕ) : Type 0 where
  the_first : first ≡ Some due → (after : (n : ℕ) → last ≡ Some n → due ≤ n) → Soonest first last due
  the_last : last ≡ Some due → (after : (n : ℕ) → first ≡ Some n → due ≤ n) → Soonest first last due

soonest : (first last : Option ℕ) (due : ℕ) → sooner_moment first last ≡ Some due → Soonest first last due
soonest None None due is = cc
soonest None (Some n) due is = the_last is (λ m e. cc)
soonest (Some n) None due is = the_first is (λ m e. cc)
soonest (Some n) (Some m) due is = by_test (nat_le n m) refl
  where
    by_test : (before : Bool) → nat_le n m ≡ before → Soonest (Some n) (Some m) due
    by_test true e = let at : n ≡ due = cc in let below : n ≤ m = leb-true n m e in the_first (ap Some at) (λ i j. let is : m ≡ i = cc in omega arith)
    by_test false e = let at : m ≡ due = cc in let above : m < n = leb-false n m e in the_last (ap Some at) (λ i j. let is : n ≡ i = cc in omega arith)

module _ (k : Times) (times : AreTimes k) where
  -- a binding stands until it ends
  binding_stands : (t : ℕ) (dhcp : Option Bound) → ((n : ℕ) → bound_end dhcp ≡ Some n → t < n) → bound_at t dhcp ≡ dhcp
  binding_stands t None late = refl
  binding_stands t (Some bound) late = by_end bound.until refl
    where
      by_end : (until : Option ℕ) → bound.until ≡ until → binding_at t bound ≡ Some bound
      by_end None is = rw is refl
      by_end (Some end) is = let below : t < end = late end is in rw (is, lt-leb end t below) refl

  binding_ends : (t : ℕ) (dhcp : Option Bound) (due : ℕ) → bound_end dhcp ≡ Some due → due ≤ t → bound_at t dhcp ≢ dhcp
  binding_ends t None due is by same = cc
  binding_ends t (Some bound) due is by same = let over : binding_at t bound ≡ None = rw (is, le-leb due t by) refl in cc

  fcfs_rests : (t : ℕ) (fcfs : Fcfs) → ((n : ℕ) → due_of k fcfs ≡ Some n → t < n) → IsRested k t fcfs
  fcfs_rests t fcfs late = by_due (due_of k fcfs) refl
    where
      by_due : (due : Option ℕ) → due_of k fcfs ≡ due → IsRested k t fcfs
      by_due None is = rested_none k t fcfs is
      by_due (Some due) is = rested_late k times t fcfs due is (late due is)

  module _ (s : AddrState) (t : ℕ) where
    idle-still : due_next k s ≡ None → IsStill k t s
    idle-still is =
        record {
          rested = fcfs_rests t s.fcfs (λ n e. absurd (none_first (due_of k s.fcfs) (bound_end s.dhcp) n is e));
          stands = binding_stands t s.dhcp (λ n e. absurd (none_last (due_of k s.fcfs) (bound_end s.dhcp) n is e));
        }
      where
        none_first : (first last : Option ℕ) (n : ℕ) → sooner_moment first last ≡ None → first ≡ Some n → ⊥
        none_first None last n is e = cc
        none_first (Some m) None n is e = cc
        none_first (Some m) (Some l) n is e = cc

        none_last : (first last : Option ℕ) (n : ℕ) → sooner_moment first last ≡ None → last ≡ Some n → ⊥
        none_last None last n is e = cc
        none_last (Some m) None n is e = cc
        none_last (Some m) (Some l) n is e = cc

    module _ (due : ℕ) (is : due_next k s ≡ Some due) where
      before-still : t < due → IsStill k t s
      before-still below =
          elim (soonest (due_of k s.fcfs) (bound_end s.dhcp) due is) [
            | the_first e after ↦ record {
              rested = rested_late k times t s.fcfs due e below;
              stands = binding_stands t s.dhcp (λ n j. let le : due ≤ n = after n j in omega arith);
            }
            | the_last e after ↦ record {
              rested = fcfs_rests t s.fcfs (λ n j. let le : due ≤ n = after n j in omega arith);
              stands = binding_stands t s.dhcp (λ n j. let at : due ≡ n = cc in omega arith);
            }
          ]

      after-touched : due ≤ t → IsTouched k t s
      after-touched by same =
          let still : IsStill k t s = untouched-still k times t s same in
          elim (soonest (due_of k s.fcfs) (bound_end s.dhcp) due is) [
            | the_first e after ↦ fcfs_touched k times t s.fcfs due e by (fcfs_untouched k times t s.fcfs still.rested)
            | the_last e after ↦ binding_ends t s.dhcp due e by still.stands
          ]

      pub due-touched : IsTouched k t s ↔ (due ≤ t)
      due-touched = (go, after-touched)
        where
          go : IsTouched k t s → due ≤ t
          go touched = elim (cases_lt t due) [ inl below ↦ absurd (touched (still-untouched k times t s (before-still below))) | inr by ↦ by ]

    -- untouched and still are one
    pub still-touched : IsStill k t s ↔ ¬ IsTouched k t s
    still-touched = (λ still touched. touched (still-untouched k times t s still), by_due (due_next k s) refl)
      where
        by_due : (due : Option ℕ) → due_next k s ≡ due → ¬ IsTouched k t s → IsStill k t s
        by_due None is idle = idle-still is
        by_due (Some due) is idle = elim (cases_lt t due) [ inl below ↦ before-still due is below | inr by ↦ absurd (idle (after-touched due is by)) ]

    pub idle-touched : due_next k s ≡ None → ¬ IsTouched k t s
    idle-touched is touched = touched (still-untouched k times t s (idle-still is))

  pub due_first : (s : AddrState) → IfSome (due_next k s) (λ due. (t : ℕ) → (IsTouched k t s ↔ (due ≤ t)))
  due_first s = by_due (due_next k s) refl
    where
      by_due : (due : Option ℕ) → due_next k s ≡ due → IfSome due (λ due. (t : ℕ) → (IsTouched k t s ↔ (due ≤ t)))
      by_due None is = tt
      by_due (Some due) is = λ t. due-touched s t due is

  pub due_never : (s : AddrState) (due : Option ℕ) → due ≡ due_next k s → IsNone due → (t : ℕ) → ¬ IsTouched k t s
  due_never s None is none t = idle-touched s t (sym is)
  due_never s (Some due) is none t = cc

-- to age to the moment at which something is due first sends one probe, or none
module _ (k : Times) (times : AreTimes k) where
  first_probe : (fcfs : Fcfs) (due : ℕ) → due_of k fcfs ≡ Some due → (aged k due fcfs).probes ≡ probes_behind due (probe_sent fcfs) []
  first_probe fcfs due is = ap (λ (a : AgedState). a.probes) (aged-is k times due (goes_on (first_row k fcfs due is) (let le : due ≤ due = omega arith in le) (earliest k times fcfs due is) (rests (AgeRow-rests k times (first_row k fcfs due is)))))

  pub due-probe : (s : AddrState) (due : ℕ) → due_next k s ≡ Some due → (probe : Option Probe) × ((aged_state k due s).probes ≡ probes_behind due probe [])
  due-probe s due is =
      elim (soonest (due_of k s.fcfs) (bound_end s.dhcp) due is) [
        | the_first e after ↦ (probe_sent s.fcfs, first_probe s.fcfs due e)
        | the_last e after ↦ by_due (due_of k s.fcfs) refl after
      ]
    where
      by_due : (first : Option ℕ) → due_of k s.fcfs ≡ first → ((n : ℕ) → first ≡ Some n → due ≤ n) → (probe : Option Probe) × ((aged_state k due s).probes ≡ probes_behind due probe [])
      by_due None none after = (None, ap (λ (a : AgedState). a.probes) (fcfs_untouched k times due s.fcfs (rested_none k due s.fcfs none)))
      by_due (Some n) first after =
          elim (cases_lt due n) [
            | inl below ↦ (None, ap (λ (a : AgedState). a.probes) (fcfs_untouched k times due s.fcfs (rested_late k times due s.fcfs n first below)))
            | inr above ↦ (probe_sent s.fcfs, first_probe s.fcfs due (let at : n ≡ due = (let least : due ≤ n = after n refl in omega arith) in first ∙ ap Some at))
          ]

-- a test that stands, or will once the binding ends
Stands-tested : (port : Port) (since : ℕ) {state : Fcfs} → Stands port since state → IsTested port since state
Stands-tested port since (will_be same is) = (same, is)
Stands-tested port since (may_be_lost same is) = (same, is)
Stands-tested port since (has_rival same is) = (same, is)

tested_stands : (port : Port) (since : ℕ) (state : Fcfs) → IsTested port since state → Stands port since state
tested_stands port since NoBind tested = absurd tested
tested_stands port since (Tentative p from two) tested = absurd tested
tested_stands port since (Valid p until) tested = will_be tested.0 tested.1
tested_stands port since (TestLt p from two) tested = may_be_lost tested.0 tested.1
tested_stands port since (TestVp p q from two) tested = has_rival tested.0 tested.1

module _ (k : Times) (times : AreTimes k) (port : Port) where
  -- where nothing was due the end of the test is to come, and so is its beginning if it hadn't begun
  pub tested_to_come : (since from : ℕ) (state : Fcfs) → IsTested port since state → IsRested k from state → from < since + k.test
  tested_to_come since from state tested idle = stands_to_come k times port since from (tested_stands port since state tested) idle

  pub tested_now : (since from : ℕ) (state : Fcfs) → IsTested port since state → IsRested k from state → IsTestOf port since state ⊎ (from < since)
  tested_now since from state tested idle = stands_now k times port since from (tested_stands port since state tested) idle

  module _ (t : ℕ) where
    ends_by : (fixed : Option Port) (fcfs : Fcfs) (dhcp : Option Bound) → IsSound fcfs → let s : AddrState = record { fixed = fixed; fcfs = fcfs; dhcp = dhcp } in IsLiveAt s port → ¬ IsLiveAt (aged_state k t s).state port → EndsByTime port t s ⊎ EndsByTest k port t s
    ends_by (Some f) fcfs dhcp sound live over = absurd (over live)
    ends_by None fcfs (Some bound) sound live over =
        elim (cases_Bool (is_over t bound.until)) [
          | inl is ↦ inl (record { was = live; over = rw is refl })
          | inr is ↦ absurd (over (subst (λ (dhcp : Option Bound). IsLiveBy (owner_of None dhcp) (aged k t fcfs).state port) (let stands : Some bound ≡ binding_at t bound = rw is refl in stands) live))
        ]
    ends_by None fcfs None sound live over =
        let ends : Ends k times t port fcfs = Ages-ends k times t (Ages-aged k times t fcfs) sound port live over in
        inr (record { since = ends.since; tested = Stands-tested port ends.since ends.stands; by = ends.by; alone = refl })

    pub aged-live : (m : Method) (s : AddrState) → IsSoundFor m s → IsLiveAt s port → ¬ IsLiveAt (aged_state k t s).state port → EndsByTime port t s ⊎ EndsByTest k port t s
    aged-live m s sound live over = ends_by s.fixed s.fcfs s.dhcp sound.rival live over

    -- a test that ageing leaves stood before it, or began after a moment at which nothing was due
    pub aged-test : (s : AddrState) (since from : ℕ) → IsRested k from s.fcfs → IsTestOf port since (aged_state k t s).state.fcfs → IsTestOf port since s.fcfs ⊎ (from < since)
    aged-test s since from idle test = Ages-test k times t (Ages-aged k times t s.fcfs) port since test from idle

  -- from one moment to the next
  pub next-moment-live : (t : ℕ) (m : Method) (s : AddrState) → IsSoundFor m s → IsStill k t s → IsLiveAt s port → ¬ IsLiveAt (aged_state k (t + 1) s).state port → EndsByTime port (t + 1) s ⊎ ((since : ℕ) × IsTestOf port since s.fcfs × (since + k.test ≡ t + 1))
  next-moment-live t m s sound still live over =
      elim (aged-live (t + 1) m s sound live over) [
        | inl time ↦ inl time
        | inr ends ↦
            let idle : IsRested k t s.fcfs = still.rested in
            let to_come : t < ends.since + k.test = tested_to_come ends.since t s.fcfs ends.tested idle in
            let by : ends.since + k.test ≤ t + 1 = ends.by in
            inr (ends.since, (elim (tested_now ends.since t s.fcfs ends.tested idle) [ inl now ↦ now | inr later ↦ absurd (let gap : 1 ≤ k.gap = times.gap in let test : k.gap < k.test = times.gap_first in omega arith) ]), omega arith)
      ]
