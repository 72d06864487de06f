-- What ageing keeps.
use Rattle.std.proofs.Common.{◌≡◌, ℕ, ◌≤◌, ◌^◌, Bool, true, false, inl, inr, refl, ◌∙◌, ap, subst, Option, Some, None, List, arith, if◌then◌else◌}
use Rattle.std.proofs.lemmas.Bool.{cases_Bool}
use Rattle.savi_kinds.specs.declared.port.Port.{Port}
use Rattle.savi_kinds.specs.declared.plan.Method.{Method}
use Rattle.savi_kinds.specs.declared.plan.Method.TheVariants.{Fcfs as ByFcfs, Dhcp as ByDhcp, Mixed as ByBoth}
use Rattle.fcfs_states.specs.declared.answer.Probe.{Probe}
use Rattle.fcfs_states.specs.declared.state.Fcfs.{Fcfs}
use Rattle.fcfs_states.specs.declared.state.Fcfs.TheVariants.{NoBind}
use Rattle.fcfs_states.specs.declared.times.Times.{Times}
use Rattle.fcfs_states.specs.Premises.{AreTimes}
use Rattle.fcfs_states.specs.Ageing.{AgeRow, tentative_probe, test_lt_probe, test_vp_probe, tentative_ends, valid_ends, test_lt_ends, test_vp_ends, Ages, rests, goes_on}
use Rattle.fcfs_states.specs.Aged.{AgedState, aged, rested}
use Rattle.fcfs_states.proofs.AgeingLemmas.{Ages-aged, Ages-rest, untouched as fcfs_untouched, rested_none}
use Rattle.fcfs_states.proofs.AgesLemmas.{Ages-sound, Ages-fits, aged-joins}
use Rattle.dhcp_states.specs.declared.bound.Bound.{Bound}
use Rattle.dhcp_states.specs.Bindings.{is_over}
use Rattle.mix_rules.specs.declared.state.AddrState.{AddrState}
use Rattle.mix_rules.specs.States.{IsAlone, IsOf, IsBeside, IsOfMethod, IsSoundFor}
use Rattle.mix_rules.specs.Ageing.{AgedAddr, aged_state, bound_at, bound_end, IsStill, untouched, joined_ageing}
use Rattle.mix_rules.specs.Premises.{IsLow, AllMomentsFit}

-- without a state of first come nothing is due
aged-none : (k : Times) (t : ℕ) → AreTimes k → (aged k t NoBind).state ≡ NoBind
aged-none k t times = ap (λ (a : AgedState). a.state) (fcfs_untouched k times t NoBind (rested_none k t NoBind refl))

-- a state of one port alone stays one
AgeRow-of : (k : Times) {state new : Fcfs} {due : ℕ} {probe : Option Probe} → AgeRow k state due new probe → (p : Port) → IsOf p state → IsOf p new
AgeRow-of k tentative_probe p of = of
AgeRow-of k test_lt_probe p of = of
AgeRow-of k test_vp_probe p of = of
AgeRow-of k tentative_ends p of = of
AgeRow-of k valid_ends p of = of
AgeRow-of k test_lt_ends p of = tt
AgeRow-of k test_vp_ends p of = absurd of

Ages-of : (k : Times) (t : ℕ) {state new : Fcfs} {probes : List (ℕ × Probe)} → Ages k t state probes new → (p : Port) → IsOf p state → IsOf p new
Ages-of k t (rests rest) p of = of
Ages-of k t (goes_on row by first later) p of = Ages-of k t later p (AgeRow-of k row p of)

module _ (k : Times) (times : AreTimes k) (t : ℕ) where
  alone : (fixed : Option Port) (fcfs : Fcfs) (dhcp : Option Bound) → IsAlone fixed fcfs dhcp → IsAlone fixed (aged k t fcfs).state (bound_at t dhcp)
  alone None fcfs dhcp is = tt
  alone (Some f) fcfs dhcp is = (ap (λ s. (aged k t s).state) is.0 ∙ aged-none k t times, ap (bound_at t) is.1)

  beside : (fcfs : Fcfs) (dhcp : Option Bound) → IsBeside dhcp fcfs → IsBeside (bound_at t dhcp) (aged k t fcfs).state
  beside fcfs None is = tt
  beside fcfs (Some bound) is = by_test (is_over t bound.until)
    where
      by_test : (ended : Bool) → IsBeside (if ended then None else Some bound) (aged k t fcfs).state
      by_test true = tt
      by_test false = Ages-of k t (Ages-aged k times t fcfs) bound.p is

  of_method : (m : Method) (fcfs : Fcfs) (dhcp : Option Bound) → IsOfMethod m fcfs dhcp → IsOfMethod m (aged k t fcfs).state (bound_at t dhcp)
  of_method ByFcfs fcfs dhcp is = ap (bound_at t) is
  of_method ByDhcp fcfs dhcp is = ap (λ s. (aged k t s).state) is ∙ aged-none k t times
  of_method ByBoth fcfs dhcp is = tt

  pub aged-sound : (m : Method) (s : AddrState) → IsSoundFor m s → IsSoundFor m (aged_state k t s).state
  aged-sound m s sound =
      record {
        alone = alone s.fixed s.fcfs s.dhcp sound.alone;
        beside = beside s.fcfs s.dhcp sound.beside;
        method = of_method m s.fcfs s.dhcp sound.method;
        rival = Ages-sound k t (Ages-aged k times t s.fcfs) sound.rival;
      }

  low : (dhcp : Option Bound) → IsLow (bound_end dhcp) → IsLow (bound_end (bound_at t dhcp))
  low None is = tt
  low (Some bound) is = by_test (is_over t bound.until)
    where
      by_test : (ended : Bool) → IsLow (bound_end (if ended then None else Some bound))
      by_test true = tt
      by_test false = is

  pub aged-fits : (s : AddrState) → t ≤ 2 ^ 62 → AllMomentsFit s → AllMomentsFit (aged_state k t s).state
  aged-fits s early fit = record { fcfs = Ages-fits k t times early (Ages-aged k times t s.fcfs) fit.fcfs; dhcp = low s.dhcp fit.dhcp }

  -- what stands of a binding stands
  pub bound_at-still : (dhcp : Option Bound) → bound_at t (bound_at t dhcp) ≡ bound_at t dhcp
  bound_at-still None = refl
  bound_at-still (Some bound) = elim (cases_Bool (is_over t bound.until)) [ inl is ↦ rw is refl | inr is ↦ rw (is, is) refl ]

  pub aged-still : (s : AddrState) → IsStill k t (aged_state k t s).state
  aged-still s = record { rested = Ages-rest k times t (Ages-aged k times t s.fcfs); stands = bound_at-still s.dhcp }

  pub still-untouched : (s : AddrState) → IsStill k t s → aged_state k t s ≡ untouched s
  still-untouched s still =
      let one : aged k t s.fcfs ≡ rested s.fcfs = fcfs_untouched k times t s.fcfs still.rested in
      let two : bound_at t s.dhcp ≡ s.dhcp = still.stands in
      rw (one, two) refl

  pub untouched-still : (s : AddrState) → aged_state k t s ≡ untouched s → IsStill k t s
  untouched-still s is = subst (IsStill k t) (ap (λ (a : AgedAddr). a.state) is) (aged-still s)

  -- to go to a moment and from there to a later one is to go there at once
  bound_at-joins : (u : ℕ) → t ≤ u → (dhcp : Option Bound) → bound_at u dhcp ≡ bound_at u (bound_at t dhcp)
  bound_at-joins u after None = refl
  bound_at-joins u after (Some bound) = by_end bound.p bound.until
    where
      by_end : (p : Port) (until : Option ℕ) → let bound : Bound = record { p = p; until = until } in bound_at u (Some bound) ≡ bound_at u (bound_at t (Some bound))
      by_end p None = refl
      by_end p (Some end) = grind arith

  pub aged-joins-all : (u : ℕ) → t ≤ u → (s : AddrState) → aged_state k u s ≡ joined_ageing (aged_state k t s) (aged_state k u (aged_state k t s).state)
  aged-joins-all u after s = rw (aged-joins k times t u s.fcfs after, bound_at-joins u after s.dhcp) refl
