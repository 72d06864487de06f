-- What ageing keeps.
use Rattle.std.proofs.Common.{◌≡◌, ℕ, ◌+◌, ◌<◌, ◌≤◌, ◌^◌, true, false, refl, arith, Option, Some, None, List, [], ◌∷◌, ◌++◌, length}
use Rattle.std.specs.List.{AllByRecursion}
use Rattle.savi_kinds.specs.declared.port.Port.{Port}
use Rattle.fcfs_states.specs.declared.answer.Probe.{Probe}
use Rattle.fcfs_states.specs.declared.state.Fcfs.{Fcfs}
use Rattle.fcfs_states.specs.declared.state.Fcfs.TheVariants.{NoBind, Tentative, Valid, TestLt, TestVp}
use Rattle.fcfs_states.specs.declared.times.Times.{Times}
use Rattle.fcfs_states.specs.Premises.{AreTimes, MomentsFit}
use Rattle.fcfs_states.specs.States.{IsSound, IsLive}
use Rattle.fcfs_states.specs.Ageing.{AgeRow, tentative_probe, test_lt_probe, test_vp_probe, tentative_ends, valid_ends, test_lt_ends, test_vp_ends, IsRested, Ages, rests, goes_on, probes_behind}
use Rattle.fcfs_states.specs.Aged.{aged}
use Rattle.fcfs_states.specs.AgeingLaws.{AreRising, AreRisingAfter, joined_ageing}
use Rattle.fcfs_states.specs.FirstCome.{IsTestOf}
use Rattle.fcfs_states.proofs.AgeingLemmas.{probes_left, rested_none, rested_late, Ages-aged, aged-is}

-- one list of probes behind another
behind-append : (due : ℕ) (probe : Option Probe) (early late : List (ℕ × Probe)) → probes_behind due probe (early ++ late) ≡ probes_behind due probe early ++ late
behind-append due None early late = refl
behind-append due (Some probe) early late = refl

-- rising from a later moment on is rising from an earlier one on
rising_weaken : (early late : ℕ) (probes : List (ℕ × Probe)) → early < late → AreRisingAfter late probes → AreRisingAfter early probes
rising_weaken early late [] below rising = tt
rising_weaken early late (p ∷ ps) below rising = (let above : late < p.0 = rising.0 in omega arith, rising.1)

pub probes_left-most : (state : Fcfs) → probes_left state ≤ 3
probes_left-most NoBind = omega arith
probes_left-most (TestLt p since false) = omega arith
probes_left-most (TestLt p since true) = omega arith
probes_left-most (Valid p until) = omega arith
probes_left-most (Tentative p since false) = omega arith
probes_left-most (Tentative p since true) = omega arith
probes_left-most (TestVp p q since false) = omega arith
probes_left-most (TestVp p q since true) = omega arith

module _ (k : Times) where
  -- what each row of ageing keeps
  pub AgeRow-live : {state new : Fcfs} {due : ℕ} {probe : Option Probe} → AgeRow k state due new probe → (port : Port) → IsLive state port → ¬ IsLive new port → (since : ℕ) × IsTestOf port since state × (due ≡ since + k.test)
  AgeRow-live tentative_probe port live ended = absurd live
  AgeRow-live test_lt_probe port live ended = absurd (ended live)
  AgeRow-live test_vp_probe port live ended = absurd (ended live)
  AgeRow-live tentative_ends port live ended = absurd live
  AgeRow-live valid_ends port live ended = absurd (ended live)
  AgeRow-live (test_lt_ends {since = since}) port live ended = (since, (live, refl), refl)
  AgeRow-live (test_vp_ends {since = since}) port live ended = (since, (live, refl), refl)

  pub AgeRow-sound : {state new : Fcfs} {due : ℕ} {probe : Option Probe} → AgeRow k state due new probe → IsSound state → IsSound new
  AgeRow-sound tentative_probe sound = tt
  AgeRow-sound test_lt_probe sound = tt
  AgeRow-sound test_vp_probe sound = sound
  AgeRow-sound tentative_ends sound = tt
  AgeRow-sound valid_ends sound = tt
  AgeRow-sound test_lt_ends sound = tt
  AgeRow-sound test_vp_ends sound = tt

  AgeRow-fits : AreTimes k → {state new : Fcfs} {due : ℕ} {probe : Option Probe} → AgeRow k state due new probe → due ≤ 2 ^ 62 → MomentsFit state → MomentsFit new
  AgeRow-fits times tentative_probe early fits = fits
  AgeRow-fits times test_lt_probe early fits = fits
  AgeRow-fits times test_vp_probe early fits = fits
  AgeRow-fits times tentative_ends early fits = omega arith
  AgeRow-fits times valid_ends early fits = fits
  AgeRow-fits times test_lt_ends early fits = tt
  AgeRow-fits times test_vp_ends early fits = omega arith

  -- probes_behind each row nothing is due at its own moment
  pub AgeRow-rests : AreTimes k → {state new : Fcfs} {due : ℕ} {probe : Option Probe} → AgeRow k state due new probe → IsRested k due new
  AgeRow-rests times (tentative_probe {p = p} {since = since}) = rested_late k times (since + k.gap) (Tentative p since false) (since + k.test) refl (omega arith)
  AgeRow-rests times (test_lt_probe {p = p} {since = since}) = rested_late k times (since + k.gap) (TestLt p since false) (since + k.test) refl (omega arith)
  AgeRow-rests times (test_vp_probe {p = p} {q = q} {since = since}) = rested_late k times (since + k.gap) (TestVp p q since false) (since + k.test) refl (omega arith)
  AgeRow-rests times (tentative_ends {p = p} {since = since}) = rested_late k times (since + k.test) (Valid p (since + k.test + k.life)) (since + k.test + k.life) refl (omega arith)
  AgeRow-rests times (valid_ends {p = p} {until = until}) = rested_late k times until (TestLt p until true) (until + k.gap) refl (omega arith)
  AgeRow-rests times (test_lt_ends {since = since}) = rested_none k (since + k.test) NoBind refl
  AgeRow-rests times (test_vp_ends {q = q} {since = since}) = rested_late k times (since + k.test) (Valid q (since + k.test + k.life)) (since + k.test + k.life) refl (omega arith)

  AgeRow-few : {state new : Fcfs} {due : ℕ} {probe : Option Probe} → AgeRow k state due new probe → (probes : List (ℕ × Probe)) → length probes ≤ probes_left new → length (probes_behind due probe probes) ≤ probes_left state
  AgeRow-few tentative_probe probes few = omega arith
  AgeRow-few test_lt_probe probes few = omega arith
  AgeRow-few test_vp_probe probes few = omega arith
  AgeRow-few (tentative_ends {two = true}) probes few = omega arith
  AgeRow-few (tentative_ends {two = false}) probes few = omega arith
  AgeRow-few valid_ends probes few = omega arith
  AgeRow-few (test_lt_ends {two = true}) probes few = omega arith
  AgeRow-few (test_lt_ends {two = false}) probes few = omega arith
  AgeRow-few (test_vp_ends {two = true}) probes few = omega arith
  AgeRow-few (test_vp_ends {two = false}) probes few = omega arith

  module _ (t : ℕ) where
    pub Ages-sound : {state new : Fcfs} {probes : List (ℕ × Probe)} → Ages k t state probes new → IsSound state → IsSound new
    Ages-sound (rests rest) sound = sound
    Ages-sound (goes_on row by first later) sound = Ages-sound later (AgeRow-sound row sound)

    pub Ages-fits : AreTimes k → t ≤ 2 ^ 62 → {state new : Fcfs} {probes : List (ℕ × Probe)} → Ages k t state probes new → MomentsFit state → MomentsFit new
    Ages-fits times early (rests rest) fits = fits
    Ages-fits times early (goes_on {due = due} row by first later) fits = Ages-fits times early later (AgeRow-fits times row (let le : due ≤ 2 ^ 62 = omega arith in le) fits)

    pub Ages-few : {state new : Fcfs} {probes : List (ℕ × Probe)} → Ages k t state probes new → length probes ≤ probes_left state
    Ages-few (rests rest) = omega arith
    Ages-few (goes_on {probes = probes} row by first later) = AgeRow-few row probes (Ages-few later)

    pub Ages-joins : (u : ℕ) → t ≤ u → {state mid new : Fcfs} {early late : List (ℕ × Probe)} → Ages k t state early mid → Ages k u mid late new → Ages k u state (early ++ late) new
    Ages-joins u below (rests rest) after = after
    Ages-joins u below {late = late} (goes_on {due = due} {probe = probe} {probes = probes} row by first later) after =
        rw (← behind-append due probe probes late) (goes_on row (let le : due ≤ u = omega arith in le) first (Ages-joins u below later after))

    -- the probes are due by t
    behind_by : (due : ℕ) (probe : Option Probe) (probes : List (ℕ × Probe)) → due ≤ t → AllByRecursion (λ p. p.0 ≤ t) probes → AllByRecursion (λ p. p.0 ≤ t) (probes_behind due probe probes)
    behind_by due None probes by all = all
    behind_by due (Some probe) probes by all = (by, all)

    pub Ages-by : {state new : Fcfs} {probes : List (ℕ × Probe)} → Ages k t state probes new → AllByRecursion (λ p. p.0 ≤ t) probes
    Ages-by (rests rest) = tt
    Ages-by (goes_on {due = due} {probe = probe} {probes = probes} row by first later) = behind_by due probe probes by (Ages-by later)

    -- and rise
    behind_rising : (from due : ℕ) (probe : Option Probe) (probes : List (ℕ × Probe)) → from < due → AreRisingAfter due probes → AreRisingAfter from (probes_behind due probe probes)
    behind_rising from due None probes below rising = rising_weaken from due probes below rising
    behind_rising from due (Some probe) probes below rising = (below, rising)

    pub Ages-rising_after : AreTimes k → {state new : Fcfs} {probes : List (ℕ × Probe)} → Ages k t state probes new → (from : ℕ) → IsRested k from state → AreRisingAfter from probes
    Ages-rising_after times (rests rest) from idle = tt
    Ages-rising_after times (goes_on {due = due} {probe = probe} {probes = probes} row by first later) from idle =
        behind_rising from due probe probes (idle due _ probe row) (Ages-rising_after times later due (AgeRow-rests times row))

    behind_in_order : (due : ℕ) (probe : Option Probe) (probes : List (ℕ × Probe)) → AreRisingAfter due probes → AreRising probes → AreRising (probes_behind due probe probes)
    behind_in_order due None probes after rising = rising
    behind_in_order due (Some probe) probes after rising = after

    pub Ages-rising : AreTimes k → {state new : Fcfs} {probes : List (ℕ × Probe)} → Ages k t state probes new → AreRising probes
    Ages-rising times (rests rest) = tt
    Ages-rising times (goes_on {due = due} {probe = probe} {probes = probes} row by first later) =
        behind_in_order due probe probes (Ages-rising_after times later due (AgeRow-rests times row)) (Ages-rising times later)

  -- one ageing and a later one are one
  pub aged-joins : AreTimes k → (t u : ℕ) (state : Fcfs) → t ≤ u → aged k u state ≡ joined_ageing (aged k t state) (aged k u (aged k t state).state)
  aged-joins times t u state below = aged-is k times u (Ages-joins t u below (Ages-aged k times t state) (Ages-aged k times u (aged k t state).state))
