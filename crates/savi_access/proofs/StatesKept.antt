-- What each mark that stands keeps of the states.
use Rattle.std.proofs.Common.{◌≡◌, ℕ, ◌≤◌, ◌^◌, Bool, Option, Some, None, List, [], ◌∷◌, refl, sym, subst, inl, inr, arith, rules}
use Rattle.std.proofs.lemmas.Bool.{cases_Bool}
use Rattle.savi_kinds.specs.declared.plan.Method.{Method}
use Rattle.fcfs_states.specs.declared.answer.Probe.{Probe}
use Rattle.fcfs_states.specs.declared.event.Ev.{Ev}
use Rattle.fcfs_states.specs.declared.state.Fcfs.{Fcfs}
use Rattle.fcfs_states.specs.declared.state.Fcfs.TheVariants.{NoBind, Tentative, Valid, TestLt, TestVp}
use Rattle.fcfs_states.specs.declared.times.Times.{Times}
use Rattle.fcfs_states.specs.Premises.{AreTimes}
use Rattle.fcfs_states.specs.Ageing.{AgeRow, tentative_probe, test_lt_probe, test_vp_probe, tentative_ends, valid_ends, test_lt_ends, test_vp_ends, Ages, rests, goes_on}
use Rattle.fcfs_states.specs.FirstCome.{TimedEvent}
use Rattle.fcfs_states.proofs.AgeingLemmas.{Ages-aged}
use Rattle.mix_rules.specs.declared.state.AddrState.{AddrState}
use Rattle.mix_rules.specs.States.{nobody, IsSoundFor}
use Rattle.mix_rules.specs.Next.{next_state}
use Rattle.mix_rules.specs.Ageing.{aged_state, IsStill}
use Rattle.mix_rules.specs.Premises.{AllMomentsFit, IsLeaseInRange}
use Rattle.mix_rules.proofs.EventLemmas.{next-sound, next-still, next-fits}
use Rattle.mix_rules.proofs.AgeingLemmas.{aged-sound, aged-still, aged-fits}
use Rattle.savi_access.specs.Rows.{state_in}
use Rattle.savi_access.specs.Keeps.{IsSoundBy, IsWithinPorts}
use Rattle.savi_access.specs.Bases.{AddrRules, AddrBase, AreTables}
use Rattle.savi_access.specs.NamedMarks.{Named, mark_of, names, last_moment}
use Rattle.savi_access.specs.States.{outcome_by, state_of, state_at}
use Rattle.savi_access.specs.Limits.{HasBegun, IsAddrBase, IsPast}
use Rattle.savi_access.proofs.Aged.{nobody-still, still-state}
use Rattle.savi_access.proofs.MarksOn.{state_of-own, state_of-other}

-- the state of an address of this method as it can be at t: sound, with nothing due, begun by then, each moment below 2^63
pub record IsStateAt (method : Option Method) (k : Times) (t : ℕ) (state : AddrState) : Type 0 where
  pub sound : IsSoundBy method state
  pub still : IsStill k t state
  pub begun : HasBegun t state.fcfs
  pub fits : AllMomentsFit state

next-begun : (m : Method) (k : Times) (t : ℕ) (room : Bool) (s : AddrState) (event : Ev) → HasBegun t s.fcfs → HasBegun t (next_state m k t room s event).1.fcfs
next-begun m k t room s event begun = search rules

begun-later : (t u : ℕ) (fcfs : Fcfs) → t ≤ u → HasBegun t fcfs → HasBegun u fcfs
begun-later t u NoBind after begun = tt
begun-later t u (Tentative p since two) after begun = omega (arith, after, begun)
begun-later t u (Valid p until) after begun = tt
begun-later t u (TestLt p since two) after begun = omega (arith, after, begun)
begun-later t u (TestVp p q since two) after begun = omega (arith, after, begun)

module _ (k : Times) (t : ℕ) where
  row-begun : {state new : Fcfs} {due : ℕ} {probe : Option Probe} → AgeRow k state due new probe → due ≤ t → HasBegun t state → HasBegun t new
  row-begun tentative_probe by begun = begun
  row-begun test_lt_probe by begun = begun
  row-begun test_vp_probe by begun = begun
  row-begun tentative_ends by begun = tt
  row-begun valid_ends by begun = by
  row-begun test_lt_ends by begun = tt
  row-begun test_vp_ends by begun = tt

  ages-begun : {state new : Fcfs} {probes : List (ℕ × Probe)} → Ages k t state probes new → HasBegun t state → HasBegun t new
  ages-begun (rests rest) begun = begun
  ages-begun (goes_on row by first later) begun = ages-begun later (row-begun row by begun)

module _ (k : Times) (times : AreTimes k) where
  aged-sound_by : (t : ℕ) (method : Option Method) (s : AddrState) → IsSoundBy method s → IsSoundBy method (aged_state k t s).state
  aged-sound_by t None s sound = subst (λ state. (aged_state k t state).state ≡ nobody) (sym sound) (still-state k times t nobody (nobody-still k times t))
  aged-sound_by t (Some m) s sound = aged-sound k times t m s sound

  pub aged-kept : (method : Option Method) (from t : ℕ) (s : AddrState) → from ≤ t → t ≤ 2 ^ 62 → IsStateAt method k from s → IsStateAt method k t (aged_state k t s).state
  aged-kept method from t s after early is =
      record {
        sound = aged-sound_by t method s is.sound;
        still = aged-still k times t s;
        begun = ages-begun k t (Ages-aged k times t s.fcfs) (begun-later from t s.fcfs after is.begun);
        fits = aged-fits k times t s early is.fits;
      }

  pub nobody-kept : (method : Option Method) (t : ℕ) → IsStateAt method k t nobody
  nobody-kept None t = record { sound = refl; still = nobody-still k times t; begun = tt; fits = record { fcfs = tt; dhcp = tt } }
  nobody-kept (Some m) t =
      record {
        sound = sound m;
        still = nobody-still k times t;
        begun = tt;
        fits = record { fcfs = tt; dhcp = tt };
      }
    where
      sound : (m : Method) → IsSoundFor m nobody
      sound m = search rules

  pub event-kept : (method : Option Method) (mark : TimedEvent) (s : AddrState) → mark.moment ≤ 2 ^ 62 → IsLeaseInRange mark.event → IsStateAt method k mark.moment (aged_state k mark.moment s).state → IsStateAt method k mark.moment (outcome_by method k mark s).1
  event-kept None mark s early short is = nobody-kept None mark.moment
  event-kept (Some m) mark s early short is =
      let t : ℕ = mark.moment in
      let old : AddrState = (aged_state k t s).state in
      record {
        sound = next-sound m k t mark.room old mark.event is.sound;
        still = next-still m k t mark.room old mark.event times is.still;
        begun = next-begun m k t mark.room old mark.event is.begun;
        fits = next-fits m k t mark.room old mark.event times early short is.fits;
      }

module _ (r : AddrRules) (base : AddrBase) (is : IsAddrBase r base) where
  pub base_times : AreTimes r.times
  base_times = (is.kept 1).times

  pub base_tables : AreTables base
  base_tables vlan = (is.kept vlan).table

  pub base_within : (vlan : ℕ) → IsWithinPorts r.per_port (base.rows vlan)
  base_within vlan = (is.kept vlan).within

  base_state : (vlan a : ℕ) → IsStateAt (r.method_of vlan a) r.times base.moment (state_in (base.rows vlan) a)
  base_state vlan a = record { sound = is.sound vlan a; still = is.still vlan a; begun = is.begun vlan a; fits = (is.kept vlan).fit a }

  pub states_kept : (past : List Named) (t vlan a : ℕ) → IsPast r base past → last_moment base past ≤ t → t ≤ 2 ^ 62 → IsStateAt (r.method_of vlan a) r.times t (state_at r base past t vlan a)
  states_kept [] t vlan a right after early = aged-kept r.times base_times (r.method_of vlan a) base.moment t (state_in (base.rows vlan) a) after early (base_state vlan a)
  states_kept (named ∷ past) t vlan a right after early =
      elim (cases_Bool (names vlan a named)) [
        | inl named_it ↦
            let before : IsStateAt (r.method_of vlan a) r.times named.moment (state_at r base past named.moment vlan a) = states_kept past named.moment vlan a right.1 right.0.order right.0.early in
            let moved : IsStateAt (r.method_of vlan a) r.times named.moment (outcome_by (r.method_of vlan a) r.times (mark_of named) (state_of r base past vlan a)).1 =
            event-kept r.times base_times (r.method_of vlan a) (mark_of named) (state_of r base past vlan a) right.0.early right.0.lease before in
            aged-kept r.times base_times (r.method_of vlan a) named.moment t (state_of r base (named ∷ past) vlan a) after early
            (subst (IsStateAt (r.method_of vlan a) r.times named.moment) (sym (state_of-own r base vlan a named past named_it)) moved)
        | inr not ↦
            subst (λ s. IsStateAt (r.method_of vlan a) r.times t (aged_state r.times t s).state) (sym (state_of-other r base vlan a named past not))
            (states_kept past t vlan a right.1 (omega (arith, right.0.order, after)) early)
      ]
