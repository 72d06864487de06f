-- What ageing does to the state of one address.
use Rattle.std.proofs.Common.{◌≡◌, ◌⊎◌, ℕ, zero, suc, ◌-◌, ◌<◌, ◌≤◌, nat_le, Bool, true, false, Option, Some, None, List, [], ◌∷◌, ◌++◌, refl, sym, ◌∙◌, ap, inl, inr, arith}
use Rattle.std.specs.List.{AllByRecursion, slice_get}
use Rattle.std.proofs.lemmas.Bool.{cases_Bool, cases_lt, le-leb}
use Rattle.std.proofs.lemmas.Option.{none-some, same_Some}
use Rattle.fcfs_states.specs.declared.answer.Probe.{Probe}
use Rattle.fcfs_states.specs.declared.state.Fcfs.{Fcfs}
use Rattle.fcfs_states.specs.declared.state.Fcfs.TheVariants.{NoBind, Tentative, Valid, TestLt, TestVp}
use Rattle.fcfs_states.specs.declared.times.Times.{Times}
use Rattle.fcfs_states.specs.Premises.{AreTimes}
use Rattle.fcfs_states.specs.Ageing.{probes_behind}
use Rattle.fcfs_states.specs.Aged.{AgedState, due_of, after_due, aged_at, aged_by, aged}
use Rattle.fcfs_states.specs.AgeingLaws.{AreRisingAfter}
use Rattle.fcfs_states.proofs.AgeingLemmas.{Ages-aged, rested_none}
use Rattle.fcfs_states.proofs.AgesLemmas.{Ages-rising_after}
use Rattle.dhcp_states.specs.declared.bound.Bound.{Bound}
use Rattle.dhcp_states.specs.Bindings.{is_over}
use Rattle.mix_rules.specs.declared.state.AddrState.{AddrState}
use Rattle.mix_rules.specs.States.{nobody}
use Rattle.mix_rules.specs.Ageing.{AgedAddr, aged_state, bound_at, bound_end, sooner_moment, due_next, untouched, IsStill}
use Rattle.mix_rules.proofs.AgeingLemmas.{still-untouched, aged-still, aged-joins-all}
use Rattle.mix_rules.proofs.EndLemmas.{due-touched, idle-touched, still-touched}
use Rattle.addr_table.specs.Turns.{steps_left, ends_left, turns_of}
use Rattle.savi_access.proofs.Parts.{all_weaker}

-- each line of the ageing table leaves fewer to follow
left-passed : (k : Times) (f : Fcfs) (due : ℕ) → due_of k f ≡ Some due → steps_left (after_due k due f) < steps_left f
left-passed k NoBind due e = cc
left-passed k (Tentative p since true) due e = omega arith
left-passed k (Tentative p since false) due e = omega arith
left-passed k (Valid p until) due e = omega arith
left-passed k (TestLt p since true) due e = omega arith
left-passed k (TestLt p since false) due e = omega arith
left-passed k (TestVp p q since true) due e = omega arith
left-passed k (TestVp p q since false) due e = omega arith

left_at : (k : Times) (t : ℕ) (f : Fcfs) (later : Fcfs → AgedState) → ((g : Fcfs) → steps_left (later g).state ≤ steps_left g) → (d : Option ℕ) → due_of k f ≡ d → steps_left (aged_at t f d (λ due. later (after_due k due f))).state ≤ steps_left f
left_at k t f later most None is = omega arith
left_at k t f later most (Some due) is =
    elim (cases_Bool (nat_le due t)) [
      | inl by ↦ rw by (let less : steps_left (after_due k due f) < steps_left f = left-passed k f due is in let more : steps_left (later (after_due k due f)).state ≤ steps_left (after_due k due f) = most (after_due k due f) in omega (arith, less, more))
      | inr late ↦ rw late (omega arith)
    ]

left_by : (lines : ℕ) (k : Times) (t : ℕ) (f : Fcfs) → steps_left (aged_by lines k t f).state ≤ steps_left f
unfolding aged_by
left_by zero k t f = omega arith
left_by (suc lines) k t f = left_at k t f (aged_by lines k t) (left_by lines k t) (due_of k f) refl

less_by : (lines : ℕ) (k : Times) (t : ℕ) (f : Fcfs) (due : ℕ) → due_of k f ≡ Some due → due ≤ t → steps_left (aged_by (suc lines) k t f).state < steps_left f
unfolding aged_by
less_by lines k t f due is by =
    let less : steps_left (after_due k due f) < steps_left f = left-passed k f due is in
    let more : steps_left (aged_by lines k t (after_due k due f)).state ≤ steps_left (after_due k due f) = left_by lines k t (after_due k due f) in
    rw (is, le-leb due t by) (omega (arith, less, more))

left_aged : (k : Times) (t : ℕ) (f : Fcfs) → steps_left (aged k t f).state ≤ steps_left f
unfolding aged
left_aged k t f = left_by 5 k t f

less_aged : (k : Times) (t : ℕ) (f : Fcfs) (due : ℕ) → due_of k f ≡ Some due → due ≤ t → steps_left (aged k t f).state < steps_left f
unfolding aged
less_aged k t f due is by = less_by 4 k t f due is by

pub ends_aged : (t : ℕ) (dhcp : Option Bound) → ends_left (bound_end (bound_at t dhcp)) ≤ ends_left (bound_end dhcp)
ends_aged t None = omega arith
ends_aged t (Some bound) = by_test (is_over t bound.until) refl
  where
    by_test : (ended : Bool) → is_over t bound.until ≡ ended → ends_left (bound_end (bound_at t (Some bound))) ≤ ends_left bound.until
    by_test true is = rw is (omega arith)
    by_test false is = rw is (omega arith)

ends_less : (t : ℕ) (dhcp : Option Bound) (end : ℕ) → bound_end dhcp ≡ Some end → end ≤ t → ends_left (bound_end (bound_at t dhcp)) < ends_left (bound_end dhcp)
ends_less t None end is by = cc
ends_less t (Some bound) end is by =
    let was : bound.until ≡ Some end = is in
    let over : is_over t bound.until ≡ true = rw was (le-leb end t by) in
    let all : ends_left bound.until ≡ 1 = ap ends_left was in
    rw over (omega (arith, all))

-- what is due first is so in one of the two parts
which : (first last : Option ℕ) (due : ℕ) → sooner_moment first last ≡ Some due → (first ≡ Some due) ⊎ (last ≡ Some due)
which None None due is = cc
which None (Some n) due is = inr is
which (Some n) None due is = inl is
which (Some n) (Some m) due is =
    elim (cases_Bool (nat_le n m)) [
      | inl before ↦ inl (rw before at is)
      | inr probes_behind ↦ inr (rw probes_behind at is)
    ]

pub turns_aged : (k : Times) (t : ℕ) (s : AddrState) → turns_of (aged_state k t s).state ≤ turns_of s
turns_aged k t s = omega (arith, left_aged k t s.fcfs, ends_aged t s.dhcp)

pub turns_fall : (k : Times) (t : ℕ) (s : AddrState) (due : ℕ) → due_next k s ≡ Some due → due ≤ t → turns_of (aged_state k t s).state < turns_of s
turns_fall k t s due is by =
    elim (which (due_of k s.fcfs) (bound_end s.dhcp) due is) [
      | inl fcfs ↦ omega (arith, less_aged k t s.fcfs due fcfs by, ends_aged t s.dhcp)
      | inr dhcp ↦ omega (arith, left_aged k t s.fcfs, ends_less t s.dhcp due dhcp by)
    ]

-- no address, nothing due
pub nobody-still : (k : Times) (t : ℕ) → IsStill k t nobody
nobody-still k t = record { rested = rested_none k t NoBind refl; stands = refl }

all_after : (from : ℕ) (probes : List (ℕ × Probe)) → AreRisingAfter from probes → AllByRecursion (λ p. from < p.0) probes
all_after from [] rising = tt
all_after from (p ∷ probes) rising = (rising.0, all_weaker (λ q. p.0 < q.0) (λ q. from < q.0) (λ q h. omega (arith, h, rising.0)) probes (all_after p.0 probes rising.1))

all_from_0 : (probes : List (ℕ × Probe)) → AllByRecursion (λ p. 0 ≤ p.0) probes
all_from_0 [] = tt
all_from_0 (p ∷ probes) = (omega arith, all_from_0 probes)

-- of probes that are one at most, the first is all
pub only_probe : (due : ℕ) (probe : Option Probe) (probes : List (ℕ × Probe)) → probes ≡ probes_behind due probe [] → (x : ℕ × Probe) → slice_get probes 0 ≡ Some x → probes ≡ (due, x.1) ∷ []
only_probe due None probes is x first = absurd (none-some x (sym (ap (λ ps. slice_get ps 0) is) ∙ first))
only_probe due (Some q) probes is x first = is ∙ ap (λ (y : ℕ × Probe). (due, y.1) ∷ []) (same_Some (due, q) x (sym (ap (λ ps. slice_get ps 0) is) ∙ first))

module _ (k : Times) (times : AreTimes k) where
  pub nobody-aged : (t : ℕ) → aged_state k t nobody ≡ untouched nobody
  nobody-aged t = still-untouched k times t nobody (nobody-still k t)

  -- where nothing is due, or only later, ageing does nothing
  pub idle-still : (t : ℕ) (s : AddrState) → ((due : ℕ) → due_next k s ≡ Some due → t < due) → IsStill k t s
  idle-still t s late = by_due (due_next k s) refl
    where
      by_due : (d : Option ℕ) → due_next k s ≡ d → IsStill k t s
      by_due None is = (still-touched k times s t).1 (idle-touched k times s t is)
      by_due (Some due) is = (still-touched k times s t).1 (λ touched. let by : due ≤ t = (due-touched k times s t due is).0 touched in let after : t < due = late due is in omega (arith, by, after))

  pub untouched-by : (t : ℕ) (s : AddrState) → IsStill k t s → aged_state k t s ≡ untouched s
  untouched-by t s still = still-untouched k times t s still

  -- the probes from a state in which nothing is due are due later
  pub probes_after : (from t : ℕ) (s : AddrState) → IsStill k from s → AllByRecursion (λ p. from < p.0) (aged_state k t s).probes
  probes_after from t s still = all_after from (aged k t s.fcfs).probes (Ages-rising_after k t times (Ages-aged k times t s.fcfs) from still.rested)

  -- no probe is due before what is due first
  pub probes_from : (t : ℕ) (s : AddrState) (due : ℕ) → due_next k s ≡ Some due → AllByRecursion (λ p. due ≤ p.0) (aged_state k t s).probes
  probes_from t s due is =
      elim (cases_lt 0 due) [
        | inl some ↦
            let before : IsStill k (due - 1) s = idle-still (due - 1) s (λ other e. let same : due ≡ other = cc in omega (arith, same, some)) in
            all_weaker (λ p. due - 1 < p.0) (λ p. due ≤ p.0) (λ p h. omega (arith, h)) (aged_state k t s).probes (probes_after (due - 1) t s before)
        | inr none ↦ all_weaker (λ p. 0 ≤ p.0) (λ p. due ≤ p.0) (λ p h. omega (arith, none)) (aged_state k t s).probes (all_from_0 (aged_state k t s).probes)
      ]

  pub no_probes : (t : ℕ) (s : AddrState) → due_next k s ≡ None → (aged_state k t s).probes ≡ []
  no_probes t s is = ap (λ (a : AgedAddr). a.probes) (untouched-by t s (idle-still t s (λ due e. cc)))

  -- to age to a moment on the way first
  pub state_by_way : (due t : ℕ) (s : AddrState) → due ≤ t → (aged_state k t (aged_state k due s).state).state ≡ (aged_state k t s).state
  state_by_way due t s by = sym (ap (λ (a : AgedAddr). a.state) (aged-joins-all k times due t by s))

  pub probes_by_way : (due t : ℕ) (s : AddrState) → due ≤ t → (aged_state k t s).probes ≡ (aged_state k due s).probes ++ (aged_state k t (aged_state k due s).state).probes
  probes_by_way due t s by = ap (λ (a : AgedAddr). a.probes) (aged-joins-all k times due t by s)

  pub way-still : (due : ℕ) (s : AddrState) → IsStill k due (aged_state k due s).state
  way-still due s = aged-still k times due s
