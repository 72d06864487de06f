-- The names by which the ends of a plan's port are asked for.
use Rattle.std.proofs.Common.{◌≡◌, ◌≢◌, ℕ, ◌+◌, ◌<◌, ◌==◌, zero, suc, true, false, List, [], ◌∷◌, length, get_or, refl, sym, ap, subst, ◌∙◌, inl, inr, arith}
use Rattle.std.proofs.lemmas.Bool.{cases_Bool}
use Rattle.std.proofs.lemmas.Bool.Decides.{Decides-eqb}
use Rattle.std.specs.List.Sorted.{IsStrictlyIncreasing}
use Rattle.savi_kinds.specs.declared.plan.PortPlan.{PortPlan}
use Rattle.savi_kinds.specs.Ports.{number_of}
use Rattle.savi_kinds.specs.ValidPlan.{numbers_of}
use Rattle.savi_ends.specs.Places.{PortKey, port_key}
use Rattle.switch_ports.specs.Named.{key_among}
use Rattle.switch_ports.proofs.Rising.{number_below}

-- they are those of the port of this number
pub key_number : (plans : List PortPlan) (number : ℕ) → (key_among plans number).number ≡ number
key_number [] number = refl
key_number (p ∷ plans) number =
    elim (cases_Bool (number_of p.number == number)) [
      | inl same ↦ rw same ((Decides-eqb (number_of p.number) number).0 same)
      | inr apart ↦ rw apart (key_number plans number)
    ]

same_number : (n : ℕ) → (n == n) ≡ true
same_number n = (Decides-eqb n n).1 refl

other_number : (m n : ℕ) → m ≢ n → (m == n) ≡ false
other_number m n apart =
    elim (cases_Bool (m == n)) [
      | inl same ↦ absurd (apart ((Decides-eqb m n).0 same))
      | inr off ↦ off
    ]

key_first : (plans : List PortPlan) (i : ℕ) (plan : PortPlan) → i < length plans → plan ≡ get_or plans i plan → ((k : ℕ) → k < i → number_of (get_or plans k plan).number ≢ number_of plan.number) → key_among plans (number_of plan.number) ≡ port_key plan
key_first [] i plan inside is before = absurd (omega arith)
key_first (p ∷ plans) zero plan inside is before =
    let here : (number_of p.number == number_of plan.number) ≡ true = subst (λ (q : PortPlan). (number_of q.number == number_of plan.number) ≡ true) is (same_number (number_of plan.number)) in
    rw here (ap port_key (sym is))
key_first (p ∷ plans) (suc i) plan inside is before =
    rw (other_number (number_of p.number) (number_of plan.number) (before 0 (omega arith))) (key_first plans i plan (omega arith) is (λ k below. before (suc k) (omega arith)))

-- of plans whose numbers rise each names its own port
pub key_here : (plans : List PortPlan) (i : ℕ) (plan : PortPlan) → IsStrictlyIncreasing (numbers_of plans) → i < length plans → plan ≡ get_or plans i plan → key_among plans (number_of plan.number) ≡ port_key plan
key_here plans i plan rising inside is =
    key_first plans i plan inside is (λ k below same.
    let less = number_below plans k i plan rising below inside in
    let there = ap (λ (p : PortPlan). number_of p.number) is in
    omega (arith, less, same, there))
