-- The ports of a plan that are members of a set.
use Rattle.std.proofs.Common.{ℕ, zero, suc, ◌≡◌, ◌<◌, ◌≤◌, ◌==◌, ◌||◌, true, false, Bool, if◌then◌else◌, List, [], ◌∷◌, length, get_or, inl, inr, refl, ap, sym, ◌∙◌, ◌-◌, arith}
use Rattle.std.specs.List.{filter}
use Rattle.std.proofs.lemmas.Nat.Bits.{bit_at-zero}
use Rattle.std.proofs.lemmas.Bool.{cases_Bool, cases_eq, cond-true, cond-false, eq-eqb, ne_eqb, or_left, or_right, false≢true}
use Rattle.savi_kinds.specs.declared.plan.PortPlan.{PortPlan}
use Rattle.savi_kinds.specs.Ports.{number_of}
use Rattle.savi_kinds.specs.PortSets.{is_member, set_of}
use Rattle.savi_kinds.specs.ValidPlan.{numbers_of}
use Rattle.savi_kinds.proofs.Members.{is_member-with}

-- the number of a port is at least 1
pub least : (ports : List PortPlan) (k : ℕ) → k < length ports → 1 ≤ get_or (numbers_of ports) k 0
least [] k within = absurd (omega arith)
least (p ∷ ports) zero within = p.number.low
least (p ∷ ports) (suc k) within = least ports k (omega (arith, within))

-- a port that passes the test is a member
pub member_chosen : (test : ℕ → Bool) (ports : List PortPlan) (k : ℕ) → k < length ports → test (get_or (numbers_of ports) k 0) ≡ true → is_member (set_of (filter test (numbers_of ports))) (get_or (numbers_of ports) k 0) ≡ true
member_chosen test [] k within passes = absurd (omega arith)
member_chosen test (p ∷ ports) zero within passes =
    ap (λ ns. is_member (set_of ns) (number_of p.number)) (cond-true (test (number_of p.number)) (number_of p.number ∷ filter test (numbers_of ports)) (filter test (numbers_of ports)) passes)
    ∙ is_member-with (set_of (filter test (numbers_of ports))) (number_of p.number) (number_of p.number) p.number.low p.number.low
    ∙ or_left (number_of p.number == number_of p.number) (is_member (set_of (filter test (numbers_of ports))) (number_of p.number)) (eq-eqb (number_of p.number) (number_of p.number) refl)
member_chosen test (p ∷ ports) (suc k) within passes =
    let here = number_of p.number in
    let rest = filter test (numbers_of ports) in
    let later : is_member (set_of rest) (get_or (numbers_of ports) k 0) ≡ true = member_chosen test ports k (omega (arith, within)) passes in
    elim (cases_Bool (test here)) [
      | inl taken ↦
          ap (λ ns. is_member (set_of ns) (get_or (numbers_of ports) k 0)) (cond-true (test here) (here ∷ rest) rest taken)
          ∙ is_member-with (set_of rest) here (get_or (numbers_of ports) k 0) p.number.low (least ports k (omega (arith, within)))
          ∙ or_right (get_or (numbers_of ports) k 0 == here) (is_member (set_of rest) (get_or (numbers_of ports) k 0)) later
      | inr left ↦ ap (λ ns. is_member (set_of ns) (get_or (numbers_of ports) k 0)) (cond-false (test here) (here ∷ rest) rest left) ∙ later
    ]

none_in : (n : ℕ) → is_member (set_of []) n ≡ false
none_in n = rw (bit_at-zero (n - 1)) refl

left_at : (b : Bool) (test : ℕ → Bool) (p : PortPlan) (ports : List PortPlan) (n : ℕ) → 1 ≤ n → test (number_of p.number) ≡ b → test n ≡ false → is_member (set_of (filter test (numbers_of ports))) n ≡ false
    → is_member (set_of (if b then number_of p.number ∷ filter test (numbers_of ports) else filter test (numbers_of ports))) n ≡ false
left_at false test p ports n low passes fails rest = rest
left_at true test p ports n low passes fails rest =
    elim (cases_eq n (number_of p.number)) [
      | inl same ↦ absurd (false≢true (sym fails ∙ ap test same ∙ passes))
      | inr other ↦
          is_member-with (set_of (filter test (numbers_of ports))) (number_of p.number) n p.number.low low
          ∙ ap (λ (b : Bool). b || is_member (set_of (filter test (numbers_of ports))) n) (ne_eqb n (number_of p.number) other) ∙ rest
    ]

-- a port that doesn't pass the test is none
pub member_left : (test : ℕ → Bool) (ports : List PortPlan) (n : ℕ) → 1 ≤ n → test n ≡ false → is_member (set_of (filter test (numbers_of ports))) n ≡ false
member_left test [] n low fails = none_in n
member_left test (p ∷ ports) n low fails = left_at (test (number_of p.number)) test p ports n low refl fails (member_left test ports n low fails)

-- so a port of the plan is a member where it passes the test
pub member_is : (test : ℕ → Bool) (ports : List PortPlan) (k : ℕ) → k < length ports → is_member (set_of (filter test (numbers_of ports))) (get_or (numbers_of ports) k 0) ≡ test (get_or (numbers_of ports) k 0)
member_is test ports k within =
    let n = get_or (numbers_of ports) k 0 in
    elim (cases_Bool (test n)) [
      | inl passes ↦ member_chosen test ports k within passes ∙ sym passes
      | inr fails ↦ member_left test ports n (least ports k within) fails ∙ sym fails
    ]
