-- Members of a set of ports.
use Rattle.std.proofs.Common.{ℕ, ◌≡◌, ◌≢◌, ◌≤◌, ◌<◌, ◌-◌, ◌*◌, ◌%◌, ◌^◌, inl, inr, true, ◌==◌, ◌||◌, max, refl, sym, ◌∙◌, ap, arith, bit_or}
use Rattle.std.specs.Int.{bit_at}
use Rattle.std.proofs.lemmas.Nat.Bits.{bit_at_or, bit_at-pow_same, bit_at-pow_other}
use Rattle.std.proofs.lemmas.Nat.{pow_below}
use Rattle.std.proofs.lemmas.Bool.{cases_eq, ne_eqb, eq-eqb}
use Rattle.savi_kinds.specs.declared.port.PortSet.{PortSet}
use Rattle.savi_kinds.specs.PortSets.{is_member, with_member}

-- bit i of a number to which bit k was added
bit_at-with_same : (s k : ℕ) → (bit_at (bit_or s (2 ^ k)) k == 1) ≡ true
bit_at-with_same s k =
    let e : bit_at (bit_or s (2 ^ k)) k ≡ max (bit_at s k) 1 = bit_at_or s (2 ^ k) k ∙ ap (λ b. max (bit_at s k) b) (bit_at-pow_same k) in
    let small : bit_at s k < 2 = omega arith in
    let one : max (bit_at s k) 1 ≡ 1 = omega (arith, small) in
    ap (λ b. b == 1) (e ∙ one)

bit_at-with_other : (s k i : ℕ) → i ≢ k → bit_at (bit_or s (2 ^ k)) i ≡ bit_at s i
bit_at-with_other s k i other =
    let e : bit_at (bit_or s (2 ^ k)) i ≡ max (bit_at s i) 0 = bit_at_or s (2 ^ k) i ∙ ap (λ b. max (bit_at s i) b) (bit_at-pow_other k i other) in
    let same : max (bit_at s i) 0 ≡ bit_at s i = omega arith in
    e ∙ same

same_member : (set : PortSet) (p n : ℕ) → n ≡ p → is_member (with_member set p) n ≡ (n == p || is_member set n)
same_member set p n same = rw same (bit_at-with_same set.0 (p - 1) ∙ sym (ap (λ b. b || is_member set p) (eq-eqb p p refl)))

-- port p is a member of the set with p, and every other port is a member as before
pub is_member-with : (set : PortSet) (p n : ℕ) → 1 ≤ p → 1 ≤ n → is_member (with_member set p) n ≡ (n == p || is_member set n)
is_member-with set p n low least =
    elim (cases_eq n p) [
      | inl same ↦ same_member set p n same
      | inr other ↦
          let apart : n - 1 ≢ p - 1 = λ e. other (omega (arith, e, low, least)) in
          ap (λ b. b == 1) (bit_at-with_other set.0 (p - 1) (n - 1) apart) ∙ sym (ap (λ b. b || is_member set n) (ne_eqb n p other))
    ]

-- the bit of a port fits a set
pub bit_fits : (k : ℕ) → k ≤ 15 → 1 * 2 ^ k % 65536 ≡ 2 ^ k
bit_fits k h = let below : 2 ^ k < 2 ^ 16 = pow_below k 16 (omega (arith, h)) in omega (arith, below)
