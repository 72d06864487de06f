-- Sums that are one word once their carries are folded.
use Rattle.std.proofs.Common.{◌≡◌, ℕ, ◌+◌, ◌*◌, ◌/◌, ◌%◌, ◌^◌, ◌≤◌, List, take, refl, inl, inr, arith}
use Rattle.std.proofs.lemmas.Bool.{cases_eq}
use Rattle.v6_sum.specs.WideSum.{IsSameFolded, plain_sum}

pub folded_self : (a : ℕ) → IsSameFolded a a
folded_self a = record { more_a = 0; more_b = 0; apart = refl; zero_a = λ e. e; zero_b = λ e. e }

pub folded_trans : (a b c : ℕ) → IsSameFolded a b → IsSameFolded b c → IsSameFolded a c
folded_trans a b c p q = record {
  more_a = p.more_a + q.more_a;
  more_b = p.more_b + q.more_b;
  apart = omega (arith, p.apart, q.apart);
  zero_a = λ e. q.zero_a (p.zero_a e);
  zero_b = λ e. p.zero_b (q.zero_b e);
}

pub folded_sym : (a b : ℕ) → IsSameFolded a b → IsSameFolded b a
folded_sym a b p = record {
  more_a = p.more_b;
  more_b = p.more_a;
  apart = omega (arith, p.apart);
  zero_a = p.zero_b;
  zero_b = p.zero_a;
}

-- the same number added on both sides
pub folded_add : (a b c : ℕ) → IsSameFolded a b → IsSameFolded (a + c) (b + c)
folded_add a b c p = record {
  more_a = p.more_a;
  more_b = p.more_b;
  apart = omega (arith, p.apart);
  zero_a = λ e. omega (arith, p.zero_a);
  zero_b = λ e. omega (arith, p.zero_b);
}

-- the low part and what is above it, added: nothing changes but multiples of 2 ^ 16 - 1
pub folded_high : (a : ℕ) → IsSameFolded (a / 65536 + a % 65536) a
folded_high a = record {
  more_a = a / 65536;
  more_b = 0;
  apart = omega arith;
  zero_a = λ e. omega arith;
  zero_b = λ e. omega arith;
}

-- two numbers of 32 bits stand for the four words in them
pub folded_wide : (a b w0 w1 w2 w3 : ℕ) → IsSameFolded a b → IsSameFolded (a + ((65536 * w0 + w1) + (65536 * w2 + w3))) (b + (w0 + w1 + w2 + w3))
folded_wide a b w0 w1 w2 w3 p = record {
  more_a = p.more_a;
  more_b = p.more_b + w0 + w2;
  apart = omega (arith, p.apart);
  zero_a = λ e. omega (arith, p.zero_a);
  zero_b = λ e. omega (arith, p.zero_b);
}

-- a word is known by what it stands for
pub folded_same : (a b : ℕ) → a ≤ 65535 → b ≤ 65535 → IsSameFolded a b → a ≡ b
folded_same a b la lb p =
    elim (cases_eq a 0) [
      | inl e ↦ let z = p.zero_a e in omega arith
      | inr ne ↦ elim (cases_eq b 0) [ inl e ↦ let z = p.zero_b e in omega arith | inr nf ↦ omega (arith, p.apart) ]
    ]

-- the running sum, the octets before a place having been added
pub record HasAdded (running total place : ℕ) (octets : List ℕ) : Type 0 where
  pub even : place % 2 ≡ 0
  pub bound : total ≤ running + 2 ^ 30 * place
  pub same : IsSameFolded total (running + plain_sum (take place octets))
