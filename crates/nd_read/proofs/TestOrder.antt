-- The tests in their order.
use Rattle.std.proofs.Common.{◌≡◌, ℕ, ◌+◌, ◌<◌, ◌==◌, if◌then◌else◌, List, Result, Ok, Err, refl, sym, ap, ◌∙◌, subst, inl, inr, arith}
use Rattle.std.proofs.lemmas.Bool.{cases_lt}
use Rattle.v6_chain.specs.declared.packet.Ip.{Ip}
use Rattle.nd_read.specs.declared.message.Nd.{Nd}
use Rattle.nd_read.specs.declared.message.NdFault.{NdFault}
use Rattle.nd_read.specs.declared.message.NdFault.TheVariants.{HopLimit, Code, Short, Checksum, Target, Options, Unspecified, Solicited}
use Rattle.nd_read.specs.Tests.{Passes, PassesBefore, test_number, IsFirstFailed, Reads}

-- the test at a place
abbrev test_at : ℕ → NdFault
test_at n =
    if n == 1 then HopLimit else (if n == 2 then Code else (if n == 3 then Short else (if n == 4 then Checksum else (if n == 5 then Target else (if n == 6 then Options else (if n == 7 then Unspecified else Solicited))))))

test_at-number : (test : NdFault) → test_at (test_number test) ≡ test
test_at-number HopLimit = refl
test_at-number Code = refl
test_at-number Short = refl
test_at-number Checksum = refl
test_at-number Target = refl
test_at-number Options = refl
test_at-number Unspecified = refl
test_at-number Solicited = refl

-- a test is known by its place
pub same_test : (s t : NdFault) → test_number s ≡ test_number t → s ≡ t
same_test s t e = sym (test_at-number s) ∙ ap test_at e ∙ test_at-number t

number-most : (test : NdFault) → test_number test < 9
number-most HopLimit = omega arith
number-most Code = omega arith
number-most Short = omega arith
number-most Checksum = omega arith
number-most Target = omega arith
number-most Options = omega arith
number-most Unspecified = omega arith
number-most Solicited = omega arith

number-least : (test : NdFault) → 0 < test_number test
number-least HopLimit = omega arith
number-least Code = omega arith
number-least Short = omega arith
number-least Checksum = omega arith
number-least Target = omega arith
number-least Options = omega arith
number-least Unspecified = omega arith
number-least Solicited = omega arith

pub before_none : (ip : Ip) (message : List ℕ) → PassesBefore 1 ip message
before_none ip message = λ test below. absurd (omega (arith, number-least test, below))

-- one test more
pub before_more : (ip : Ip) (message : List ℕ) (test : NdFault) → PassesBefore (test_number test) ip message → Passes test ip message → PassesBefore (test_number test + 1) ip message
before_more ip message test known passes = λ other below.
    elim (cases_lt (test_number other) (test_number test)) [
      | inl less ↦ known other less
      | inr more ↦
          let e : test_number test ≡ test_number other = omega (arith, below, more) in
          let P : NdFault → Type 0 = λ t. Passes t ip message in
          subst P (same_test test other e) passes
    ]

pub before_all : (ip : Ip) (message : List ℕ) → PassesBefore 9 ip message → (test : NdFault) → Passes test ip message
before_all ip message known test = known test (number-most test)

-- a first test that fails
pub first_failed : (ip : Ip) (message : List ℕ) (fault : NdFault) → PassesBefore (test_number fault) ip message → (Passes fault ip message → ⊥) → IsFirstFailed ip message fault
first_failed ip message fault known fails = record { fails = fails; before = known }

-- one message has one reading
pub same_reading : (ip : Ip) (message : List ℕ) (a b : Result Nd NdFault) → Reads ip message a → Reads ip message b → a ≡ b
same_reading ip message (Ok x) (Ok y) p q = let ok : Nd → Result Nd NdFault = λ nd. Ok nd in ap ok (p.0 ∙ sym q.0)
same_reading ip message (Ok x) (Err s) p q = absurd (q.1.fails (p.1 q.0 s))
same_reading ip message (Err s) (Ok y) p q = absurd (p.1.fails (q.1 p.0 s))
same_reading ip message (Err s) (Err t) p q =
    elim (cases_lt (test_number s) (test_number t)) [
      | inl less ↦ absurd (p.1.fails (q.1.before s less))
      | inr more ↦ elim (cases_lt (test_number t) (test_number s)) [
        | inl less ↦ absurd (q.1.fails (p.1.before t less))
        | inr most ↦ let e : test_number s ≡ test_number t = omega arith in let err : NdFault → Result Nd NdFault = λ f. Err f in ap err (same_test s t e)
      ]
    ]
