-- The field at the front of a text, and what is read of it.
use Rattle.std.proofs.Common.{ℕ, ◌≡◌, ◌≢◌, ◌^◌, ◌<◌, ◌≤◌, ◌==◌, ◌-◌, ◌↔◌, List, [], ◌∷◌, ◌++◌, Option, Some, None, IfSome, IfNone, IsSome, decimal, length, unwrap_or, refl, sym, ap, ◌∙◌, arith, ne_eqb, le-ltb, lt-ltb, true≢false, inl, inr, Bool, not}
use Rattle.std.proofs.lemmas.Bool.{cases_lt}
use Rattle.std.proofs.lemmas.List.Sums.{prefix_len-le-length}
use Rattle.std.proofs.lemmas.Fmt.{decimal_injective}
use Rattle.std.specs.List.{position, position_or_len}
use Rattle.savi_kinds.specs.declared.port.Port.{Port}
use Rattle.savi_kinds.specs.Ports.{number_of}
use Rattle.hist_store.specs.TextOfLines.{spaced, HasNoSpace}
use Rattle.hist_store.proofs.Words.{IsWord}
use Rattle.hist_store.proofs.OnePort.{port_same}

-- a word has no space
pub spaceless : (t : List ℕ) → IsWord t → HasNoSpace t
spaceless [] is = tt
spaceless (x ∷ xs) is = let above : 32 < x = is.0 in (λ same. omega arith, spaceless xs is.1)

-- the first space stands behind the field
pub end_of : (field : List ℕ) (fields : List (List ℕ)) → HasNoSpace field → position_or_len (λ c. c == 32) (field ++ spaced fields) ≡ length field
end_of [] [] is = refl
end_of [] (next ∷ fields) is = refl
end_of (c ∷ field) fields is = let more = end_of field fields is.1 in rw (ne_eqb c 32 is.0) (omega (arith, more))

-- the place of a test, or how long the text is
pub place_is : (p : ℕ → Bool) (xs : List ℕ) → unwrap_or (position p xs) (length xs) ≡ position_or_len p xs
place_is p xs =
    elim (cases_lt (position_or_len p xs) (length xs)) [
      | inl inside ↦ rw (lt-ltb (position_or_len p xs) (length xs) inside) refl
      | inr outside ↦
          let most : position_or_len p xs ≤ length xs = prefix_len-le-length (λ x. not (p x)) xs in
          let whole : length xs ≡ position_or_len p xs = omega arith in
          rw (le-ltb (position_or_len p xs) (length xs) outside) whole
    ]

-- what the text of a number is read as
pub number_is : (text : List ℕ) (o : Option ℕ) → IfSome o (λ n. (text ≡ decimal n) × (n ≤ 2 ^ 64 - 1)) → IfNone o ((n : ℕ) → n ≤ 2 ^ 64 - 1 → text ≢ decimal n) → (n : ℕ) → n < 2 ^ 64 → text ≡ decimal n → o ≡ Some n
number_is text None read only n small is = absurd (only n (omega (arith, small)) is)
number_is text (Some m) read only n small is = ap Some (let below : m < 2 ^ 64 = omega (arith, read.1) in decimal_injective m n below small (sym read.0 ∙ is))

-- the port of a number
pub port_is : (o : Option Port) (n : ℕ) (port : Port) → IsSome o ↔ ((1 ≤ n) × (n ≤ 16)) → IfSome o (λ p. number_of p ≡ n) → n ≡ number_of port → o ≡ Some port
port_is None n port some value is = let low : 1 ≤ port.number = port.low in let high : port.number ≤ 16 = port.high in absurd (true≢false (sym (some.1 (omega arith, omega arith))))
port_is (Some p) n port some value is = ap Some (port_same p port (value ∙ is))
