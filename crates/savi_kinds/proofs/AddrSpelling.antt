-- The one spelling of an address.
use Rattle.std.proofs.Common.{ℕ, zero, suc, ◌≡◌, ◌+◌, ◌-◌, ◌*◌, ◌/◌, ◌%◌, ◌^◌, ◌<◌, ◌≤◌, nat_le, List, [], ◌∷◌, ◌++◌, length, get_or, take, drop, refl, sym, ap, ap₂, ◌∙◌, arith, inl, inr, append_assoc, append-nil, length-drop, add-one, bit_and, lt-ltb, le-ltb, le-leb, if◌then◌else◌}
use Rattle.std.proofs.lemmas.Bool.{cases_lt, lt-leb}
use Rattle.std.proofs.lemmas.Nat.{and_mask}
use Rattle.std.proofs.lemmas.List.{take_all}
use Rattle.std.proofs.Math.Nat.{div-div-eq-div-mul}
use Rattle.std.specs.Int.{w128, to_be_bytes}
use Rattle.std.specs.Net.Addr.{segments_of}
use Rattle.std.specs.Net.Text.{hex, longest_zero_run}
use Rattle.savi_kinds.specs.declared.address.Addr.{Addr}
use Rattle.savi_kinds.specs.MacText.{hex_digit}
use Rattle.savi_kinds.specs.AddrText.{groups_of, groups_text, spelling}

-- the text of one group more
pub next_text : (gs : List ℕ) (j : ℕ) → suc j < length gs → groups_text (take (suc (suc j)) gs) ≡ groups_text (take (suc j) gs) ++ (58 ∷ hex (get_or gs (suc j) 0))
next_text [] j h = absurd (omega arith)
next_text (g ∷ []) j h = absurd (omega arith)
next_text (g ∷ f ∷ gs) zero h = refl
next_text (g ∷ f ∷ gs) (suc j) h =
    ap (λ t. hex g ++ (58 ∷ t)) (next_text (f ∷ gs) j (omega arith)) ∙ sym (append_assoc (hex g) (58 ∷ groups_text (take (suc j) (f ∷ gs))) _)

pub first_text : (gs : List ℕ) → 0 < length gs → groups_text (take 1 gs) ≡ hex (get_or gs 0 0)
first_text [] h = absurd (omega arith)
first_text (g ∷ gs) h = refl

-- a digit, where the number is large enough to have it
abbrev pub digit_from : ℕ → ℕ → ℕ → List ℕ
digit_from least n digit = if nat_le least n then hex_digit digit ∷ [] else []

-- a group as its digits
pub hex_digits : (n : ℕ) → hex n ≡ digit_from 0x1000 n (n / 0x1000) ++ digit_from 0x100 n (n / 0x100 % 16) ++ digit_from 0x10 n (n / 0x10 % 16) ++ (hex_digit (n % 16) ∷ [])
unfolding hex
hex_digits n =
    elim (cases_lt n 0x1000) [
      | inr four ↦ let three : 0x100 ≤ n = omega arith in let two : 0x10 ≤ n = omega arith in rw (le-leb _ n four, le-leb _ n three, le-leb _ n two) refl
      | inl h₃ ↦ elim (cases_lt n 0x100) [
        | inr three ↦ let two : 0x10 ≤ n = omega arith in rw (lt-leb _ n h₃, le-leb _ n three, le-leb _ n two) refl
        | inl h₂ ↦ elim (cases_lt n 0x10) [
          | inr two ↦ rw (lt-leb _ n h₃, lt-leb _ n h₂, le-leb _ n two) refl
          | inl h₁ ↦ rw (lt-leb _ n h₃, lt-leb _ n h₂, lt-leb _ n h₁) refl
        ]
      ]
    ]

-- two octets as one group
two_octets : (n k : ℕ) → n / (k * 256) % 256 * 256 + n / k % 256 ≡ n / k % 65536
two_octets n k = let high : n / (k * 256) ≡ n / k / 256 = sym (div-div-eq-div-mul n k 256) in rw high (omega arith)

pub groups-octets : (n : ℕ) → segments_of (to_be_bytes w128 n) ≡ groups_of (record { 0 = n })
unfolding groups_of
groups-octets n =
    let last : n / 256 % 256 * 256 + n % 256 ≡ n % 65536 = omega arith in
    ap₂ ◌∷◌ (two_octets n (2 ^ 112)) (ap₂ ◌∷◌ (two_octets n (2 ^ 96)) (ap₂ ◌∷◌ (two_octets n (2 ^ 80)) (ap₂ ◌∷◌ (two_octets n (2 ^ 64)) (ap₂ ◌∷◌ (two_octets n (2 ^ 48)) (ap₂ ◌∷◌ (two_octets n (2 ^ 32)) (ap₂ ◌∷◌ (two_octets n (2 ^ 16)) (ap₂ ◌∷◌ last refl)))))))

-- a run of two groups of zeros and more is written '::', and a shorter one as it is
pub long_run : (groups : List ℕ) (run : ℕ × ℕ) → run ≡ longest_zero_run groups → 2 ≤ run.1 → groups_text (take run.0 groups) ++ (58 ∷ 58 ∷ []) ++ groups_text (drop (run.0 + run.1) groups) ≡ spelling groups
unfolding spelling
long_run groups run is long = rw (← is, lt-ltb 1 run.1 long)

pub short_run : (groups : List ℕ) (run : ℕ × ℕ) → run ≡ longest_zero_run groups → run.1 < 2 → groups_text groups ≡ spelling groups
unfolding spelling
short_run groups run is short = rw (← is, le-ltb 1 run.1 (omega (arith, short)))

-- a digit written, and none
pub step_some : (least n d r : ℕ) (old mid new : List ℕ) → least ≤ n → mid ≡ new → new ≡ old ++ (r ∷ []) → r ≡ hex_digit d → mid ≡ old ++ digit_from least n d
step_some least n d r old mid new large is pushed digit = rw (le-leb least n large) (is ∙ pushed ∙ ap (λ x. old ++ (x ∷ [])) digit)

pub step_none : (least n d : ℕ) (old mid : List ℕ) → n < least → mid ≡ old → mid ≡ old ++ digit_from least n d
step_none least n d old mid small is = rw (lt-leb least n small) (is ∙ sym (append-nil old))

-- all four
pub four_steps : (n : ℕ) (old t₃ t₂ t₁ t₀ : List ℕ) → t₃ ≡ old ++ digit_from 0x1000 n (n / 0x1000) → t₂ ≡ t₃ ++ digit_from 0x100 n (bit_and (n / 0x100) 15) → t₁ ≡ t₂ ++ digit_from 0x10 n (bit_and (n / 0x10) 15) → t₀ ≡ t₁ ++ (hex_digit (bit_and n 15) ∷ []) → t₀ ≡ old ++ hex n
four_steps n old t₃ t₂ t₁ t₀ e₃ e₂ e₁ e₀ =
    let all : t₀ ≡ old ++ (digit_from 0x1000 n (n / 0x1000) ++ digit_from 0x100 n (n / 0x100 % 16) ++ digit_from 0x10 n (n / 0x10 % 16) ++ (hex_digit (n % 16) ∷ [])) = rw (e₀, e₁, e₂, e₃, and_mask n 4, and_mask (n / 0x10) 4, and_mask (n / 0x100) 4) (simp append_assoc) in
    all ∙ ap (λ t. old ++ t) (sym (hex_digits n))

-- a group is written, behind a colon where it isn't the first
pub first_group : (groups : List ℕ) (i : ℕ) (old before mid new : List ℕ) → i < length groups → i ≤ 0 → before ≡ old ++ groups_text (take i groups) → mid ≡ before → new ≡ mid ++ hex (get_or groups i 0) → new ≡ old ++ groups_text (take (i + 1) groups)
first_group groups zero old before mid new within first e is written =
    rw (first_text groups within) (written ∙ ap (λ t. t ++ hex (get_or groups 0 0)) (is ∙ e ∙ append-nil old))
first_group groups (suc i) old before mid new within first e is written = absurd (omega arith)

pub next_group : (groups : List ℕ) (i : ℕ) (old before mid new : List ℕ) → i < length groups → 0 < i → before ≡ old ++ groups_text (take i groups) → mid ≡ before ++ (58 ∷ []) → new ≡ mid ++ hex (get_or groups i 0) → new ≡ old ++ groups_text (take (i + 1) groups)
next_group groups zero old before mid new within later e is written = absurd (omega arith)
next_group groups (suc i) old before mid new within later e is written =
    rw (add-one (suc i), next_text groups i within) (rw (written, is, e) (simp append_assoc))

pub length-groups_of : (a : Addr) → length (groups_of a) ≡ 8
unfolding groups_of
length-groups_of a = refl

-- the end of the eight groups as a slice
pub end_of_groups : (a : Addr) (groups : List ℕ) (from : ℕ) → groups ≡ groups_of a → take (8 - from) (drop from groups) ≡ drop from groups
end_of_groups a groups from is = take_all (8 - from) (drop from groups) (omega (arith, length-drop from groups, ap length is, length-groups_of a))
