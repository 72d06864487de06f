-- What was taken for a record: its length, and then the octets behind it.
use Rattle.std.proofs.Common.{ℕ, ◌≡◌, ◌≢◌, ◌+◌, ◌^◌, ◌<◌, ◌≤◌, List, [], ◌++◌, length, take, drop, refl, sym, ap, subst, ◌∙◌, arith, length-append, append_assoc, inl, inr}
use Rattle.std.proofs.lemmas.List.{take_at}
use Rattle.std.proofs.Math.Seq.{drop-append_seam}
use Rattle.std.specs.Int.{w32, from_be_bytes}
use Rattle.stream_io.specs.Records.{length_in}
use Rattle.stream_io.specs.Streams.{IsAtFault, IsCut}
use Rattle.stream_io.specs.Readers.{longest_record}
use Rattle.stream_io.specs.Takings.{TakesWhole}
use Rattle.stream_io.proofs.AheadHeld.{used_more}

-- a list without its front
pub drop_front : (front rest : List ℕ) (n : ℕ) → length front ≡ n → drop n (front ++ rest) ≡ rest
drop_front front rest n size = ap (λ (k : ℕ). drop k (front ++ rest)) (sym size) ∙ drop-append_seam front rest

-- the length stands in the first 4 octets, whatever is behind them
pub length_in_front : (front rest : List ℕ) → length front ≡ 4 → length_in (front ++ rest) ≡ from_be_bytes w32 front
length_in_front front rest size = ap (λ (l : List ℕ). from_be_bytes w32 l) (take_at front rest 4 size)

pub whole_taken : (place len : ℕ) (initial gave front held more body later buf : List ℕ) → length front ≡ 4 → len ≡ from_be_bytes w32 front → initial ++ gave ≡ front ++ held → length body ≡ len → held ++ more ≡ body ++ later → (len ≤ 1518 → take len buf ≡ body) → len ≤ 262144 → place + (4 + len) ≤ 2 ^ 62
    → TakesWhole place len (initial ++ (gave ++ more)) later buf
whole_taken place len initial gave front held more body later buf size counted was body_size split frame bounded placed = record {
  first = front ++ body;
  split = used_more initial gave more front held (held ++ more) body later was refl split;
  record_is = record {
    size = omega (arith, length-append front body, size, body_size);
    counted = length_in_front front body size ∙ sym counted;
  };
  bounded = bounded;
  placed = placed;
  frame = λ short. frame short ∙ sym (drop_front front body 4 size);
}

-- what was taken, with the length in front
pub split_all : (initial gave front held more : List ℕ) → initial ++ gave ≡ front ++ held → initial ++ (gave ++ more) ≡ front ++ (held ++ more)
split_all initial gave front held more was =
    sym (append_assoc initial gave more) ∙ ap (λ (l : List ℕ). l ++ more) was ∙ append_assoc front held more

cut_behind : (front body : List ℕ) (len : ℕ) → length front ≡ 4 → len ≡ from_be_bytes w32 front → length body < len → IsCut (front ++ body)
cut_behind front body len size counted short =
    omega (arith, length-append front body, size, counted, short, length_in_front front body size)

pub cut_taken : (initial gave front held more : List ℕ) (len : ℕ) → length front ≡ 4 → len ≡ from_be_bytes w32 front → initial ++ gave ≡ front ++ held → length (held ++ more) < len → IsCut (initial ++ (gave ++ more))
cut_taken initial gave front held more len size counted was short =
    subst IsCut (sym (split_all initial gave front held more was)) (cut_behind front (held ++ more) len size counted short)

pub some_taken : (initial gave front held more : List ℕ) → length front ≡ 4 → initial ++ gave ≡ front ++ held → initial ++ (gave ++ more) ≢ []
some_taken initial gave front held more size was none =
    absurd (omega (arith, size, length-append front (held ++ more), ap length (sym (split_all initial gave front held more was) ∙ none)))

sound_behind : (place len : ℕ) (front body : List ℕ) → length front ≡ 4 → len ≡ from_be_bytes w32 front → len ≤ 262144 → place + (4 + len) ≤ 2 ^ 62 → IsAtFault place (front ++ body) → ⊥
sound_behind place len front body size counted bounded placed at_fault =
    let is : length_in (front ++ body) ≡ len = length_in_front front body size ∙ sym counted in
    elim at_fault.fault [
      | inl long ↦ absurd (omega (arith, long, is, bounded))
      | inr past ↦ absurd (omega (arith, past, is, placed))
    ]

pub sound_taken : (place len : ℕ) (initial gave front held more : List ℕ) → length front ≡ 4 → len ≡ from_be_bytes w32 front → initial ++ gave ≡ front ++ held → len ≤ 262144 → place + (4 + len) ≤ 2 ^ 62 → IsAtFault place (initial ++ (gave ++ more)) → ⊥
sound_taken place len initial gave front held more size counted was bounded placed at_fault =
    sound_behind place len front (held ++ more) size counted bounded placed (subst (λ (l : List ℕ). IsAtFault place l) (split_all initial gave front held more was) at_fault)

-- a record that is cut short is shorter than the longest one
pub few_taken : (initial gave front held more : List ℕ) (len rest : ℕ) → length front ≡ 4 → initial ++ gave ≡ front ++ held → length (held ++ more) < len → len ≤ 262144 → length (initial ++ (gave ++ more)) ≤ longest_record + rest
few_taken initial gave front held more len rest size was short bounded =
    omega (arith, ap length (split_all initial gave front held more was), length-append front (held ++ more), size, short, bounded)
