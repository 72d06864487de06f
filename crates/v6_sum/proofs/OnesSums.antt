-- The ones' complement sum of a list of words is its plain sum, folded.
use Rattle.std.proofs.Common.{◌≡◌, ℕ, suc, ◌+◌, ◌-◌, ◌%◌, ◌<◌, ◌≤◌, List, [], ◌∷◌, ◌++◌, length, fold, sum, inl, inr, arith}
use Rattle.std.proofs.lemmas.Bool.{cases_lt, lt-ltb, le-ltb, cond-true, cond-false}
use Rattle.std.proofs.lemmas.List.Sums.{sum_by-cons}
use Rattle.v6_sum.specs.InternetChecksum.{words_of, ones_add, ones_sum}
use Rattle.v6_sum.specs.WideSum.{IsSameFolded, plain_sum}
use Rattle.v6_sum.proofs.FoldedSums.{folded_self, folded_trans, folded_sym, folded_add, folded_same}
use Rattle.v6_sum.proofs.WordLists.{IsBelow, below-words_of, below-append, plain_sum-append}

-- a word that stands for a sum
pub record IsFold (word total : ℕ) : Type 0 where
  pub small : word ≤ 65535
  pub same : IsSameFolded word total

ones_add-low : (x y : ℕ) → x + y < 65536 → ones_add x y ≡ x + y
unfolding ones_add
ones_add-low x y h = cond-true _ _ _ (lt-ltb (x + y) 65536 h)

ones_add-high : (x y : ℕ) → 65536 ≤ x + y → ones_add x y ≡ x + y - 65536 + 1
unfolding ones_add
ones_add-high x y h = cond-false _ _ _ (le-ltb (x + y) 65536 h)

pub ones_add-is : (x y : ℕ) → x ≤ 65535 → y ≤ 65535 → IsFold (ones_add x y) (x + y)
ones_add-is x y lx ly =
    elim (cases_lt (x + y) 65536) [
      | inl low ↦ let e = ones_add-low x y low in record {
        small = omega arith;
        same = record { more_a = 0; more_b = 0; apart = omega arith; zero_a = λ z. omega arith; zero_b = λ z. omega arith };
      }
      | inr high ↦ let e = ones_add-high x y high in record {
        small = omega arith;
        same = record { more_a = 1; more_b = 0; apart = omega arith; zero_a = λ z. omega arith; zero_b = λ z. omega arith };
      }
    ]

fold-is : (words : List ℕ) (start : ℕ) → IsBelow 65536 words → start ≤ 65535 → IsFold (fold ones_add start words) (start + sum words)
fold-is [] start below small = record { small = small; same = let e : start + 0 ≡ start = omega arith in rw e (folded_self start) }
fold-is (w ∷ words) start below small =
    let first = below 0 in
    let here = ones_add-is start w small (omega arith) in
    let rest = fold-is words (ones_add start w) (λ k. below (suc k)) here.small in
    let moved = folded_add (ones_add start w) (start + w) (sum words) here.same in
    let e : start + sum (w ∷ words) ≡ start + w + sum words = omega (arith, sum_by-cons (λ (n : ℕ). n) w words) in
    record { small = rest.small; same = rw e (folded_trans _ _ _ rest.same moved) }

pub ones_sum-is : (octets : List ℕ) → IsBelow 256 octets → IsFold (ones_sum (words_of octets)) (plain_sum octets)
unfolding ones_sum plain_sum
ones_sum-is octets below =
    let e : 0 + sum (words_of octets) ≡ sum (words_of octets) = omega arith in
    rw (← e) (fold-is (words_of octets) 0 (below-words_of octets below) (omega arith))

-- one sum has one word
pub fold_same : (a b total : ℕ) → IsFold a total → IsFold b total → a ≡ b
fold_same a b total p q = folded_same a b p.small q.small (folded_trans a total b p.same (folded_sym b total q.same))

pub ones_sum-append : (front back : List ℕ) → IsBelow 256 front → IsBelow 256 back → length front % 2 ≡ 0 → ones_sum (words_of (front ++ back)) ≡ ones_add (ones_sum (words_of front)) (ones_sum (words_of back))
ones_sum-append front back small_front small_back even =
    let whole = ones_sum-is (front ++ back) (below-append 256 front back small_front small_back) in
    let first = ones_sum-is front small_front in
    let second = ones_sum-is back small_back in
    let joined = ones_add-is (ones_sum (words_of front)) (ones_sum (words_of back)) first.small second.small in
    let left = folded_add _ _ (ones_sum (words_of back)) first.same in
    let right = folded_add _ _ (plain_sum front) second.same in
    let turn : plain_sum front + ones_sum (words_of back) ≡ ones_sum (words_of back) + plain_sum front = omega arith in
    let turned : IsSameFolded (plain_sum front + ones_sum (words_of back)) (plain_sum back + plain_sum front) = rw turn right in
    let sums : plain_sum back + plain_sum front ≡ plain_sum (front ++ back) = omega (arith, plain_sum-append front back even) in
    let both : IsSameFolded (plain_sum front + ones_sum (words_of back)) (plain_sum (front ++ back)) = rw (← sums) turned in
    fold_same _ _ (plain_sum (front ++ back)) whole (record {
      small = joined.small;
      same = folded_trans _ _ _ joined.same (folded_trans _ _ _ left both);
    })
