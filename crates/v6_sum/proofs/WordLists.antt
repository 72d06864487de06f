-- The words of a list of octets, and their plain sum.
use Rattle.std.proofs.Common.{◌≡◌, ℕ, zero, suc, add-zero, ◌+◌, ◌*◌, ◌%◌, ◌<◌, ◌≤◌, List, [], ◌∷◌, ◌++◌, length, take, drop, get_or, refl, ap, ◌∙◌, sym, arith}
use Rattle.std.proofs.Math.Seq.{take-add}
use Rattle.std.proofs.lemmas.List.{get_or-drop, length-take-le, length-drop, take_all, take_more}
use Rattle.std.specs.Int.{bytes_high_first}
use Rattle.std.proofs.lemmas.List.Sums.{sum_by-cons, sum_by-append}
use Rattle.v6_sum.specs.InternetChecksum.{words_of}
use Rattle.v6_sum.specs.WideSum.{plain_sum}

-- a part of even length has words of its own
pub words_of-append : (front back : List ℕ) → length front % 2 ≡ 0 → words_of (front ++ back) ≡ words_of front ++ words_of back
unfolding words_of
words_of-append [] back even = refl
words_of-append (x ∷ []) back even = absurd (omega arith)
words_of-append (x ∷ y ∷ rest) back even = ap (λ (l : List ℕ). (256 * x + y) ∷ l) (words_of-append rest back (omega arith))

pub plain_sum-append : (front back : List ℕ) → length front % 2 ≡ 0 → plain_sum (front ++ back) ≡ plain_sum front + plain_sum back
unfolding plain_sum
plain_sum-append front back even = rw (words_of-append front back even) (sum_by-append (λ x. x) (words_of front) (words_of back))

-- nothing, one octet, two octets and more
pub plain_sum-nil : plain_sum [] ≡ 0
unfolding plain_sum words_of
plain_sum-nil = refl

pub plain_sum-one : (x : ℕ) → plain_sum (x ∷ []) ≡ 256 * x
unfolding plain_sum words_of
plain_sum-one x = omega arith

pub plain_sum-two : (x y : ℕ) (rest : List ℕ) → plain_sum (x ∷ y ∷ rest) ≡ 256 * x + y + plain_sum rest
unfolding plain_sum words_of
plain_sum-two x y rest = sum_by-cons (λ n. n) (256 * x + y) (words_of rest)

-- each number of the list is below a bound
abbrev pub IsBelow : ℕ → List ℕ → Type 0
IsBelow bound xs = (i : ℕ) → get_or xs i 0 < bound

pub below-append : (bound : ℕ) (xs ys : List ℕ) → IsBelow bound xs → IsBelow bound ys → IsBelow bound (xs ++ ys)
below-append bound [] ys p q i = q i
below-append bound (x ∷ xs) ys p q zero = p 0
below-append bound (x ∷ xs) ys p q (suc i) = below-append bound xs ys (λ k. p (suc k)) q i

pub below-high_first : (n x : ℕ) → IsBelow 256 (bytes_high_first n x)
below-high_first zero x i = omega arith
below-high_first (suc zero) x zero = omega arith
below-high_first (suc (suc n)) x zero = omega arith
below-high_first (suc n) x (suc i) = below-high_first n x i

pub below-drop : (bound n : ℕ) (xs : List ℕ) → IsBelow bound xs → IsBelow bound (drop n xs)
below-drop bound n xs p i = rw (get_or-drop n xs i 0) (p (n + i))

pub below-take : (bound n : ℕ) (xs : List ℕ) → IsBelow bound xs → IsBelow bound (take n xs)
below-take bound zero xs p i = let first = p 0 in omega arith
below-take bound (suc n) [] p i = p i
below-take bound (suc n) (x ∷ xs) p zero = p 0
below-take bound (suc n) (x ∷ xs) p (suc i) = below-take bound n xs (λ k. p (suc k)) i

pub below-words_of : (octets : List ℕ) → IsBelow 256 octets → IsBelow 65536 (words_of octets)
unfolding words_of
below-words_of [] p i = omega arith
below-words_of (x ∷ []) p zero = let first = p 0 in omega arith
below-words_of (x ∷ []) p (suc i) = omega arith
below-words_of (x ∷ y ∷ rest) p zero = let first = p 0 in let second = p 1 in omega arith
below-words_of (x ∷ y ∷ rest) p (suc i) = below-words_of rest (λ k. p (suc (suc k))) i

-- the words in octets that stand at a place
pub plain_sum-at_two : (xs : List ℕ) → 2 ≤ length xs → plain_sum (take 2 xs) ≡ 256 * get_or xs 0 0 + get_or xs 1 0
plain_sum-at_two [] h = absurd (omega arith)
plain_sum-at_two (x ∷ []) h = absurd (omega arith)
plain_sum-at_two (x ∷ y ∷ rest) h = plain_sum-two x y [] ∙ ap (λ (n : ℕ). 256 * x + y + n) plain_sum-nil ∙ omega arith

pub plain_sum-more : (n m : ℕ) (xs : List ℕ) → n % 2 ≡ 0 → n ≤ length xs → plain_sum (take (n + m) xs) ≡ plain_sum (take n xs) + plain_sum (take m (drop n xs))
plain_sum-more n m xs even within =
    ap plain_sum (take-add n m xs) ∙ plain_sum-append (take n xs) (take m (drop n xs)) (omega (arith, length-take-le n xs within))

pub plain_sum-more_two : (n : ℕ) (xs : List ℕ) → n % 2 ≡ 0 → n + 2 ≤ length xs → plain_sum (take (n + 2) xs) ≡ plain_sum (take n xs) + (256 * get_or xs n 0 + get_or xs (n + 1) 0)
plain_sum-more_two n xs even within =
    plain_sum-more n 2 xs even (omega arith)
    ∙ ap (λ (s : ℕ). plain_sum (take n xs) + s) (plain_sum-at_two (drop n xs) (omega (arith, length-drop n xs)) ∙ rw (get_or-drop n xs 0 0, get_or-drop n xs 1 0, add-zero) refl)

-- the octets of a number of 8 octets
pub plain_sum-more_eight : (n : ℕ) (xs : List ℕ) → n % 2 ≡ 0 → n + 8 ≤ length xs → plain_sum (take (n + 8) xs) ≡ plain_sum (take n xs) + ((256 * get_or xs n 0 + get_or xs (n + 1) 0) + (256 * get_or xs (n + 2) 0 + get_or xs (n + 3) 0) + (256 * get_or xs (n + 4) 0 + get_or xs (n + 5) 0) + (256 * get_or xs (n + 6) 0 + get_or xs (n + 7) 0))
plain_sum-more_eight n xs even within =
    let a = plain_sum-more_two n xs even (omega arith) in
    let b = plain_sum-more_two (n + 2) xs (omega arith) (omega arith) in
    let c = plain_sum-more_two (n + 4) xs (omega arith) (omega arith) in
    let d = plain_sum-more_two (n + 6) xs (omega arith) (omega arith) in
    let e : (n + 2) + 2 ≡ n + 4 = omega arith in
    let f : (n + 4) + 2 ≡ n + 6 = omega arith in
    let g : (n + 6) + 2 ≡ n + 8 = omega arith in
    let h : (n + 2) + 1 ≡ n + 3 = omega arith in
    let i : (n + 4) + 1 ≡ n + 5 = omega arith in
    let j : (n + 6) + 1 ≡ n + 7 = omega arith in
    let b' = rw (e, h) at b in
    let c' = rw (f, i) at c in
    let d' = rw (g, j) at d in
    omega (arith, a, b', c', d')

pub plain_sum-last : (n : ℕ) (xs : List ℕ) → n % 2 ≡ 0 → n + 1 ≡ length xs → plain_sum xs ≡ plain_sum (take n xs) + 256 * get_or xs n 0
plain_sum-last n xs even last =
    ap plain_sum (sym (take_all (n + 1) xs (omega arith)) ∙ take_more xs n 0 (omega arith))
    ∙ plain_sum-append (take n xs) (get_or xs n 0 ∷ []) (omega (arith, length-take-le n xs))
    ∙ ap (λ (s : ℕ). plain_sum (take n xs) + s) (plain_sum-one (get_or xs n 0))
