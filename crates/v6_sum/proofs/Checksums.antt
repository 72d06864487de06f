-- The checksum by the plain sums of its parts.
use Rattle.std.proofs.Common.{◌≡◌, ℕ, zero, suc, ◌+◌, ◌-◌, ◌/◌, ◌%◌, ◌<◌, ◌≤◌, List, [], ◌∷◌, ◌++◌, length, take, drop, set, refl, ap, ◌∙◌, sym, inl, inr, arith}
use Rattle.std.proofs.lemmas.Bool.{cases_eq}
use Rattle.std.proofs.lemmas.List.{length-append, length-take-le, length-drop, append_assoc, take_at, drop_at}
use Rattle.std.specs.Int.{w32, w128, to_be_bytes, bytes_high_first}
use Rattle.savi_kinds.specs.declared.address.Addr.{Addr}
use Rattle.v6_sum.specs.InternetChecksum.{words_of, ones_sum, ones_complement, pseudo_header, checksum, with_word_at}
use Rattle.v6_sum.specs.WideSum.{IsSameFolded, plain_sum}
use Rattle.v6_sum.proofs.FoldedSums.{folded_trans, folded_add}
use Rattle.v6_sum.proofs.OnesSums.{IsFold, ones_sum-is, fold_same}
use Rattle.v6_sum.proofs.WordLists.{IsBelow, below-append, below-high_first, below-take, below-drop, plain_sum-append, plain_sum-two, plain_sum-nil}

length-high_first : (n x : ℕ) → length (bytes_high_first n x) ≡ n
length-high_first zero x = refl
length-high_first (suc n) x = ap suc (length-high_first n x)

below-four : (next : ℕ) → next < 256 → IsBelow 256 (0 ∷ 0 ∷ 0 ∷ next ∷ [])
below-four next h zero = omega arith
below-four next h (suc zero) = omega arith
below-four next h (suc (suc zero)) = omega arith
below-four next h (suc (suc (suc zero))) = h
below-four next h (suc (suc (suc (suc i)))) = omega arith

below-header : (src dst : Addr) (len next : ℕ) → next < 256 → IsBelow 256 (pseudo_header src dst len next)
unfolding pseudo_header
below-header src dst len next h =
    let src_octets = bytes_high_first 16 src.0 in
    let dst_octets = bytes_high_first 16 dst.0 in
    let len_octets = bytes_high_first 4 len in
    let addresses = below-append 256 src_octets dst_octets (below-high_first 16 src.0) (below-high_first 16 dst.0) in
    let with_len = below-append 256 (src_octets ++ dst_octets) len_octets addresses (below-high_first 4 len) in
    below-append 256 (src_octets ++ dst_octets ++ len_octets) (0 ∷ 0 ∷ 0 ∷ next ∷ []) with_len (below-four next h)

pub length-header : (src dst : Addr) (len next : ℕ) → length (pseudo_header src dst len next) ≡ 40
unfolding pseudo_header
length-header src dst len next = refl

-- the words of a length that fits 16 bits, and of the next header
plain_sum-len : (len : ℕ) → len ≤ 65535 → plain_sum (to_be_bytes w32 len) ≡ len
plain_sum-len len h =
    let first = plain_sum-two (len / 16777216 % 256) (len / 65536 % 256) (len / 256 % 256 ∷ len % 256 ∷ []) in
    let second = plain_sum-two (len / 256 % 256) (len % 256) [] in
    omega (arith, first, second, plain_sum-nil)

plain_sum-next : (next : ℕ) → plain_sum (0 ∷ 0 ∷ 0 ∷ next ∷ []) ≡ next
plain_sum-next next =
    let first = plain_sum-two 0 0 (0 ∷ next ∷ []) in
    let second = plain_sum-two 0 next [] in
    omega (arith, first, second, plain_sum-nil)

pub plain_sum-header : (src dst : Addr) (len next : ℕ) → len ≤ 65535 → plain_sum (pseudo_header src dst len next) ≡ plain_sum (to_be_bytes w128 src.0) + plain_sum (to_be_bytes w128 dst.0) + len + next
unfolding pseudo_header
plain_sum-header src dst len next h =
    let a = plain_sum-append (bytes_high_first 16 src.0) (bytes_high_first 16 dst.0) refl in
    let b = plain_sum-append (bytes_high_first 16 src.0 ++ bytes_high_first 16 dst.0) (bytes_high_first 4 len) refl in
    let c = plain_sum-append (bytes_high_first 16 src.0 ++ bytes_high_first 16 dst.0 ++ bytes_high_first 4 len) (0 ∷ 0 ∷ 0 ∷ next ∷ []) refl in
    omega (arith, a, b, c, plain_sum-len len h, plain_sum-next next)

-- the word whose complement the checksum is
pub record IsChecksum (src dst : Addr) (next : ℕ) (message : List ℕ) (value : ℕ) : Type 0 where
  pub word : ℕ
  pub fold : IsFold word (plain_sum (pseudo_header src dst (length message) next) + plain_sum message)
  pub complement : value ≡ 65535 - word

pub checksum-is : (src dst : Addr) (next : ℕ) (message : List ℕ) → next < 256 → IsBelow 256 message → IsChecksum src dst next message (checksum src dst next message)
unfolding checksum ones_complement
checksum-is src dst next message fits below =
    let header = pseudo_header src dst (length message) next in
    let whole = ones_sum-is (header ++ message) (below-append 256 header message (below-header src dst (length message) next fits) below) in
    let e : plain_sum header + plain_sum message ≡ plain_sum (header ++ message) = sym (plain_sum-append header message (omega (arith, length-header src dst (length message) next))) in
    record { word = ones_sum (words_of (header ++ message)); fold = rw e whole; complement = refl }

pub checksum-from : (src dst : Addr) (next : ℕ) (message : List ℕ) (word : ℕ) → next < 256 → length message ≤ 65535 → IsBelow 256 message
    → IsFold word (plain_sum (to_be_bytes w128 src.0) + plain_sum (to_be_bytes w128 dst.0) + length message + next + plain_sum message)
    → 65535 - word ≡ checksum src dst next message
checksum-from src dst next message word fits short below fold =
    let known = checksum-is src dst next message fits below in
    let e = plain_sum-header src dst (length message) next short in
    let same = fold_same _ _ _ (rw e fold) known.fold in
    ap (λ (w : ℕ). 65535 - w) same ∙ sym known.complement

-- the running sum of the parts of a message
pub folded_parts : (word last middle first len next src dst message : ℕ)
    → IsSameFolded word last → IsSameFolded last (middle + message) → IsSameFolded middle (first + dst) → IsSameFolded first (len + next + src)
    → IsSameFolded word (src + dst + len + next + message)
folded_parts word last middle first len next src dst message p q r s =
    let a = folded_add first (len + next + src) (dst + message) s in
    let b = folded_add middle (first + dst) message r in
    let e : first + (dst + message) ≡ first + dst + message = omega arith in
    let f : len + next + src + (dst + message) ≡ src + dst + len + next + message = omega arith in
    let a' : IsSameFolded (first + dst + message) (src + dst + len + next + message) = rw (← e, ← f) a in
    folded_trans _ _ _ p (folded_trans _ _ _ q (folded_trans _ _ _ b a'))

pub plain_sum-with_word_at : (xs : List ℕ) (place word : ℕ) → word ≤ 65535 → place % 2 ≡ 0 → place + 2 ≤ length xs → plain_sum (with_word_at xs place word) ≡ plain_sum (take place xs) + word + plain_sum (drop (place + 2) xs)
unfolding with_word_at
plain_sum-with_word_at xs place word fits even within =
    let len = length-take-le place xs (omega arith) in
    let octets = word / 256 % 256 ∷ word % 256 ∷ [] in
    let a = plain_sum-append (take place xs) octets (omega (arith, len)) in
    let b = plain_sum-append (take place xs ++ octets) (drop (place + 2) xs) (omega (arith, len, length-append (take place xs) octets)) in
    let c = plain_sum-two (word / 256 % 256) (word % 256) [] in
    omega (arith, a, b, c, plain_sum-nil)

pub length-with_word_at : (xs : List ℕ) (place word : ℕ) → place + 2 ≤ length xs → length (with_word_at xs place word) ≡ length xs
unfolding with_word_at
length-with_word_at xs place word within =
    let octets = word / 256 % 256 ∷ word % 256 ∷ [] in
    omega (arith, length-append (take place xs ++ octets) (drop (place + 2) xs), length-append (take place xs) octets, length-take-le place xs (omega arith), length-drop (place + 2) xs)

pub below-with_word_at : (xs : List ℕ) (place word : ℕ) → IsBelow 256 xs → IsBelow 256 (with_word_at xs place word)
unfolding with_word_at
below-with_word_at xs place word below =
    let octets = word / 256 % 256 ∷ word % 256 ∷ [] in
    below-append 256 (take place xs ++ octets) (drop (place + 2) xs) (below-append 256 (take place xs) octets (below-take 256 place xs below) (below-high_first 2 word)) (below-drop 256 (place + 2) xs below)

-- a sum and the complement of its word together have the word of all ones
all_ones : (total first second : ℕ) → IsFold first total → IsFold second (total + (65535 - first)) → 65535 - second ≡ 0
all_ones total first second p q =
    elim (cases_eq second 0) [
      | inl e ↦ let z = q.same.zero_a e in let y : total ≡ 0 = omega arith in let x = p.same.zero_b y in absurd (omega arith)
      | inr ne ↦ omega (arith, p.small, p.same.apart, q.small, q.same.apart)
    ]

pub checksum-filled : (src dst : Addr) (next : ℕ) (xs : List ℕ) (place : ℕ) → next < 256 → IsBelow 256 xs → place % 2 ≡ 0 → place + 2 ≤ length xs
    → checksum src dst next (with_word_at xs place (checksum src dst next (with_word_at xs place 0))) ≡ 0
checksum-filled src dst next xs place fits below even within =
    let zeroed = with_word_at xs place 0 in
    let value = checksum src dst next zeroed in
    let filled = with_word_at xs place value in
    let known = checksum-is src dst next zeroed fits (below-with_word_at xs place 0 below) in
    let again = checksum-is src dst next filled fits (below-with_word_at xs place value below) in
    let total = plain_sum (pseudo_header src dst (length xs) next) + plain_sum zeroed in
    let len = length-with_word_at xs place 0 within in
    let len' = length-with_word_at xs place value within in
    let sum = plain_sum-with_word_at xs place 0 (omega arith) even within in
    let sum' = plain_sum-with_word_at xs place value (omega (arith, known.complement)) even within in
    let parts : plain_sum filled ≡ plain_sum zeroed + (65535 - known.word) = omega (arith, sum, sum', known.complement) in
    let first : IsFold known.word total = rw (← len) known.fold in
    let joined : plain_sum (pseudo_header src dst (length filled) next) + plain_sum filled ≡ total + (65535 - known.word) = rw len' (omega (arith, parts)) in
    let second : IsFold again.word (total + (65535 - known.word)) = rw (← joined) again.fold in
    again.complement ∙ all_ones total known.word again.word first second

-- two octets written in turn
set_pair : (place : ℕ) (xs : List ℕ) (a b : ℕ) → place + 2 ≤ length xs → set (set xs place a) (place + 1) b ≡ take place xs ++ (a ∷ b ∷ []) ++ drop (place + 2) xs
set_pair zero [] a b h = absurd (omega arith)
set_pair zero (x ∷ []) a b h = absurd (omega arith)
set_pair zero (x ∷ y ∷ rest) a b h = refl
set_pair (suc n) [] a b h = absurd (omega arith)
set_pair (suc n) (x ∷ xs) a b h =
    let e : suc n + 1 ≡ suc (n + 1) = omega arith in
    let f : suc n + 2 ≡ suc (n + 2) = omega arith in
    rw (e, f) (ap (λ (l : List ℕ). x ∷ l) (set_pair n xs a b (omega arith)))

pub with_word_at-set : (place : ℕ) (xs : List ℕ) (word : ℕ) → place + 2 ≤ length xs → set (set xs place (word / 256 % 256)) (place + 1) (word % 256) ≡ with_word_at xs place word
unfolding with_word_at
with_word_at-set place xs word h = set_pair place xs (word / 256 % 256) (word % 256) h

-- the later word stands
pub with_word_at-again : (place : ℕ) (xs : List ℕ) (a b : ℕ) → place + 2 ≤ length xs → with_word_at (with_word_at xs place a) place b ≡ with_word_at xs place b
unfolding with_word_at
with_word_at-again place xs a b h =
    let len = length-take-le place xs (omega arith) in
    let first = a / 256 % 256 ∷ a % 256 ∷ [] in
    let rest = drop (place + 2) xs in
    let regrouped : take place xs ++ first ++ rest ≡ take place xs ++ (first ++ rest) = append_assoc (take place xs) first rest in
    let front : take place (take place xs ++ first ++ rest) ≡ take place xs = rw regrouped (take_at (take place xs) (first ++ rest) place len) in
    let back : drop (place + 2) (take place xs ++ first ++ rest) ≡ rest = drop_at (take place xs ++ first) rest (place + 2) (omega (arith, len, length-append (take place xs) first)) in
    rw (front, back) refl
