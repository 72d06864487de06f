use Rattle.std.proofs.Common.{◌≡◌, ℕ, ◌+◌, ◌-◌, ◌*◌, ◌/◌, ◌%◌, ◌^◌, ◌<◌, ◌≤◌, List, length, get_or, take, drop, refl, bit_and, arith, add-zero}
use Rattle.std.proofs.lemmas.List.{get_or-drop, get_or-take}
use Rattle.std.proofs.lemmas.Nat.{and_mask}
use Rattle.v6_sum.specs.WideSum.{plain_sum}
use Rattle.v6_sum.proofs.FoldedSums.{folded_self, folded_add, folded_wide}
use Rattle.v6_sum.proofs.WordLists.{plain_sum-nil, plain_sum-more_two, plain_sum-more_eight, plain_sum-last, below-take, below-drop}
use Rattle.v6_sum.proofs.words.add_words.Goals as goal

-- an octet of what was taken from a place on
octet_at : (xs : List ℕ) (n k : ℕ) → n + k < length xs → get_or (take (length xs - n) (drop n xs)) k 0 ≡ get_or xs (n + k) 0
octet_at xs n k h = rw (get_or-take (length xs - n) (drop n xs) k 0 (omega arith), get_or-drop n xs k 0) refl

pub wide-init : goal.wide-init
wide-init c =
    let none : c.args.running + plain_sum (take 0 c.args.octets.now) ≡ c.args.running = omega (arith, plain_sum-nil) in
    (omega arith, record { even = refl; bound = omega arith; same = rw none (folded_self c.args.running) })

-- a number of 64 bits in its two halves, and these in the words that it stands for
halves : (word a0 a1 a2 a3 a4 a5 a6 a7 : ℕ) → a0 < 256 → a1 < 256 → a2 < 256 → a3 < 256 → a4 < 256 → a5 < 256 → a6 < 256 → a7 < 256
    → word ≡ a0 * 256 ^ 7 + (a1 * 256 ^ 6 + (a2 * 256 ^ 5 + (a3 * 256 ^ 4 + (a4 * 256 ^ 3 + (a5 * 256 ^ 2 + (a6 * 256 ^ 1 + (a7 * 256 ^ 0 + 0)))))))
    → word / 4294967296 + word % 4294967296 ≡ (65536 * (256 * a0 + a1) + (256 * a2 + a3)) + (65536 * (256 * a4 + a5) + (256 * a6 + a7))
halves word a0 a1 a2 a3 a4 a5 a6 a7 l0 l1 l2 l3 l4 l5 l6 l7 e = omega arith

pub wide-preserved : goal.wide-preserved
wide-preserved c =
    let xs = c.args.octets.now in
    let n = c.wide.at in
    let known = c.wide.invariant.1 in
    let rest = take (length xs - n) (drop n xs) in
    let small = below-take 256 (length xs - n) (drop n xs) (below-drop 256 n xs (λ i. omega (arith, c.type_inv.octets i))) in
    let w = c.read_u64-word.result in
    let low : bit_and w 4294967295 ≡ w % 4294967296 = and_mask w 32 in
    let split = halves w _ _ _ _ _ _ _ _ (small 0) (small 1) (small 2) (small 3) (small 4) (small 5) (small 6) (small 7) c.read_u64-word.ensures in
    let e0 : get_or rest 0 0 ≡ get_or xs n 0 = rw (octet_at xs n 0 (omega arith), add-zero) refl in
    let e1 = octet_at xs n 1 (omega arith) in
    let e2 = octet_at xs n 2 (omega arith) in
    let e3 = octet_at xs n 3 (omega arith) in
    let e4 = octet_at xs n 4 (omega arith) in
    let e5 = octet_at xs n 5 (omega arith) in
    let e6 = octet_at xs n 6 (omega arith) in
    let e7 = octet_at xs n 7 (omega arith) in
    let added = plain_sum-more_eight n xs known.even (omega arith) in
    let step = folded_wide c.wide.total (c.args.running + plain_sum (take n xs)) (256 * get_or rest 0 0 + get_or rest 1 0) (256 * get_or rest 2 0 + get_or rest 3 0) (256 * get_or rest 4 0 + get_or rest 5 0) (256 * get_or rest 6 0 + get_or rest 7 0) known.same in
    let left : c.wide.total + (w / 4294967296 + bit_and w 4294967295) ≡ c.wide.total + ((65536 * (256 * get_or rest 0 0 + get_or rest 1 0) + (256 * get_or rest 2 0 + get_or rest 3 0)) + (65536 * (256 * get_or rest 4 0 + get_or rest 5 0) + (256 * get_or rest 6 0 + get_or rest 7 0))) = omega (arith, low, split) in
    let right : c.args.running + plain_sum (take (n + 8) xs) ≡ c.args.running + plain_sum (take n xs) + ((256 * get_or rest 0 0 + get_or rest 1 0) + (256 * get_or rest 2 0 + get_or rest 3 0) + (256 * get_or rest 4 0 + get_or rest 5 0) + (256 * get_or rest 6 0 + get_or rest 7 0)) = omega (arith, added, e0, e1, e2, e3, e4, e5, e6, e7) in
    let bound : c.wide.total + (w / 4294967296 + bit_and w 4294967295) ≤ c.args.running + 2 ^ 30 * (n + 8) = omega (arith, low, known.bound, c.read_u64-word.type_inv) in
    (omega arith, record { even = omega (arith, known.even); bound = bound; same = rw (left, right) step })

pub narrow-preserved : goal.narrow-preserved
narrow-preserved c =
    let xs = c.args.octets.now in
    let n = c.narrow.at in
    let known = c.narrow.invariant.1 in
    let e0 : get_or (take (length xs - n) (drop n xs)) 0 0 ≡ get_or xs n 0 = rw (octet_at xs n 0 (omega arith), add-zero) refl in
    let e1 = octet_at xs n 1 (omega arith) in
    let added = plain_sum-more_two n xs known.even (omega arith) in
    let step = folded_add c.narrow.total (c.args.running + plain_sum (take n xs)) c.from-total.result known.same in
    let right : c.args.running + plain_sum (take (n + 2) xs) ≡ c.args.running + plain_sum (take n xs) + c.from-total.result = omega (arith, added, e0, e1, c.from-total.ensures, c.read_u16.ensures) in
    (omega arith, record { even = omega (arith, known.even); bound = omega (arith, known.bound); same = rw right step })

pub returns-then-at-octets-clause-same : goal.returns-then-at-octets-clause-same
returns-then-at-octets-clause-same c =
    let xs = c.args.octets.now in
    let n = c.narrow.at in
    let known = c.narrow.invariant.1 in
    let added = plain_sum-last n xs known.even (omega arith) in
    let step = folded_add c.narrow.total (c.args.running + plain_sum (take n xs)) (c.from.result * 256) known.same in
    let right : c.args.running + plain_sum xs ≡ c.args.running + plain_sum (take n xs) + c.from.result * 256 = omega (arith, added, c.from.ensures) in
    rw right step
