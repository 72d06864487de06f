-- Numbers in a list of octets that is joined of two.
use Rattle.std.proofs.Common.{◌≡◌, ℕ, ◌+◌, ◌<◌, ◌≤◌, List, ◌++◌, length, get_or, ap, ◌∙◌, arith}
use Rattle.std.proofs.lemmas.List.{get_or_append_left, get_or-append_right}
use Rattle.pcap_io.specs.declared.kind.ByteOrder.{ByteOrder}
use Rattle.pcap_io.specs.Numbers.{number_at}
use Rattle.pcapng_io.specs.Numbers.{half_at}

pub half_front : (order : ByteOrder) (at : ℕ) (front behind : List ℕ) → at + 2 ≤ length front → half_at order at (front ++ behind) ≡ half_at order at front
half_front order at front behind within =
    let first : at < length front = omega arith in
    let second : at + 1 < length front = omega arith in
    rw (get_or_append_left front behind 0 at first, get_or_append_left front behind 0 (at + 1) second)

octet_behind : (front behind : List ℕ) (n at k : ℕ) → length front ≡ n → k ≡ n + at → get_or (front ++ behind) k 0 ≡ get_or behind at 0
octet_behind front behind n at k size is = get_or-append_right front behind n k 0 size (omega (arith, is)) ∙ ap (λ (j : ℕ). get_or behind j 0) (omega (arith, is))

pub number_behind : (order : ByteOrder) (front behind : List ℕ) (n at k : ℕ) → length front ≡ n → k ≡ n + at → number_at order k (front ++ behind) ≡ number_at order at behind
number_behind order front behind n at k size is =
    rw (octet_behind front behind n at k size is, octet_behind front behind n (at + 1) (k + 1) size (omega arith), octet_behind front behind n (at + 2) (k + 2) size (omega arith), octet_behind front behind n (at + 3) (k + 3) size (omega arith))

pub half_behind : (order : ByteOrder) (front behind : List ℕ) (n at k : ℕ) → length front ≡ n → k ≡ n + at → half_at order k (front ++ behind) ≡ half_at order at behind
half_behind order front behind n at k size is =
    rw (octet_behind front behind n at k size is, octet_behind front behind n (at + 1) (k + 1) size (omega arith))
