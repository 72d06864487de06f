-- What the front of a record says is the same whatever stands behind it.
use Rattle.std.proofs.Common.{◌≡◌, ℕ, ◌+◌, ◌<◌, ◌≤◌, List, ◌++◌, length, take, drop, sym, ap, ◌∙◌, arith}
use Rattle.std.proofs.lemmas.List.{get_or_append_left}
use Rattle.std.proofs.Math.Seq.{take-append_seam, drop-append_seam}
use Rattle.pcap_io.specs.declared.kind.ByteOrder.{ByteOrder}
use Rattle.pcap_io.specs.declared.kind.HeaderKind.{HeaderKind}
use Rattle.pcap_io.specs.Numbers.{number_at}
use Rattle.pcap_io.specs.Records.{captured_of, stamp_of}

-- a list is its front and the rest
pub take_front : (front rest : List ℕ) (n : ℕ) → length front ≡ n → take n (front ++ rest) ≡ front
take_front front rest n size = ap (λ (k : ℕ). take k (front ++ rest)) (sym size) ∙ take-append_seam front rest

pub drop_front : (front rest : List ℕ) (n : ℕ) → length front ≡ n → drop n (front ++ rest) ≡ rest
drop_front front rest n size = ap (λ (k : ℕ). drop k (front ++ rest)) (sym size) ∙ drop-append_seam front rest

pub number_at-append : (order : ByteOrder) (at : ℕ) (front behind : List ℕ) → at + 4 ≤ length front → number_at order at (front ++ behind) ≡ number_at order at front
number_at-append order at front behind within =
    let first : at < length front = omega arith in
    let second : at + 1 < length front = omega arith in
    let third : at + 2 < length front = omega arith in
    let fourth : at + 3 < length front = omega arith in
    rw (get_or_append_left front behind 0 at first, get_or_append_left front behind 0 (at + 1) second, get_or_append_left front behind 0 (at + 2) third, get_or_append_left front behind 0 (at + 3) fourth)

pub captured_of-append : (kind : HeaderKind) (front behind : List ℕ) → 16 ≤ length front → captured_of kind (front ++ behind) ≡ captured_of kind front
captured_of-append kind front behind size = number_at-append kind.order 8 front behind (omega arith)

pub stamp_of-append : (kind : HeaderKind) (front behind : List ℕ) → 16 ≤ length front → stamp_of kind (front ++ behind) ≡ stamp_of kind front
stamp_of-append kind front behind size =
    rw (number_at-append kind.order 0 front behind (omega arith), number_at-append kind.order 4 front behind (omega arith))
