-- Sizes of headers, and how much of the octets they look at.
use Rattle.std.proofs.Common.{◌≡◌, ℕ, ◌<◌, ◌≤◌, List, ◌++◌, length, drop, get_or, slice_index, IsTrue, refl, arith, sym, ◌∙◌}
use Rattle.std.proofs.lemmas.Bool.{false≢true}
use Rattle.std.proofs.lemmas.List.{get_or_append_left, get_or-drop}
use Rattle.v6_chain.specs.declared.kind.Kind.{Kind}
use Rattle.v6_chain.specs.declared.kind.Kind.TheVariants.{HopByHop, Extension, Authentication, Fragment, Upper, Unknown}
use Rattle.v6_chain.specs.Headers.{size_at, offset_of, is_extension}

-- an extension header has at least 8 octets
pub size_least : (kind : Kind) (octets : List ℕ) → IsTrue (is_extension kind) → 8 ≤ size_at kind octets
size_least HopByHop octets h = omega arith
size_least Extension octets h = omega arith
size_least Authentication octets h = omega arith
size_least Fragment octets h = omega arith
size_least (Upper least) octets h = absurd (false≢true h)
size_least Unknown octets h = absurd (false≢true h)

-- the size is seen in the first two octets
pub size_same : (kind : Kind) (a b : List ℕ) → slice_index a 1 ≡ slice_index b 1 → size_at kind a ≡ size_at kind b
size_same HopByHop a b h = rw h
size_same Extension a b h = rw h
size_same Authentication a b h = rw h
size_same Fragment a b h = refl
size_same (Upper least) a b h = refl
size_same Unknown a b h = refl

-- what stands behind a header doesn't change its size
pub size_at-append : (kind : Kind) (octets rest : List ℕ) → 8 ≤ length octets → size_at kind (octets ++ rest) ≡ size_at kind octets
size_at-append kind octets rest h = size_same kind (octets ++ rest) octets (let low : 1 < length octets = omega arith in get_or_append_left octets rest 0 1 low)

-- the offset is seen in the third and the fourth octet
pub offset_same : (a b : List ℕ) → get_or (drop 2 a) 0 0 ≡ get_or (drop 2 b) 0 0 → get_or (drop 2 a) 1 0 ≡ get_or (drop 2 b) 1 0 → offset_of a ≡ offset_of b
offset_same a b high low = rw (high, low)

-- what stands behind a fragment header doesn't change its offset
pub offset_of-append : (octets rest : List ℕ) → 8 ≤ length octets → offset_of (octets ++ rest) ≡ offset_of octets
offset_of-append octets rest h =
    let two : 2 < length octets = omega arith in
    let three : 3 < length octets = omega arith in
    offset_same (octets ++ rest) octets
    (get_or-drop 2 (octets ++ rest) 0 0 ∙ get_or_append_left octets rest 0 2 two ∙ sym (get_or-drop 2 octets 0 0))
    (get_or-drop 2 (octets ++ rest) 1 0 ∙ get_or_append_left octets rest 0 3 three ∙ sym (get_or-drop 2 octets 1 0))
