-- The octets of a probe, and what reading them gives.
use Rattle.std.proofs.Common.{◌≡◌, ℕ, List, [], ◌∷◌, ◌++◌, length, refl, ap}
use Rattle.std.proofs.lemmas.List.{append_assoc}
use Rattle.std.specs.Int.{w128, to_be_bytes, bytes_high_first}
use Rattle.savi_kinds.specs.declared.address.Addr.{Addr}
use Rattle.savi_kinds.specs.declared.address.Mac.{Mac}
use Rattle.v6_sum.specs.InternetChecksum.{with_word_at}
use Rattle.probe_write.specs.ProbeFrame.{solicited_node_of, solicitation_with, solicitation_of, probe_of}

-- the octets before the checksum is put in
pub blank_is : (target : Addr) (octets : List ℕ) → octets ≡ to_be_bytes w128 target.0 → 135 ∷ 0 ∷ 0 ∷ 0 ∷ 0 ∷ 0 ∷ 0 ∷ 0 ∷ octets ≡ solicitation_with target 0
unfolding solicitation_with
blank_is target octets e = ap (λ (l : List ℕ). 135 ∷ 0 ∷ 0 ∷ 0 ∷ 0 ∷ 0 ∷ 0 ∷ 0 ∷ l) e

-- another word in the field
pub field_is : (target : Addr) (a b : ℕ) → with_word_at (solicitation_with target a) 2 b ≡ solicitation_with target b
unfolding with_word_at solicitation_with
field_is target a b = refl

pub length-solicitation : (target : Addr) (sum : ℕ) → length (solicitation_with target sum) ≡ 24
unfolding solicitation_with
length-solicitation target sum = refl

-- pieces appended to what stands before, one by one or together
joined : (x a b c d e : List ℕ) → x ++ a ++ b ++ c ++ d ++ e ≡ x ++ (a ++ b ++ c ++ d ++ e)
joined x a b c d e = simp append_assoc

-- the pieces in their order
pub frame_is : (mac : Mac) (target : Addr) → [] ++ (51 ∷ 51 ∷ []) ++ bytes_high_first 4 (solicited_node_of target).0 ++ mac.0 ++ (134 ∷ 221 ∷ []) ++ (96 ∷ 0 ∷ 0 ∷ 0 ∷ []) ++ (0 ∷ 24 ∷ []) ++ (58 ∷ 255 ∷ []) ++ bytes_high_first 16 0 ++ bytes_high_first 16 (solicited_node_of target).0 ++ solicitation_of target ≡ probe_of mac target
unfolding probe_of
frame_is mac target =
    let group = (solicited_node_of target).0 in
    let x = (51 ∷ 51 ∷ []) ++ bytes_high_first 4 group ++ mac.0 ++ (134 ∷ 221 ∷ []) in
    ap (λ (l : List ℕ). l ++ solicitation_of target) (joined x (96 ∷ 0 ∷ 0 ∷ 0 ∷ []) (0 ∷ 24 ∷ []) (58 ∷ 255 ∷ []) (bytes_high_first 16 0) (bytes_high_first 16 group))
