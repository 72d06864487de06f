use Rattle.std.proofs.Common.{◌≡◌, ◌%◌, bit_and}
use Rattle.std.proofs.lemmas.Nat.{and_mask}
use Rattle.v6_sum.proofs.FoldedSums.{folded_high, folded_trans}
use Rattle.v6_sum.proofs.words.fold_carries.Goals as goal

pub carry-preserved : goal.carry-preserved
carry-preserved c =
    let low : bit_and c.carry.total 65535 ≡ c.carry.total % 65536 = and_mask c.carry.total 16 in
    rw low (folded_trans _ _ _ (folded_high c.carry.total) c.carry.invariant)
