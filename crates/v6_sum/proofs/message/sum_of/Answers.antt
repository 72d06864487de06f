use Rattle.std.proofs.Common.{◌+◌, length, arith}
use Rattle.std.specs.Int.{w128, to_be_bytes}
use Rattle.v6_sum.specs.WideSum.{IsSameFolded, plain_sum}
use Rattle.v6_sum.proofs.Checksums.{checksum-from, folded_parts}
use Rattle.v6_sum.proofs.message.sum_of.Goals as goal

pub returns : goal.returns
returns c =
    let src = plain_sum (to_be_bytes w128 c.args.src.0) in
    let dst = plain_sum (to_be_bytes w128 c.args.dst.0) in
    let len = length c.args.message.now in
    let first : IsSameFolded c.add_words-running.result (len + c.args.next + src) = rw (← c.to_be_bytes.ensures, ← c.from.ensures) c.add_words-running.ensures.same in
    let middle : IsSameFolded c.add_words-running-2.result (c.add_words-running.result + dst) = rw (← c.to_be_bytes-2.ensures) c.add_words-running-2.ensures.same in
    checksum-from c.args.src c.args.dst c.args.next c.args.message.now c.fold_carries.result (omega arith) (omega arith) (λ i. omega (arith, c.type_inv.message i)) (record {
      small = omega arith;
      same = folded_parts _ _ _ _ len c.args.next src dst (plain_sum c.args.message.now) c.fold_carries.ensures c.add_words.ensures.same middle first;
    })
