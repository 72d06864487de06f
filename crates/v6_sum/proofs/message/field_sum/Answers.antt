use Rattle.std.proofs.Common.{arith}
use Rattle.v6_sum.proofs.Checksums.{checksum-filled}
use Rattle.v6_sum.proofs.message.field_sum.Goals as goal

pub returns-clause-ok : goal.returns-clause-ok
returns-clause-ok c =
    let filled = checksum-filled c.args.src c.args.dst c.args.next c.args.message.now c.args.place (omega arith) (λ i. omega (arith, c.type_inv.message i)) c.requires.even c.requires.within in
    let right = rw c.requires.zero at filled in
    rw c.sum_of.ensures right
