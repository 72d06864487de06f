use Rattle.std.proofs.Common.{◌<◌, ◌^◌, arith}
use Rattle.savi_core.proofs.Members.{first_member, first_lowest}
use Rattle.savi_core.proofs.port_sets.first.Goals as goal

pub returns-clause-member : goal.returns-clause-member
returns-clause-member c =
    let some : 0 < c.args.set.0 = omega arith in
    let small : c.args.set.0 < 2 ^ 16 = omega arith in
    first_member c.args.set c.new.result some small c.new.ensures.some c.new.ensures.value

pub returns-clause-lowest : goal.returns-clause-lowest
returns-clause-lowest c =
    let some : 0 < c.args.set.0 = omega arith in
    let small : c.args.set.0 < 2 ^ 16 = omega arith in
    first_lowest c.args.set c.new.result some small c.new.ensures.value
