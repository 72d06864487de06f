use Rattle.std.proofs.Common.{arith}
use Rattle.std.proofs.lemmas.Fmt.{length-decimal-le}
use Rattle.hist_store.proofs.vlan_fields.put_vlan_number.Goals as goal

pub put_decimal-requires : goal.put_decimal-requires
put_decimal-requires c =
    let digits = length-decimal-le 4 c.from.result (omega arith) (omega (arith, c.from.ensures, c.requires.vlan.1)) (omega (arith, c.from.ensures, c.requires.vlan.1)) in
    omega (arith, digits, c.requires.room)

pub returns-clause-size : goal.returns-clause-size
returns-clause-size c =
    let digits = length-decimal-le 4 c.from.result (omega arith) (omega (arith, c.from.ensures, c.requires.vlan.1)) (omega (arith, c.from.ensures, c.requires.vlan.1)) in
    omega (arith, digits, c.put_decimal.ensures.size)
