use Rattle.std.proofs.Common.{arith}
use Rattle.std.proofs.lemmas.Fmt.{length-decimal-le}
use Rattle.hist_store.proofs.port_fields.put_port.Goals as goal

pub put_decimal-requires : goal.put_decimal-requires
put_decimal-requires c =
    let small = length-decimal-le 2 c.from.result (omega arith) (omega (arith, c.from.ensures, c.get.ensures.high)) (omega (arith, c.from.ensures, c.get.ensures.high)) in
    omega (arith, small)

pub returns-clause-size : goal.returns-clause-size
returns-clause-size c =
    let small = length-decimal-le 2 c.from.result (omega arith) (omega (arith, c.from.ensures, c.get.ensures.high)) (omega (arith, c.from.ensures, c.get.ensures.high)) in
    omega (arith, small, c.put_decimal.ensures.size)
