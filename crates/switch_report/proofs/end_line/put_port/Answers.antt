use Rattle.std.proofs.Common.{arith, ap, length}
use Rattle.std.proofs.lemmas.Fmt.{length-decimal-le}
use Rattle.switch_report.proofs.end_line.put_port.Goals as goal

pub put_number-requires : goal.put_number-requires
put_number-requires c =
    let small = length-decimal-le 2 c.from.result (omega arith) (omega (arith, c.from.ensures, c.get.ensures.high)) (omega (arith, c.from.ensures, c.get.ensures.high)) in
    omega (arith, small, c.put_octets.ensures.size, ap length c.requires)

pub returns-clause-size : goal.returns-clause-size
returns-clause-size c =
    let small = length-decimal-le 2 c.from.result (omega arith) (omega (arith, c.from.ensures, c.get.ensures.high)) (omega (arith, c.from.ensures, c.get.ensures.high)) in
    omega (arith, small, c.put_octets.ensures.size, ap length c.requires, c.put_number.ensures.size)
