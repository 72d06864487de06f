use Rattle.std.proofs.Common.{arith}
use Rattle.std.proofs.lemmas.Fmt.{length-decimal-le}
use Rattle.switch_report.proofs.end_line.put_counted.Goals as goal

pub put_number-requires : goal.put_number-requires
put_number-requires c =
    let digits = length-decimal-le 20 c.args.count (omega arith) (omega (arith, c.ranges.count.fits)) (omega (arith, c.ranges.count.fits)) in
    omega (arith, digits, c.put_who.ensures.size, c.requires.short, c.as_bytes.ensures.len, c.put_octets.ensures.size)

pub push-requires : goal.push-requires
push-requires c =
    let digits = length-decimal-le 20 c.args.count (omega arith) (omega (arith, c.ranges.count.fits)) (omega (arith, c.ranges.count.fits)) in
    omega (arith, digits, c.put_who.ensures.size, c.requires.short, c.as_bytes.ensures.len, c.put_octets.ensures.size, c.put_number.ensures.size)
