use Rattle.std.proofs.Common.{arith, ap, length}
use Rattle.std.proofs.lemmas.Fmt.{length-decimal-le}
use Rattle.savi_kinds.proofs.AddrWritten.{most_len}
use Rattle.hist_store.proofs.header.put_prefix.Goals as goal

pub put_decimal-requires : goal.put_decimal-requires
put_decimal-requires c =
    let digits = length-decimal-le 3 c.from.result (omega arith) (omega (arith, c.from.ensures, c.ranges.len.fits)) (omega (arith, c.from.ensures, c.ranges.len.fits)) in
    omega (arith, digits, most_len c.args.net, ap length c.put_addr-address.ensures, ap length c.as_str.ensures.value, c.put_word.ensures.size, c.push.ensures.len, c.requires)

pub returns-clause-size : goal.returns-clause-size
returns-clause-size c =
    let digits = length-decimal-le 3 c.from.result (omega arith) (omega (arith, c.from.ensures, c.ranges.len.fits)) (omega (arith, c.from.ensures, c.ranges.len.fits)) in
    omega (arith, digits, most_len c.args.net, ap length c.put_addr-address.ensures, ap length c.as_str.ensures.value, c.put_word.ensures.size, c.push.ensures.len, c.put_decimal.ensures.size)
