use Rattle.std.proofs.Common.{length, ap, arith}
use Rattle.std.proofs.lemmas.Fmt.{length-decimal-le}
use Rattle.hist_store.proofs.header.put_end.Goals as goal

pub put_setting-requires : goal.put_setting-requires
put_setting-requires c =
    let digits = length-decimal-le 20 c.args.count (omega arith) (omega (arith, c.ranges.count.fits)) (omega (arith, c.ranges.count.fits)) in
    omega (arith, digits, ap length c.clear.ensures)
