use Rattle.std.proofs.Common.{ℕ, ◌<◌, ◌^◌, ◌≤◌, length, decimal, ap, arith}
use Rattle.std.proofs.lemmas.Fmt.{length-decimal-le}
use Rattle.hist_store.specs.LineTexts.{act_fields}
use Rattle.hist_store.proofs.LineLemmas.{joined_in_order}
use Rattle.hist_store.proofs.line.put_line.Goals as goal

-- a number has at most 20 digits
digits : (n : ℕ) → n < 2 ^ 64 → length (decimal n) ≤ 20
digits n fits = length-decimal-le 20 n (omega arith) (omega (arith, fits)) (omega (arith, fits))

pub put_decimal-requires : goal.put_decimal-requires
put_decimal-requires c = omega (arith, digits c.args.n (omega (arith, c.ranges.n.fits)), ap length c.clear.ensures)

pub put_number-requires : goal.put_number-requires
put_number-requires c = omega (arith, digits c.args.n (omega (arith, c.ranges.n.fits)), ap length c.clear.ensures, c.put_decimal.ensures.size)

pub put_number-requires-2 : goal.put_number-requires-2
put_number-requires-2 c = omega (arith, digits c.args.n (omega (arith, c.ranges.n.fits)), ap length c.clear.ensures, c.put_decimal.ensures.size, c.put_number.ensures.size)

pub put_act-requires-clause-room : goal.put_act-requires-clause-room
put_act-requires-clause-room c = omega (arith, digits c.args.n (omega (arith, c.ranges.n.fits)), ap length c.clear.ensures, c.put_decimal.ensures.size, c.put_number.ensures.size, c.put_number-2.ensures.size)

pub returns-clause-text : goal.returns-clause-text
returns-clause-text c =
    let rest = act_fields c.args.e.now c.args.octets.now c.args.e.now.act in
    rw (c.put_act.ensures.text, c.put_number-2.ensures.text, c.put_number.ensures.text, c.put_decimal.ensures.text, c.clear.ensures, c.from.ensures) (joined_in_order (decimal c.args.n) (decimal c.args.e.now.by) (decimal c.args.e.now.moment) rest)

pub returns-clause-room : goal.returns-clause-room
returns-clause-room c =
    omega (arith, digits c.args.n (omega (arith, c.ranges.n.fits)), ap length c.clear.ensures, c.put_decimal.ensures.size, c.put_number.ensures.size, c.put_number-2.ensures.size, c.put_act.ensures.size)
