use Rattle.std.proofs.Common.{◌<◌, ◌+◌, ◌*◌, ◌/◌, ◌%◌, get_or, refl, sym, arith}
use Rattle.hist_store.proofs.HexRead.{encode-none, bytes_none, bytes_push, digits_at, octet_read, octets_read}
use Rattle.hist_store.proofs.read_hex.read_digits.Goals as goal
use Rattle.hist_store.proofs.read_hex.read_digits.Goals.{then-high-gt15-via-then-high-gt15, then-high-gt15-via-else-high-gt15+then-low-gt15}

pub loop-i-init : goal.loop-i-init
loop-i-init c = rw c.requires.empty (record { text = sym encode-none; bytes = bytes_none; size = refl })

pub returns-then-high-gt15-clause-whole : goal.returns-then-high-gt15-clause-whole
returns-then-high-gt15-clause-whole c = λ bytes is text.
    let i = c.loop-i.i in
    let pair = digits_at c.args.digits.now bytes i is text c.loop-i-test.true in
    let octet : get_or bytes i 0 < 256 = pair.2 in
    let high = c.digit_value-high.ensures.only (get_or bytes i 0 / 16) (omega arith) pair.0 in
    let low = c.digit_value-low.ensures.only (get_or bytes i 0 % 16) (omega arith) pair.1 in
    elim c.then-high-gt15.branch [
      | then-high-gt15-via-then-high-gt15 w ↦ absurd (omega (arith, high, octet, w.if-high-gt15.true))
      | then-high-gt15-via-else-high-gt15+then-low-gt15 w ↦ absurd (omega (arith, low, w.if-low-gt15.true))
    ]

pub loop-i-preserved : goal.loop-i-preserved
loop-i-preserved c =
    let was = c.loop-i.invariant in
    let high = c.digit_value-high in
    let low = c.digit_value-low in
    let h : high.result < 16 = omega (arith, c.if-high-gt15.false) in
    let l : low.result < 16 = omega (arith, c.if-low-gt15.false) in
    let octet : high.result * 16 + low.result < 256 = omega arith in
    rw c.push.ensures.items (record {
      text = octet_read c.args.digits.now c.loop-i.octets.items c.loop-i.i high.result low.result c.loop-i-test.true h l (high.ensures.digit h) (low.ensures.digit l) was.text;
      bytes = bytes_push c.loop-i.octets.items (high.result * 16 + low.result) was.bytes octet;
      size = rw (sym c.push.ensures.items) (omega (arith, c.push.ensures.len, was.size));
    })

pub returns-clause-whole : goal.returns-clause-whole
returns-clause-whole c = λ bytes is text.
    let was = c.loop-i.invariant in
    (refl, octets_read c.args.digits.now c.loop-i.octets.items bytes c.loop-i.i c.requires.even c.loop-i-test.false was.text was.bytes is text)
