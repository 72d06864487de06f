use Rattle.std.proofs.Common.{◌≤◌, length, take, ◌++◌, ◌∙◌, arith, length-append, length-take-le}
use Rattle.std.proofs.lemmas.List.{length-take}
use Rattle.savi_ends.proofs.Octets.{takes_more}
use Rattle.pcapng_io.proofs.taking.pass_over.Goals as goal

pub loop-missing-preserved : goal.loop-missing-preserved
loop-missing-preserved g c =
    let was = c.loop-missing.invariant in
    let piece = take c.in-Bytes.n c.read.new.buf in
    let missing = c.loop-missing.missing in
    let fits : c.in-Bytes.n ≤ length c.read.new.buf = omega (arith, c.in-Bytes.ensures.count, c.read.auto.buf) in
    let room : c.in-Bytes.n ≤ missing = omega (arith, c.in-Bytes.ensures.count, c.min-room.ensures, length-take c.min-room.result c.loop-missing.scratch) in
    record {
      still = c.in-Bytes.ensures.still (λ same. absurd cc) ∙ was.still;
      taken = (
        was.taken.0 ++ piece,
        takes_more was.taken.0 piece _ _ _ was.taken.1 c.in-Bytes.ensures.bytes,
        omega (arith, was.taken.2, length-append was.taken.0 piece, length-take-le c.in-Bytes.n c.read.new.buf fits),
      );
    }
