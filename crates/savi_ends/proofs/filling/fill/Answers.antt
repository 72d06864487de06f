use Rattle.std.proofs.Common.{◌≤◌, List, ℕ, length, take, sym, ap, ◌∙◌, arith}
use Rattle.savi_ends.specs.Octets.{in_front}
use Rattle.savi_ends.proofs.Octets.{takes_more}
use Rattle.savi_ends.proofs.Buffers.{take_over, within_over}
use Rattle.savi_ends.proofs.filling.fill.Goals as goal

pub loop-at-preserved : goal.loop-at-preserved
loop-at-preserved g c =
    let was = c.loop-at.invariant in
    let at = c.loop-at.at in
    let buf = c.loop-at.buf in
    let piece = c.read.new.buf in
    let left = g.S.Source.left c.read.new.self in
    let fits : c.in-Bytes.n ≤ length piece = omega (arith, c.in-Bytes.ensures.count, c.read.auto.buf) in
    record {
      still = c.in-Bytes.ensures.still (λ same. absurd cc) ∙ was.still;
      within = within_over at c.in-Bytes.n buf piece _ was.within fits;
      taken = takes_more (take at buf) (take c.in-Bytes.n piece) _ _ _ was.taken c.in-Bytes.ensures.bytes
          ∙ ap (λ (l : List ℕ). in_front l left) (sym (take_over at c.in-Bytes.n buf piece _ was.within fits));
    }
