use Rattle.std.proofs.Common.{◌≡◌, ◌≤◌, ◌++◌, List, ℕ, length, take, sym, ap, subst, ◌∙◌, arith, length-take-le}
use Rattle.savi_ends.proofs.Octets.{takes_more}
use Rattle.savi_ends.proofs.Buffers.{take_over, within_over}
use Rattle.stream_io.proofs.AheadHeld.{Unread, used_more, unread_more, used_all}
use Rattle.stream_io.proofs.ahead.Ahead.fill.Goals as goal

pub loop-at-preserved : goal.loop-at-preserved
loop-at-preserved g c =
    let was = c.loop-at.invariant in
    let at = c.loop-at.at in
    let buf = c.loop-at.buf in
    let n = c.move_to-at.result in
    let piece = c.move_to-at.new.buf in
    let took = c.in-Bytes.ensures.octets in
    let used = c.move_to-at.ensures.octets in
    let fits : n ≤ length piece = omega (arith, c.move_to-at.ensures.count, c.move_to-at.auto.buf) in
    let some : 1 ≤ n = omega (arith, c.move_to-at.ensures.count, c.in-Bytes.ensures.holds, c.loop-at-test.true) in
    let part : length (take n piece) ≡ n = length-take-le n piece fits in
    let written = take_over at n buf piece _ was.within fits in
    record {
      still = c.in-Bytes.ensures.still (λ same. absurd cc) ∙ was.still;
      within = within_over at n buf piece _ was.within fits;
      taken = (
        was.taken.0 ++ took.0,
        takes_more was.taken.0 took.0 _ _ _ was.taken.1 took.1,
        used_more c.args.self.now was.taken.0 took.0 (take at buf) c.loop-at.self c.hold.new.self (take n piece) c.move_to-at.new.self was.taken.2 took.2 used
            ∙ ap (λ (l : List ℕ). l ++ c.move_to-at.new.self) (sym written),
      );
      unread =
          subst (λ (l : List ℕ). Unread c.hold.new.source c.args.source.now c.args.self.now l c.move_to-at.new.self) (sym written)
          (unread_more c.hold.new.source c.loop-at.source c.args.source.now c.args.self.now (take at buf) c.loop-at.self c.hold.new.self (take n piece) c.move_to-at.new.self was.unread c.in-Bytes.ensures.unread used (omega (arith, part, some)));
    }

pub returns-in-End-clause-octets : goal.returns-in-End-clause-octets
returns-in-End-clause-octets g c =
    let was = c.loop-at.invariant in
    let took = c.in-End.ensures.octets in (
      was.taken.0 ++ took.0,
      takes_more was.taken.0 took.0 _ _ _ was.taken.1 took.1,
      (
        c.loop-at-test.true,
        used_all c.args.self.now was.taken.0 took.0 (take c.loop-at.at c.loop-at.buf) c.loop-at.self c.hold.new.self was.taken.2 took.2 c.in-End.ensures.holds.0,
        c.in-End.ensures.holds.1,
      ),
    )

pub returns-in-Failed-clause-octets : goal.returns-in-Failed-clause-octets
returns-in-Failed-clause-octets g c =
    let was = c.loop-at.invariant in
    let took = c.in-Failed.ensures.octets in
    let all = used_all c.args.self.now was.taken.0 took.0 (take c.loop-at.at c.loop-at.buf) c.loop-at.self c.hold.new.self was.taken.2 took.2 c.in-Failed.ensures.holds in
    let front : length (take c.loop-at.at c.loop-at.buf) ≡ c.loop-at.at = length-take-le c.loop-at.at c.loop-at.buf was.within in (
      was.taken.0 ++ took.0,
      takes_more was.taken.0 took.0 _ _ _ was.taken.1 took.1,
      omega (arith, ap length all, front, c.loop-at-test.true),
    )
