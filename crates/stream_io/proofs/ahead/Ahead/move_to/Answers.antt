use Rattle.std.proofs.Common.{◌≤◌, ◌+◌, length, drop, ◌++◌, sym, subst, arith, ◌∙◌, List, ℕ, take, ◌≡◌}
use Rattle.stream_io.proofs.AheadHeld.{moved}
use Rattle.stream_io.proofs.ahead.Ahead.move_to.Goals as goal

pub returns-clause-octets : goal.returns-clause-octets
returns-clause-octets c =
    let at = c.self.inside.at in
    let end = c.self.inside.end in
    let n = c.min-n.result in
    let within : at + n ≤ end = omega (arith, c.min-n.ensures, c.self.invariant.0) in
    let fits : end ≤ length c.self.inside.buffer = omega (arith, c.self.told, c.self.invariant.1) in
    sym c.self.view_is ∙ subst (λ (l : List ℕ). drop at (take end c.self.inside.buffer) ≡ take n (l ++ drop n c.args.buf.now) ++ drop (at + n) (take end c.self.inside.buffer)) (sym c.copy_from_slice.ensures.after) (moved at n end c.self.inside.buffer (drop n c.args.buf.now) within fits)
