use Rattle.std.proofs.Common.{◌≤◌, ◌^◌, arith}
use Rattle.ra_learn.proofs.learner.Learner.is_window_open.Goals as goal

pub overflow_add-result : goal.overflow_add-result
overflow_add-result c =
    let first : c.in-Some.first ≤ 2 ^ 62 = rw c.in-Some.is at c.self.invariant.1 in
    omega (arith, first, c.self.invariant.0)
