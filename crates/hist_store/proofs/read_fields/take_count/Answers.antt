use Rattle.std.proofs.Common.{arith}
use Rattle.hist_store.proofs.read_fields.take_count.Goals as goal

pub returns-in_err-number-clause-whole : goal.returns-in_err-number-clause-whole
returns-in_err-number-clause-whole c = rw c.from_residual.ensures (λ n fields small is. c.in_err-number.ensures.whole n fields (omega (arith, small)) is)

pub returns-then-number-gt-COUNT_MOST-clause-whole : goal.returns-then-number-gt-COUNT_MOST-clause-whole
returns-then-number-gt-COUNT_MOST-clause-whole c = λ n fields small is.
    let same = (c.in_ok-number.ensures.whole n fields (omega (arith, small)) is).0 in
    let past = c.if-number-gt-COUNT_MOST.true in
    omega (arith, small, same, past)

pub returns-clause-whole : goal.returns-clause-whole
returns-clause-whole c = λ n fields small is. c.in_ok-number.ensures.whole n fields (omega (arith, small)) is
