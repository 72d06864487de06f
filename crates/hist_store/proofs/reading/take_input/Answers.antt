use Rattle.std.proofs.Common.{◌∷◌, decimal}
use Rattle.hist_store.proofs.reading.take_input.Goals as goal

pub returns-in_err-port-clause-whole : goal.returns-in_err-port-clause-whole
returns-in_err-port-clause-whole c = rw c.from_residual.ensures (λ port stamp fields small is.
    absurd (c.in_err-port.ensures.whole port (decimal stamp ∷ fields) is))

pub returns-in_err-stamp-clause-whole : goal.returns-in_err-stamp-clause-whole
returns-in_err-stamp-clause-whole c = rw c.from_residual-in_err-stamp.ensures (λ port stamp fields small is.
    let one = c.in_ok-port.ensures.whole port (decimal stamp ∷ fields) is in
    absurd (c.in_err-stamp.ensures.whole stamp fields small one.1))

pub returns-clause-whole : goal.returns-clause-whole
returns-clause-whole c = λ port stamp fields small is.
    let one = c.in_ok-port.ensures.whole port (decimal stamp ∷ fields) is in
    let two = c.in_ok-stamp.ensures.whole stamp fields small one.1 in
    (one.0, two.0, two.1)
