use Rattle.std.proofs.Common.{◌∷◌}
use Rattle.hist_store.specs.PortTexts.{members_text}
use Rattle.hist_store.proofs.reading.take_outs.Goals as goal

pub returns-in_err-outs-clause-whole : goal.returns-in_err-outs-clause-whole
returns-in_err-outs-clause-whole c = rw c.from_residual.ensures (λ outs cuts fields p q is.
    absurd (c.in_err-outs.ensures.whole outs (members_text cuts ∷ fields) p is))

pub returns-in_err-cuts-clause-whole : goal.returns-in_err-cuts-clause-whole
returns-in_err-cuts-clause-whole c = rw c.from_residual-in_err-cuts.ensures (λ outs cuts fields p q is.
    let one = c.in_ok-outs.ensures.whole outs (members_text cuts ∷ fields) p is in
    absurd (c.in_err-cuts.ensures.whole cuts fields q one.1))

pub returns-clause-whole : goal.returns-clause-whole
returns-clause-whole c = λ outs cuts fields p q is.
    let one = c.in_ok-outs.ensures.whole outs (members_text cuts ∷ fields) p is in
    let two = c.in_ok-cuts.ensures.whole cuts fields q one.1 in
    (one.0, two.0, two.1)
