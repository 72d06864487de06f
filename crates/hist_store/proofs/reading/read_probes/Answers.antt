use Rattle.std.proofs.Common.{ℕ, [], ◌∷◌, decimal, Option, Some, ap₂}
use Rattle.hist_store.proofs.EndRead.{none_left}
use Rattle.hist_store.proofs.reading.read_probes.Goals as goal

pub returns-in_err-probes-clause-whole : goal.returns-in_err-probes-clause-whole
returns-in_err-probes-clause-whole c = rw c.from_residual.ensures (λ probes lost p l is.
    absurd (c.in_err-probes.ensures.whole probes (decimal lost ∷ []) p is))

pub returns-in_err-lost-clause-whole : goal.returns-in_err-lost-clause-whole
returns-in_err-lost-clause-whole c = rw c.from_residual-in_err-lost.ensures (λ probes lost p l is.
    let one = c.in_ok-probes.ensures.whole probes (decimal lost ∷ []) p is in
    absurd (c.in_err-lost.ensures.whole lost [] l one.1))

pub returns-then-is_empty-clause-whole : goal.returns-then-is_empty-clause-whole
returns-then-is_empty-clause-whole c = λ probes lost p l is.
    let one = c.in_ok-probes.ensures.whole probes (decimal lost ∷ []) p is in
    let two = c.in_ok-lost.ensures.whole lost [] l one.1 in
    ap₂ (λ (a b : ℕ). let o : Option (ℕ × ℕ) = Some (a, b) in o) one.0 two.0

pub returns-else-is_empty-clause-whole : goal.returns-else-is_empty-clause-whole
returns-else-is_empty-clause-whole c = λ probes lost p l is.
    let one = c.in_ok-probes.ensures.whole probes (decimal lost ∷ []) p is in
    let two = c.in_ok-lost.ensures.whole lost [] l one.1 in
    absurd (none_left _ c.is_empty.result two.1 c.is_empty.ensures c.if-is_empty.false)
