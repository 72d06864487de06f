use Rattle.std.proofs.Common.{◌∷◌, ◌++◌, List, [], ℕ, decimal, ap, sym, ◌∙◌, append_assoc}
use Rattle.hist_store.specs.JournalTexts.{address_text}
use Rattle.hist_store.proofs.read_header.length_behind.Goals as goal

pub returns-in_err-behind-clause-whole : goal.returns-in_err-behind-clause-whole
returns-in_err-behind-clause-whole c = rw c.from_residual.ensures (λ len small is.
    let printed = c.as_str.ensures.value ∙ c.put_addr.ensures in
    let parted = is ∙ append_assoc (address_text c.args.net.0) (47 ∷ []) (decimal len) in
    absurd (c.in_err-behind.ensures.whole (47 ∷ decimal len) (parted ∙ ap (λ (t : List ℕ). t ++ 47 ∷ decimal len) (sym printed))))
