use Rattle.hist_store.proofs.OneEntry.{one_entry}
use Rattle.hist_store.proofs.line_laws.a_line_says_one_entry.Goals as goal

pub returns-clause-number : goal.returns-clause-number
returns-clause-number c = λ line n m row other a b. (one_entry line n m row other a b).0

pub returns-clause-row : goal.returns-clause-row
returns-clause-row c = λ line n m row other a b. (one_entry line n m row other a b).1
