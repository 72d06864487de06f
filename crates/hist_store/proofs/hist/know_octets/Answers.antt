use Rattle.std.proofs.Common.{arith}
use Rattle.hist_store.proofs.hist.know_octets.Goals as goal

pub returns : goal.returns
returns c = λ i. let fits = c.type_inv.store i in omega arith
