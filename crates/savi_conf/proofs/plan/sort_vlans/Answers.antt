use Rattle.std.proofs.Common.{rules}
use Rattle.std.proofs.lemmas.List.Sorted.{IsNonDecreasingBy-from_sort}
use Rattle.arrayvec.proofs.ArrayVecLemmas.{items-with_items}
use Rattle.savi_conf.proofs.plan.sort_vlans.Goals as goal

pub returns-clause-order : goal.returns-clause-order
returns-clause-order c = rw (items-with_items c.args.vlans.now c.sort_unstable.new.self (search rules)) (IsNonDecreasingBy-from_sort (λ v. v) _ c.sort_unstable.ensures.sorted)
