use Rattle.v6_sum.specs.WideSum.{IsSameFolded}
use Rattle.v6_sum.proofs.words.fold_carries.Given as goal

abbrev pub invariant-carry : goal.invariant-carry
invariant-carry l = IsSameFolded l.total l.running

abbrev pub decreases-carry : goal.decreases-carry
decreases-carry l = l.total
