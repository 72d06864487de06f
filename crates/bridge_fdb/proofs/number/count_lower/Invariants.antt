use Rattle.bridge_fdb.proofs.Numbers.{IsWindow}
use Rattle.bridge_fdb.proofs.number.count_lower.Given as goal

abbrev pub invariant-loop-size : goal.invariant-loop-size
invariant-loop-size l = IsWindow l.wanted l.numbers l.low l.size

abbrev pub decreases-loop-size : goal.decreases-loop-size
decreases-loop-size l = l.size
