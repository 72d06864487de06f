use Rattle.std.proofs.Common.{◌-◌, ◌≤◌, length}
use Rattle.v6_sum.proofs.FoldedSums.{HasAdded}
use Rattle.v6_sum.proofs.words.add_words.Given as goal

abbrev pub invariant-wide : goal.invariant-wide
invariant-wide l = (l.at ≤ length l.octets) × HasAdded l.running l.total l.at l.octets

abbrev pub decreases-wide : goal.decreases-wide
decreases-wide l = length l.octets - l.at

abbrev pub invariant-narrow : goal.invariant-narrow
invariant-narrow l = (l.at ≤ length l.octets) × HasAdded l.running l.total l.at l.octets

abbrev pub decreases-narrow : goal.decreases-narrow
decreases-narrow l = length l.octets - l.at
