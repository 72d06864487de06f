-- Each header takes at least 8 octets of the body.
use Rattle.std.proofs.Common.{◌-◌, length}
use Rattle.v6_chain.proofs.Going.{IsUnderway}
use Rattle.v6_chain.proofs.walk.chain.Given as goal

abbrev pub invariant-loop-further : goal.invariant-loop-further
invariant-loop-further l = IsUnderway l.ip.next l.body l.place

abbrev pub decreases-loop-further : goal.decreases-loop-further
decreases-loop-further l = length l.body - l.place.at
