use Rattle.std.proofs.Common.{arith, below_more}
use Rattle.pcap_split.proofs.places.place_of.Goals as goal

pub loop-place-preserved : goal.loop-place-preserved
loop-place-preserved g c =
    let x = c.index-outputs-place.result in
    below_more _ _ c.loop-place.invariant (λ here. c.if-outputs-place.false (here.1 x))

pub returns-clause-none : goal.returns-clause-none
returns-clause-none g c = λ place is. c.loop-place.invariant place (omega (arith, is.0)) is
