use Rattle.intake_ring.specs.Sides.{put_of, taken_of}
use Rattle.parcel_ring.proofs.Contents.{prefix_of}
use Rattle.parcel_ring.proofs.ring.ParcelRing.close.Goals as goal

pub returns : goal.returns
returns g c = prefix_of (taken_of c.args.taker.full) (put_of c.args.filler.full) c.close.ensures
