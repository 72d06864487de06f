use Rattle.std.proofs.Common.{ap}
use Rattle.intake_ring.specs.Sides.{put_of}
use Rattle.parcel_ring.proofs.Contents.{one_behind}
use Rattle.parcel_ring.proofs.filler.ParcelFiller.put_frame.Goals as goal

pub returns-clause-put : goal.returns-clause-put
returns-clause-put g c = one_behind _ _ _ _ _ (ap (λ full. put_of full) c.next_spare-parcel.ensures.full) c.put.ensures.put c.set_frame.ensures
