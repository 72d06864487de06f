use Rattle.intake_ring.specs.Sides.{taken_of}
use Rattle.parcel_ring.proofs.Contents.{taken_more, taken_none}
use Rattle.parcel_ring.proofs.taker.ParcelTaker.try_take.Goals as goal

pub returns-clause-none : goal.returns-clause-none
returns-clause-none g c = taken_none (taken_of c.args.self.now.full) c.try_take.result c.try_take.ensures.none

pub returns-clause-taken : goal.returns-clause-taken
returns-clause-taken g c = taken_more (taken_of c.args.self.now.full) (taken_of c.try_take.new.self) c.try_take.result c.try_take.ensures.taken
