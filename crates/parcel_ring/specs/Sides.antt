-- What clauses see of the two ends: what came through their rings, and not the boxes in which it came.
use Rattle.std.specs.Prelude.{◌≡◌, List, map, box_value}
use Rattle.std.specs.declared.boxed.Box.{Box}
use Rattle.std.specs.Global.{Global}
use Rattle.atomic_table.specs.Seated.{TableId}
use Rattle.intake_ring.specs.Sides.{filler_ring, taker_ring, put_of, taken_of}
use Rattle.parcel_ring.specs.Handed.{Handed}
use Rattle.parcel_ring.specs.declared.filler.ParcelFiller.{ParcelFiller}
use Rattle.parcel_ring.specs.declared.taker.ParcelTaker.{ParcelTaker}

-- what is in boxes
abbrev pub contents : List (Box Handed Global) → List Handed
contents boxes = map (λ box. box_value box) boxes

-- all that was put so far, in order
abbrev pub was_put : ParcelFiller → List Handed
was_put filler = contents (put_of filler.full)

-- all that was taken so far, in order
abbrev pub was_taken : ParcelTaker → List Handed
was_taken taker = contents (taken_of taker.full)

-- the boxes that this end gave back so far, in order, and those that came with the ring
abbrev pub given_back : ParcelTaker → List (Box Handed Global)
given_back taker = put_of taker.spare

-- the two rings of an end: the one by which parcels go, and the one by which they come back
abbrev pub filler_rings : ParcelFiller → TableId × TableId
filler_rings filler = (filler_ring filler.full, taker_ring filler.spare)

abbrev pub taker_rings : ParcelTaker → TableId × TableId
taker_rings taker = (taker_ring taker.full, filler_ring taker.spare)

-- the two ends of the same rings
abbrev pub AreTwoEnds : ParcelFiller → ParcelTaker → Type 0
AreTwoEnds filler taker = filler_rings filler ≡ taker_rings taker
