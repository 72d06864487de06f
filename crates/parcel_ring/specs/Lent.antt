-- What came, as it is lent.
use Rattle.savi_kinds.specs.Arrivals.{Frame, Long}
use Rattle.parcel_ring.specs.declared.parcel.Arrival.{Arrival}
use Rattle.parcel_ring.specs.declared.parcel.Arrival.TheVariants as lent
use Rattle.parcel_ring.specs.Handed.{Handed, Arrived, Ended}

abbrev pub handed_by : Arrival → Handed
handed_by (lent.Frame stamp octets) = Arrived (Frame stamp octets.now)
handed_by (lent.Long stamp len) = Arrived (Long stamp len)
handed_by (lent.End how) = Ended how
