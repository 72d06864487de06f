-- What a parcel has in it.
use Rattle.std.specs.Prelude.{ℕ, List}
use Rattle.savi_kinds.specs.Arrivals.{Frame, Long}
use Rattle.parcel_ring.specs.declared.parcel.Kind.{Kind}
use Rattle.parcel_ring.specs.declared.parcel.Kind.TheVariants as kinds
use Rattle.parcel_ring.specs.Handed.{Handed, Arrived, Ended}

abbrev pub handed_of : Kind → List ℕ → Handed
handed_of (kinds.Frame stamp) octets = Arrived (Frame stamp octets)
handed_of (kinds.Long stamp len) octets = Arrived (Long stamp len)
handed_of (kinds.End how) octets = Ended how
