-- What comes in at a port, as an arrival.
use Rattle.std.specs.Prelude.{◌≤◌, length}
use Rattle.savi_kinds.specs.Arrivals as arrivals
use Rattle.ra_learn.specs.declared.coming.Coming.{Coming}
use Rattle.ra_learn.specs.declared.coming.Coming.TheVariants.{Frame, Long}
use Rattle.ra_learn.specs.Printed.{PortArrival}

abbrev pub arrival_of : Coming → PortArrival
arrival_of (Frame port stamp octets) = record { port = port; arrival = arrivals.Frame stamp octets.now }
arrival_of (Long port stamp len) = record { port = port; arrival = arrivals.Long stamp len }

-- a frame has at most 1,518 octets
abbrev pub IsShort : Coming → Type 0
IsShort (Frame port stamp octets) = length octets.now ≤ 1518
IsShort (Long port stamp len) = Unit {0}
