-- What the workers of a port, and those of control, have beside its ends.
use Rattle.std.specs.Prelude.{◌≡◌, ℕ, ◌<◌, List, [], length, slice_index_or}
use Rattle.savi_kinds.specs.declared.plan.PortPlan.{PortPlan}
use Rattle.intake_ring.specs.Sides.{ArePaired, put_of, taken_of}
use Rattle.parcel_ring.specs.Sides.{AreTwoEnds, was_put, was_taken}
use Rattle.live_switch.specs.declared.seats.LineSeat.{LineSeat}
use Rattle.live_switch.specs.declared.seats.Seat.{Seat}

-- the seat is of this port of the plan, and has both ends of a ring through which nothing has gone yet
pub record IsSeat (p : PortPlan) (seat : Seat) : Type 0 where
  pub port : seat.port ≡ p.number
  pub format : seat.format ≡ p.format
  pub rings : AreTwoEnds seat.filler seat.taker
  pub unfilled : was_put seat.filler ≡ []
  pub untaken : was_taken seat.taker ≡ []

-- these are the seats of the first ports
pub record AreSeats (ports : List PortPlan) (count : ℕ) (seats : List Seat) : Type 0 where
  pub size : length seats ≡ count
  pub each : (k : ℕ) (p : PortPlan) (d : Seat) → k < count → IsSeat (slice_index_or ports k p) (slice_index_or seats k d)

-- both ends of control's ring, through which nothing has gone yet
pub record IsLineSeat (seat : LineSeat) : Type 0 where
  pub ring : ArePaired seat.filler seat.taker
  pub unfilled : put_of seat.filler ≡ []
  pub untaken : taken_of seat.taker ≡ []
