use Rattle.std.proofs.Common.{◌≡◌, length, vec_capacity, vec_len}
use Rattle.live_switch.specs.Seated.{AreSeats}
use Rattle.live_switch.proofs.seats.seats_of.Given as goal

abbrev pub invariant-loop-port : goal.invariant-loop-port
invariant-loop-port g l = record {
  seats : AreSeats l.ports l.port-index l.seats.items;
  len : vec_len l.seats ≡ l.port-index;
  room : vec_capacity l.seats ≡ length l.ports;
}
