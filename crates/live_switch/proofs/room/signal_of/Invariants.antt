use Rattle.std.proofs.Common.{◌≡◌, length}
use Rattle.live_switch.proofs.room.signal_of.Given as goal

abbrev pub invariant-loop-seat : goal.invariant-loop-seat
invariant-loop-seat l = length l.sleepers.items ≡ l.seat-index
