use Rattle.std.proofs.Common.{◌+◌, ◌*◌, length}
use Rattle.live_switch.proofs.readers.+reads.Given as goal

abbrev pub decreases-join+arg2 : goal.decreases-join+arg2
decreases-join+arg2 g l = 2 * length l.others.ports.items + 1

abbrev pub decreases-run_readers : goal.decreases-run_readers
decreases-run_readers g l = 2 * length l.readers.ports.items
