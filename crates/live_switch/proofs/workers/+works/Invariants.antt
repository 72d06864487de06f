use Rattle.std.proofs.Common.{◌+◌, ◌*◌, length}
use Rattle.live_switch.proofs.workers.+works.Given as goal

abbrev pub decreases-run_all-join+arg2 : goal.decreases-run_all-join+arg2
decreases-run_all-join+arg2 g l = 4 * length l.others.service.ports.items + 3

abbrev pub decreases-run_beside : goal.decreases-run_beside
decreases-run_beside g l = 4 * length l.shift.service.ports.items + 2

abbrev pub decreases-run_beside-join+arg3 : goal.decreases-run_beside-join+arg3
decreases-run_beside-join+arg3 g l = 4 * length l.shift.service.ports.items + 1

abbrev pub decreases-run_all : goal.decreases-run_all
decreases-run_all g l = 4 * length l.shift.service.ports.items
