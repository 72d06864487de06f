use Rattle.std.proofs.Common.{◌+◌, ◌*◌, length}
use Rattle.state_rows.proofs.table_lock_rows.+add_in_threads+fn-add_in_threads-join+arg3.Given as goal

abbrev pub decreases-add_in_threads : goal.decreases-add_in_threads
decreases-add_in_threads g l = 2 * length l.passes.items

abbrev pub decreases-join+arg3 : goal.decreases-join+arg3
decreases-join+arg3 g l = 2 * length l.passes.items + 1
