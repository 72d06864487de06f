use Rattle.std.proofs.Common.{◌≡◌}
use Rattle.table_lock.proofs.lock.TableLock.wait_turn.Given as goal

abbrev pub invariant-loop : goal.invariant-loop
invariant-loop g l = record { table : l.place.table_id ≡ l.fn.place.table_id; seat : l.place.me ≡ l.fn.place.me }
