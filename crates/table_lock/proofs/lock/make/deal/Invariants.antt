use Rattle.std.proofs.Common.{◌≡◌, ◌+◌, [], length, vec_capacity}
use Rattle.table_lock.specs.Passes.{lock_first, lock_table}
use Rattle.table_lock.specs.Rule.{opening_view}
use Rattle.table_lock.proofs.Deals.{AllDealt}
use Rattle.table_lock.proofs.lock.make.deal.Given as goal

abbrev pub invariant-loop-number : goal.invariant-loop-number
invariant-loop-number g l = record {
  table : l.first.table_id ≡ lock_table l.lock;
  view : l.first.me ≡ (record (opening_view (g.V.Kept.fixed (lock_first l.lock))) { seats = l.number }, []);
  count : length l.passes.items + 1 ≡ l.number;
  room : vec_capacity l.passes ≡ vec_capacity l.fn.passes;
  dealt : AllDealt (lock_table l.lock) (g.V.Kept.fixed (lock_first l.lock)) 1 l.passes.items;
}
