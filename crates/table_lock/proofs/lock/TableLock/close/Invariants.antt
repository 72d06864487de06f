use Rattle.std.proofs.Common.{◌≡◌, []}
use Rattle.std.specs.List.{All}
use Rattle.table_lock.specs.Passes.{IsPassOf, lock_table}
use Rattle.table_lock.proofs.Deals.{Gathered}
use Rattle.table_lock.proofs.lock.TableLock.close.Given as goal

abbrev pub invariant-loop-pass : goal.invariant-loop-pass
invariant-loop-pass g l = record {
  table : l.place.table_id ≡ lock_table l.self;
  slot : l.place.me.1 ≡ [];
  gathered : Gathered l.fn.passes.items l.passes.items l.place.me.0;
  rest : All (IsPassOf g.V.Kept.fixed l.self) l.passes.items;
}

abbrev pub decreases-loop-pass : goal.decreases-loop-pass
decreases-loop-pass g l = goal.left-loop-pass g l
