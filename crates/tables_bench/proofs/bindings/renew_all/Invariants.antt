use Rattle.std.proofs.Common.{◌≡◌, ◌≤◌, ◌+◌, length, take}
use Rattle.tables_bench.specs.Renewed.{renewed_all}
use Rattle.tables_bench.proofs.bindings.renew_all.Given as goal

abbrev pub invariant-loop-a : goal.invariant-loop-a
invariant-loop-a l = record { rows : l.table.rows ≡ renewed_all l.state l.fn.table.rows (take l.a-index l.asked); most : l.table.most ≡ l.fn.table.most; room : length l.table.rows ≤ length l.fn.table.rows + l.a-index }
