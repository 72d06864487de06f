use Rattle.std.proofs.Common.{take}
use Rattle.toml.specs.View.{table_view}
use Rattle.savi_conf.specs.PlanOf.{IsPortOf, SayInOrder}
use Rattle.savi_conf.proofs.lists.told_ports.Given as goal

abbrev pub invariant-loop-table : goal.invariant-loop-table
invariant-loop-table l = SayInOrder (λ t p. IsPortOf (table_view t.now) p) (take l.table-index l.tables) l.plans.items
