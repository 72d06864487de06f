use Rattle.std.proofs.Common.{Some}
use Rattle.savi_kinds.specs.declared.plan.Method.TheVariants.{Mixed}
use Rattle.savi_access.specs.Keeps.{AreSound}
use Rattle.state_rows.proofs.addr_table_rows.a_sink_takes_the_probes_in_order.Given as goal

abbrev pub invariant-loop-step : goal.invariant-loop-step
invariant-loop-step g l = AreSound (λ a. Some Mixed) l.table.rows
