use Rattle.std.proofs.Common.{◌∙◌}
use Rattle.savi_conf.proofs.Tables.{are_tables-drop}
use Rattle.savi_conf.proofs.keys.are_all_tables.Goals as goal

pub returns-then-not-is_table : goal.returns-then-not-is_table
returns-then-not-is_table c = rw (c.loop-value.invariant, are_tables-drop _ _ _ c.loop-value-test.true c.value-item.is, ← c.if-not-is_table.ensures)

pub loop-value-preserved : goal.loop-value-preserved
loop-value-preserved c = c.loop-value.invariant ∙ are_tables-drop _ _ _ c.loop-value-test.true c.value-item.is ∙ rw (← c.if-not-is_table.ensures)
