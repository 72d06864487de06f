use Rattle.std.proofs.Common.{◌∙◌}
use Rattle.savi_conf.proofs.Integers.{are_integers-drop}
use Rattle.savi_conf.proofs.keys.are_all_integers.Goals as goal

pub returns-then-not-is_integer : goal.returns-then-not-is_integer
returns-then-not-is_integer c = rw (c.loop-value.invariant, are_integers-drop _ _ _ c.loop-value-test.true c.value-item.is, ← c.if-not-is_integer.ensures)

pub loop-value-preserved : goal.loop-value-preserved
loop-value-preserved c = c.loop-value.invariant ∙ are_integers-drop _ _ _ c.loop-value-test.true c.value-item.is ∙ rw (← c.if-not-is_integer.ensures)
