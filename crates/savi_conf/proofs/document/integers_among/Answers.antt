use Rattle.std.proofs.Common.{SFits, w64, rules, sym, to_z-of_z, ◌∙◌}
use Rattle.savi_conf.proofs.Integers.{among_integer, among_no_integer}
use Rattle.savi_conf.proofs.document.integers_among.Goals as goal
use Rattle.savi_conf.proofs.document.integers_among.Goals.{in-Some+in_ok-push, in_default}

pub loop-value-preserved : goal.loop-value-preserved
loop-value-preserved c =
    elim c.match-as_integer.branch [
      | in-Some+in_ok-push w ↦
          let fits : SFits w64 w.in-Some.number = search rules in
          let pushed = simp to_z-of_z at w.in_ok-push.ensures.items in
          rw (w.integers-is, pushed, c.loop-value.invariant) (sym (among_integer _ _ _ _ c.loop-value-test.true c.value-item.is w.in-Some.ensures))
      | in_default w ↦ rw w.integers-is (c.loop-value.invariant ∙ sym (among_no_integer _ _ _ c.loop-value-test.true c.value-item.is w.in_default.ensures))
    ]
