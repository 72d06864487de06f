use Rattle.std.proofs.Common.{sym, ◌∙◌}
use Rattle.std.proofs.lemmas.List.{map_push}
use Rattle.savi_conf.proofs.Tables.{among_table, among_other}
use Rattle.savi_conf.proofs.document.tables_among.Goals as goal
use Rattle.savi_conf.proofs.document.tables_among.Goals.{in-Some+in_ok-push, in_default}

pub loop-value-preserved : goal.loop-value-preserved
loop-value-preserved c =
    elim c.match-as_table.branch [
      | in-Some+in_ok-push w ↦ rw (w.tables-is, w.in_ok-push.ensures.items, map_push, c.loop-value.invariant) (sym (among_table _ _ _ _ c.loop-value-test.true c.value-item.is w.in-Some.ensures))
      | in_default w ↦ rw w.tables-is (c.loop-value.invariant ∙ sym (among_other _ _ _ c.loop-value-test.true c.value-item.is w.in_default.ensures))
    ]
