use Rattle.std.proofs.Common.{◌≡◌, ◌&&◌, ◌++◌, ◌∙◌, Bool, List, ap, subst}
use Rattle.savi_kinds.specs.declared.entry.How.{How}
use Rattle.savi_kinds.specs.declared.entry.Who.{Who}
use Rattle.savi_history.specs.EndLines.{told_lines}
use Rattle.switch_report.specs.Sums.{sum_of}
use Rattle.switch_run.specs.Session.{ToldBy, journal_lines, told_status}
use Rattle.switch_run.proofs.Concluding.{concluded}
use Rattle.switch_run.proofs.summing.conclude.Goals as goal
use Rattle.switch_run.proofs.summing.conclude.Goals.{then-journal_written, else-journal_written}

pub returns-clause-some : goal.returns-clause-some
returns-clause-some g c =
    let both : c.if-journal_written.status_told ≡ (c.in-Some.outcome.journal_written && c.write_summary-summary_written.result) = elim c.if-journal_written.branch [
      | then-journal_written w ↦ rw w.if-journal_written.true w.status_told-is
      | else-journal_written w ↦ rw w.if-journal_written.false (w.status_told-is ∙ w.if-journal_written.false)
    ] in
    concluded g.W.K.Sink.written g.W.K.Sink.faults (ToldBy g.W.K.Sink.faults g.W.K.Sink.written c.args.errors.now c.tell_told.new.errors) c.args.outcome c.in-Some.outcome (sum_of c.sum_up.result) c.write_summary-summary_written.result _ _ c.status_told.result
    c.in-Some.is c.sum_up.ensures c.write_summary-summary_written.ensures.took
    (subst (λ (ends : List (Who × How)). ToldBy g.W.K.Sink.faults g.W.K.Sink.written c.args.errors.now c.tell_told.new.errors (told_lines ends ++ journal_lines c.in-Some.outcome.journal_written)) c.as_slice.ensures.value c.tell_told.ensures)
    (c.status_told.ensures ∙ ap (λ (b : Bool). told_status b c.as_slice-2.result.now) both ∙ ap (told_status (c.in-Some.outcome.journal_written && c.write_summary-summary_written.result)) c.as_slice-2.ensures.value)
