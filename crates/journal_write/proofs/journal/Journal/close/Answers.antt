use Rattle.std.proofs.Common.{◌≡◌, ◌++◌, ◌∙◌, ℕ, List, length, reverse, sym, ap, subst, All}
use Rattle.std.proofs.lemmas.List.{reverse-reverse, length-reverse}
use Rattle.hist_store.specs.LineTexts.{FitsLine}
use Rattle.hist_store.specs.Rows.{Row}
use Rattle.hist_store.specs.TextOfLines.{lines_text}
use Rattle.hist_store.specs.JournalTexts.{entry_lines, journal_end_text}
use Rattle.checkpoint.specs.BaseLines.{base_lines}
use Rattle.savi_history.specs.Legal.{IsLegal}
use Rattle.savi_history.proofs.Lines.{fits_oldest}
use Rattle.savi_core.specs.Machines.{base_of}
use Rattle.savi_segments.specs.Journals.{journal_of}
use Rattle.journal_write.specs.Written.{HasText}
use Rattle.journal_write.proofs.Giving.{one_more}
use Rattle.journal_write.proofs.journal.Journal.close.Goals as goal

pub put_entries-requires-clause-rows : goal.put_entries-requires-clause-rows
put_entries-requires-clause-rows g c =
    let rows = c.history.result.now.rows in
    subst (λ (rows : List Row). All FitsLine rows) (reverse-reverse rows)
    (fits_oldest c.args.core.now.plan (base_of c.args.core.now) (reverse rows) (subst (λ (past : List Row). IsLegal c.args.core.now.plan (base_of c.args.core.now) past) (sym c.history.ensures.rows) c.history.ensures.legal))

pub returns-clause-closed : goal.returns-clause-closed
returns-clause-closed g c = λ first before goes_on was.
    let core = c.args.core.now in
    let plan = core.plan in
    let rows : List Row = c.history.result.now.rows in
    let bases : List ℕ = lines_text (base_lines plan (base_of core)) in
    let begin : List ℕ = c.as_slice.result.now in
    let entries : List ℕ = lines_text (entry_lines 0 rows) in
    let end : List ℕ = c.as_slice-2.result.now in
    let rows_are : rows ≡ reverse core.past = sym (reverse-reverse rows) ∙ ap reverse c.history.ensures.rows in
    let end_is : end ≡ journal_end_text (length rows) =
    c.as_slice-2.ensures.value ∙ c.put_end.ensures ∙ ap journal_end_text (c.len.ensures.len ∙ sym (length-reverse core.past) ∙ ap length (sym rows_are)) in
    subst (λ (t : List ℕ). HasText g.K.Sink.written g.K.Sink.faults first c.put_at_once.new.self t)
    (one_more plan (base_of core) before core.past rows begin end goes_on rows_are (c.as_slice.ensures.value ∙ c.put_begin.ensures) end_is)
    (c.put_at_once.ensures.text first (((journal_of plan before ++ bases) ++ begin) ++ entries)
    (c.put_entries.ensures.text first ((journal_of plan before ++ bases) ++ begin)
    (c.put.ensures.text first (journal_of plan before ++ bases) (c.put_base_lines.ensures.text first (journal_of plan before) was))))
