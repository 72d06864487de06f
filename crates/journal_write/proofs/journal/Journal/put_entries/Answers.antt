use Rattle.std.proofs.Common.{◌≡◌, ◌++◌, ◌∷◌, [], ◌∙◌, ℕ, List, take, refl, sym, ap, subst, arith, Some, slice_get}
use Rattle.std.proofs.lemmas.List.{append_assoc, append-nil, take_all}
use Rattle.hist_store.specs.LineTexts.{line_text}
use Rattle.hist_store.specs.Rows.{Row}
use Rattle.hist_store.specs.TextOfLines.{lines_text}
use Rattle.hist_store.specs.JournalTexts.{entry_lines}
use Rattle.hist_store.proofs.JournalLemmas.{entries_text, entries_text-take_more}
use Rattle.journal_write.specs.Written.{HasText}
use Rattle.journal_write.proofs.Reading.{row_here}
use Rattle.journal_write.proofs.journal.Journal.put_entries.Goals as goal

pub loop-n-init : goal.loop-n-init
loop-n-init g c = record {
  room = refl;
  text = λ first text was. subst (λ (t : List ℕ). HasText g.K.Sink.written g.K.Sink.faults first c.args.self.now t) (sym (append-nil text)) was;
}

pub loop-n-preserved : goal.loop-n-preserved
loop-n-preserved g c =
    let n : ℕ = c.loop-n.n in
    let rows : List Row = c.args.hist.now.rows in
    let row : Row = record { entry = c.entry-entry.result; octets = c.octets.result.now } in
    let here : slice_get rows n ≡ Some row = row_here _ c.entry-entry.result c.octets.result.now c.entry-entry.ensures c.octets.ensures in
    let line : c.as_slice.result.now ≡ line_text n row ++ 10 ∷ [] = c.as_slice.ensures.value ∙ c.push.ensures.items ∙ ap (λ (l : List ℕ). l ++ 10 ∷ []) c.put_line.ensures.text in
    record {
      room = c.put.ensures.room ∙ c.loop-n.invariant.room;
      text = λ first text was.
          subst (λ (t : List ℕ). HasText g.K.Sink.written g.K.Sink.faults first c.put.new.self t)
          (append_assoc text (entries_text (take n rows)) c.as_slice.result.now
          ∙ ap (λ (l : List ℕ). text ++ (entries_text (take n rows) ++ l)) line
          ∙ ap (λ (l : List ℕ). text ++ l) (sym (entries_text-take_more rows n row here)))
          (c.put.ensures.text first (text ++ entries_text (take n rows)) (c.loop-n.invariant.text first text was));
    }

pub returns-clause-text : goal.returns-clause-text
returns-clause-text g c = λ first text was.
    let rows : List Row = c.args.hist.now.rows in
    subst (λ (l : List Row). HasText g.K.Sink.written g.K.Sink.faults first c.loop-n.self (text ++ lines_text (entry_lines 0 l)))
    (take_all c.loop-n.n rows (omega (arith, c.loop-n-test.false, c.len-n-end.ensures.len)))
    (c.loop-n.invariant.text first text was)
