use Rattle.std.proofs.Common.{◌≡◌, ◌++◌, ◌∙◌, ℕ, ◌<◌, ◌≤◌, List, length, map, take, refl, sym, subst, arith, Some, slice_get}
use Rattle.std.proofs.lemmas.List.{append-nil, length-map, take_all}
use Rattle.std.proofs.lemmas.Option.{slice_get_within}
use Rattle.hist_store.specs.TextOfLines.{joined, lines_text}
use Rattle.checkpoint.specs.BaseLines.{base_lines}
use Rattle.savi_core.specs.Machines.{base_of}
use Rattle.journal_write.specs.Written.{HasText}
use Rattle.journal_write.proofs.Lines.{text_more}
use Rattle.journal_write.proofs.journal.Journal.put_base_lines.Goals as goal

abbrev Lines : Type 0
Lines = List (List (List ℕ))

pub loop-self-init : goal.loop-self-init
loop-self-init g c = record {
  room = refl;
  within = omega arith;
  text = λ first text was. subst (λ (t : List ℕ). HasText g.K.Sink.written g.K.Sink.faults first c.args.self.now t) (sym (append-nil text)) was;
}

pub loop-self-preserved : goal.loop-self-preserved
loop-self-preserved g c =
    let lines : Lines = base_lines c.args.core.now.plan (base_of c.args.core.now) in
    let i : ℕ = c.loop-self.i in
    let here : Some c.put_base.new.into.items ≡ slice_get (map joined lines) i = c.loop-self-test.ensures.line in
    let within : i < length (map joined lines) = slice_get_within (map joined lines) i c.put_base.new.into.items (sym here) in
    record {
      room = c.put-in-loop-self.ensures.room ∙ c.put.ensures.room ∙ c.loop-self.invariant.room;
      within = omega (arith, within, length-map lines joined);
      text = λ first text was.
          subst (λ (t : List ℕ). HasText g.K.Sink.written g.K.Sink.faults first c.put-in-loop-self.new.self t)
          (text_more text lines i c.put_base.new.into.items c.as_slice.result.now c.as_slice.ensures.value (sym here))
          (c.put-in-loop-self.ensures.text first ((text ++ lines_text (take i lines)) ++ c.as_slice.result.now)
          (c.put.ensures.text first (text ++ lines_text (take i lines)) (c.loop-self.invariant.text first text was)));
    }

pub loop-self-smaller : goal.loop-self-smaller
loop-self-smaller g c =
    let lines : Lines = base_lines c.args.core.now.plan (base_of c.args.core.now) in
    let within : c.loop-self.i < length (map joined lines) = slice_get_within (map joined lines) c.loop-self.i c.put_base.new.into.items (sym c.loop-self-test.ensures.line) in
    omega (arith, within, length-map lines joined)

pub overflow_add-i : goal.overflow_add-i
overflow_add-i g c = omega (arith, c.loop-self-test.ensures.few refl)

pub returns-clause-text : goal.returns-clause-text
returns-clause-text g c = λ first text was.
    let lines : Lines = base_lines c.args.core.now.plan (base_of c.args.core.now) in
    let past : length (map joined lines) ≤ c.loop-self.i = c.loop-self-test.ensures.past refl in
    subst (λ (l : Lines). HasText g.K.Sink.written g.K.Sink.faults first c.loop-self.self (text ++ lines_text l))
    (take_all c.loop-self.i lines (omega (arith, past, length-map lines joined))) (c.loop-self.invariant.text first text was)
