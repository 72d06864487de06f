use Rattle.std.proofs.Common.{codes, ◌≡◌, ◌++◌, ◌∷◌, [], ◌+◌, ℕ, List, IfSome, length-append, map, refl, sym, ap, ◌∙◌, subst, arith, Some, slice_get}
use Rattle.std.specs.Result.{result_from_control_flow}
use Rattle.std.proofs.lemmas.List.{length-map}
use Rattle.std.proofs.lemmas.Result.{err_from_is_err_and}
use Rattle.savi_ends.specs.Octets.{in_front}
use Rattle.hist_store.specs.TextOfLines.{joined}
use Rattle.hist_store.specs.JournalTexts.{begin_line}
use Rattle.checkpoint.specs.BaseLines.{base_lines}
use Rattle.savi_core.specs.Machines.{base_of}
use Rattle.journal_check.specs.Headers.{LineFields}
use Rattle.journal_check.specs.Pieces.{to_come}
use Rattle.journal_check.specs.Feeds.{HasNoFeed}
use Rattle.journal_check.specs.declared.answer.Checked.TheVariants.{BadLine}
use Rattle.journal_check.specs.Answers.{IfRead}
use Rattle.journal_check.specs.Judging.{checked_of}
use Rattle.journal_check.proofs.BaseWords.{base_line_plain}
use Rattle.journal_check.proofs.FeedPlaces.{in_front_none}
use Rattle.journal_check.proofs.Given.{gave_more, gave_none}
use Rattle.journal_check.proofs.OpeningLines.{ComesNot, all_more, begin_off, line_off, line_within, ok_not_err, one_more}
use Rattle.journal_check.proofs.openings.read_opening.Goals as goal

pub loop-wanted-init : goal.loop-wanted-init
loop-wanted-init g c = record {
  still = refl;
  gave = gave_none (g.S.Source.left c.args.source.now);
  within = omega arith;
  further = omega arith;
  told = sym (in_front_none (to_come c.args.lines.now (g.S.Source.left c.args.source.now)));
}

pub loop-wanted-preserved : goal.loop-wanted-preserved
loop-wanted-preserved g c =
    let was = c.loop-wanted.invariant in
    let lines : List LineFields = base_lines c.args.core.now.plan (base_of c.args.core.now) in
    let i : ℕ = c.loop-wanted.i in
    let line = c.put_base.new.into.items in
    let here : slice_get (map joined lines) i ≡ Some line = sym c.loop-wanted-test.ensures.line in
    let within = line_within lines i line here in
    let further = was.further in
    let next = c.in_ok-read_wanted.ensures.further in
    let whole = to_come c.args.lines.now (g.S.Source.left c.args.source.now) in
    let mid = to_come c.loop-wanted.lines (g.S.Source.left c.loop-wanted.source) in
    let after = to_come c.read_wanted.new.lines (g.S.Source.left c.read_wanted.new.source) in
    record {
      still = c.read_wanted.ensures.still (ok_not_err (c.branch-read_wanted.ensures ∙ ap result_from_control_flow c.in_ok-read_wanted.is)) ∙ was.still;
      gave = gave_more _ _ _ was.gave c.read_wanted.ensures.gave;
      within = omega (arith, within);
      further = omega (arith, further, next);
      told = one_more lines i line whole mid after here was.told
          (c.in_ok-read_wanted.ensures.read ∙ ap (λ (l : List ℕ). in_front (l ++ 10 ∷ []) after) c.as_slice.ensures.value);
    }

pub loop-wanted-smaller : goal.loop-wanted-smaller
loop-wanted-smaller g c =
    let lines : List LineFields = base_lines c.args.core.now.plan (base_of c.args.core.now) in
    let within = line_within lines c.loop-wanted.i c.put_base.new.into.items (sym c.loop-wanted-test.ensures.line) in
    omega (arith, within)

pub overflow_add-i : goal.overflow_add-i
overflow_add-i g c = omega (arith, c.loop-wanted-test.ensures.few refl)

pub read_wanted-requires-clause-plain : goal.read_wanted-requires-clause-plain
read_wanted-requires-clause-plain g c =
    let m = c.args.core.now in
    subst HasNoFeed (sym c.as_slice.ensures.value) (base_line_plain m.plan (base_of m) c.loop-wanted.i c.put_base.new.into.items (sym c.loop-wanted-test.ensures.line))

pub returns-in_err-read_wanted-clause-bad : goal.returns-in_err-read_wanted-clause-bad
returns-in_err-read_wanted-clause-bad g c =
    let p = err_from_is_err_and c.from_residual.result c.from_residual.ensures.1 in
    let was = c.loop-wanted.invariant in
    let lines : List LineFields = base_lines c.args.core.now.plan (base_of c.args.core.now) in
    let here : slice_get (map joined lines) c.loop-wanted.i ≡ Some c.put_base.new.into.items = sym c.loop-wanted-test.ensures.line in
    let whole = to_come c.args.lines.now (g.S.Source.left c.args.source.now) in
    let mid = to_come c.loop-wanted.lines (g.S.Source.left c.loop-wanted.source) in
    let a = checked_of c.in_err-read_wanted.field-0.0 in
    rw (p.1, p.2) (line_off lines c.args.before c.loop-wanted.i c.as_slice.result.now a whole mid (here ∙ ap (λ (l : List ℕ). Some l) (sym c.as_slice.ensures.value)) was.told
    (subst (λ (k : ℕ). IfRead a ((a ≡ BadLine (c.args.before + k + 1)) × IfSome mid (ComesNot c.as_slice.result.now))) c.from.ensures c.in_err-read_wanted.ensures.bad))

pub returns-in_err-read_wanted-2-clause-bad : goal.returns-in_err-read_wanted-2-clause-bad
returns-in_err-read_wanted-2-clause-bad g c =
    let p = err_from_is_err_and c.from_residual-in_err-read_wanted-2.result c.from_residual-in_err-read_wanted-2.ensures.1 in
    let was = c.loop-wanted.invariant in
    let lines : List LineFields = base_lines c.args.core.now.plan (base_of c.args.core.now) in
    let past = c.loop-wanted-test.ensures.past refl in
    let size = length-map lines joined in
    let whole = to_come c.args.lines.now (g.S.Source.left c.args.source.now) in
    let mid = to_come c.loop-wanted.lines (g.S.Source.left c.loop-wanted.source) in
    let a = checked_of c.in_err-read_wanted-2.field-0.0 in
    rw (p.1, p.2) (begin_off lines c.args.before c.loop-wanted.i a whole mid was.within (omega (arith, past, size)) was.told
    (subst (λ (k : ℕ). IfRead a ((a ≡ BadLine (c.args.before + k + 1)) × IfSome mid (ComesNot (codes "begin")))) c.from-2.ensures c.in_err-read_wanted-2.ensures.bad))

pub returns-clause-count : goal.returns-clause-count
returns-clause-count g c =
    let lines : List LineFields = base_lines c.args.core.now.plan (base_of c.args.core.now) in
    let within = c.loop-wanted.invariant.within in
    let past = c.loop-wanted-test.ensures.past refl in
    let size = length-map lines joined in
    let parts = length-append lines (begin_line ∷ []) in
    (omega (arith, within, past, size, parts), omega arith)

pub returns-clause-read : goal.returns-clause-read
returns-clause-read g c =
    let was = c.loop-wanted.invariant in
    let lines : List LineFields = base_lines c.args.core.now.plan (base_of c.args.core.now) in
    let past = c.loop-wanted-test.ensures.past refl in
    let size = length-map lines joined in
    let whole = to_come c.args.lines.now (g.S.Source.left c.args.source.now) in
    let mid = to_come c.loop-wanted.lines (g.S.Source.left c.loop-wanted.source) in
    let after = to_come c.read_wanted-2.new.lines (g.S.Source.left c.read_wanted-2.new.source) in
    all_more lines c.loop-wanted.i whole mid after (omega (arith, past, size)) was.told c.in_ok-read_wanted-2.ensures.read

pub returns-clause-further : goal.returns-clause-further
returns-clause-further g c =
    let was = c.loop-wanted.invariant.further in
    let next = c.in_ok-read_wanted-2.ensures.further in
    omega (arith, was, next)

pub returns-clause-gave : goal.returns-clause-gave
returns-clause-gave g c = gave_more _ _ _ c.loop-wanted.invariant.gave c.read_wanted-2.ensures.gave

pub returns-in_err-read_wanted-clause-gave : goal.returns-in_err-read_wanted-clause-gave
returns-in_err-read_wanted-clause-gave g c = gave_more _ _ _ c.loop-wanted.invariant.gave c.read_wanted.ensures.gave

pub returns-in_err-read_wanted-2-clause-gave : goal.returns-in_err-read_wanted-2-clause-gave
returns-in_err-read_wanted-2-clause-gave g c = gave_more _ _ _ c.loop-wanted.invariant.gave c.read_wanted-2.ensures.gave
