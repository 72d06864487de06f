use Rattle.std.proofs.Common.{◌≡◌, ◌+◌, ℕ, IfSome, length, refl, ap, ◌∙◌, subst, arith}
use Rattle.std.proofs.lemmas.Result.{err_from_is_err_and}
use Rattle.savi_kinds.specs.declared.plan.Plan.{Plan}
use Rattle.savi_ends.specs.Octets.{in_front}
use Rattle.hist_store.specs.TextOfLines.{lines_text}
use Rattle.savi_core.specs.Machines.{base_of}
use Rattle.journal_check.specs.Fronts.{opening_lines}
use Rattle.journal_check.specs.Openings.{BreaksAt}
use Rattle.journal_check.specs.Answers.{IfRead}
use Rattle.journal_check.specs.Pieces.{to_come}
use Rattle.journal_check.specs.Judging.{checked_of}
use Rattle.journal_check.proofs.openings.begin_segment.Goals as goal

pub returns-clause-opened : goal.returns-clause-opened
returns-clause-opened g c =
    let now = c.turn.new.self in
    let plan : now.plan ≡ c.args.core.now.plan = c.turn.ensures.plan in
    let count = c.in_ok-count.ensures.count.0 in
    let same : length (opening_lines now.plan (base_of now)) ≡ length (opening_lines c.args.core.now.plan (base_of now)) = ap (λ (p : Plan). length (opening_lines p (base_of now))) plan in
    let behind = to_come c.read_opening.new.lines (g.S.Source.left c.read_opening.new.source) in
    record {
      lines = omega (arith, c.len.ensures.len, count, same);
      segments = refl;
      entries = omega (arith, c.len-2.ensures.len);
      taken = c.in_ok-count.ensures.read ∙ ap (λ (p : Plan). in_front (lines_text (opening_lines p (base_of now))) behind) plan;
    }

pub returns-clause-further : goal.returns-clause-further
returns-clause-further g c =
    let further = c.in_ok-count.ensures.further in
    omega (arith, c.len.ensures.len, further)

pub returns-in_err-count-clause-bad : goal.returns-in_err-count-clause-bad
returns-in_err-count-clause-bad g c =
    let p = err_from_is_err_and c.from_residual.result c.from_residual.ensures.1 in
    let now = c.turn.new.self in
    let a = checked_of c.in_err-count.field-0.0 in
    let ahead = to_come c.args.lines.now (g.S.Source.left c.args.source.now) in
    let number : c.args.before.lines + c.len.result + 1 ≡ c.args.before.lines + length c.args.core.now.past + 1 = omega (arith, c.len.ensures.len) in
    rw (p.1, p.2)
    (subst (λ (n : ℕ). IfRead a (IfSome ahead (λ octets. BreaksAt (opening_lines c.args.core.now.plan (base_of now)) n octets a))) number
    (subst (λ (p : Plan). IfRead a (IfSome ahead (λ octets. BreaksAt (opening_lines p (base_of now)) (c.args.before.lines + c.len.result + 1) octets a))) c.turn.ensures.plan c.in_err-count.ensures.bad))
