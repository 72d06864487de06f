use Rattle.std.proofs.Common.{◌≡◌, sym, subst}
use Rattle.std.proofs.lemmas.Result.{err_from_is_err_and}
use Rattle.savi_kinds.specs.declared.plan.Plan.{Plan}
use Rattle.savi_ends.specs.Octets.{in_front}
use Rattle.journal_check.specs.Pieces.{to_come}
use Rattle.journal_check.specs.Headers.{IsPlan, head_text}
use Rattle.journal_check.specs.Judging.{checked_of}
use Rattle.journal_check.proofs.Heading.{bad_lists, plan_is, told_header}
use Rattle.journal_check.proofs.Given.{gave_more, passed_more}
use Rattle.journal_check.proofs.header.read_header.Goals as goal

pub returns-clause-plan : goal.returns-clause-plan
returns-clause-plan g c =
    let s = c.in_ok-settings.settings in
    let l = c.in_ok-lists.lists in
    let settings = c.in_ok-settings.ensures.settings in
    let lists = c.in_ok-lists.ensures.lists in
    let whole = to_come c.args.lines.now (g.S.Source.left c.args.source.now) in
    let mid = to_come c.read_settings.new.lines (g.S.Source.left c.read_settings.new.source) in
    let after = to_come c.read_lists.new.lines (g.S.Source.left c.read_lists.new.source) in
    subst (λ (plan : Plan). IsPlan plan × (whole ≡ in_front (head_text s.version plan) after)) (sym c.plan_of.ensures)
    (plan_is s l.ports.items l.prefixes.items settings.0 lists.0 lists.1, told_header s l.ports.items l.prefixes.items whole mid after settings.1 lists.2)

pub returns-in_err-lists-clause-bad : goal.returns-in_err-lists-clause-bad
returns-in_err-lists-clause-bad g c =
    let p = err_from_is_err_and c.from_residual-in_err-lists.result c.from_residual-in_err-lists.ensures.1 in
    let settings = c.in_ok-settings.ensures.settings in
    let whole = to_come c.args.lines.now (g.S.Source.left c.args.source.now) in
    let mid = to_come c.read_settings.new.lines (g.S.Source.left c.read_settings.new.source) in
    rw (p.1, p.2) (bad_lists (checked_of c.in_err-lists.field-0.0) c.in_ok-settings.settings whole mid settings.0 settings.1 c.in_err-lists.ensures.bad)

pub returns-clause-gave : goal.returns-clause-gave
returns-clause-gave g c = gave_more _ _ _ c.read_settings.ensures.gave c.read_lists.ensures.gave

pub returns-in_err-lists-clause-gave : goal.returns-in_err-lists-clause-gave
returns-in_err-lists-clause-gave g c = gave_more _ _ _ c.read_settings.ensures.gave c.read_lists.ensures.gave

pub returns-clause-passed : goal.returns-clause-passed
returns-clause-passed g c = passed_more c.args.lines.now c.read_settings.new.lines c.read_lists.new.lines (g.S.Source.left c.args.source.now) (g.S.Source.left c.read_settings.new.source) (g.S.Source.left c.read_lists.new.source) c.in_ok-settings.ensures.passed c.in_ok-lists.ensures.passed
