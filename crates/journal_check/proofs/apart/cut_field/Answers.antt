use Rattle.std.proofs.Common.{◌≡◌, ◌==◌, length, ap, sym, ◌∙◌, take, drop}
use Rattle.std.proofs.lemmas.List.{take_at, drop_at}
use Rattle.std.specs.List.{position_or_len}
use Rattle.hist_store.specs.TextOfLines.{spaced}
use Rattle.hist_store.proofs.LineLemmas.{joined-spaced}
use Rattle.hist_store.proofs.FieldsRead.{end_of}
use Rattle.journal_check.proofs.FieldsCut.{behind_space}
use Rattle.journal_check.proofs.apart.cut_field.Goals as goal

pub returns-clause-whole : goal.returns-clause-whole
returns-clause-whole c = λ field fields is joined_text.
    let text = joined_text ∙ joined-spaced field fields in
    let place : c.space_at.result ≡ length field = c.space_at.ensures.place ∙ ap (position_or_len (λ b. b == 32)) text ∙ end_of field fields is in
    let rest = c.split_at.ensures.back ∙ ap (drop c.space_at.result) text ∙ drop_at field (spaced fields) c.space_at.result (sym place) in (
      c.split_at.ensures.front ∙ ap (take c.space_at.result) text ∙ take_at field (spaced fields) c.space_at.result (sym place),
      c.behind_first.ensures ∙ ap (drop 1) rest ∙ behind_space fields,
    )
