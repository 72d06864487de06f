use Rattle.std.proofs.Common.{◌≡◌, length, ap, sym, ◌∙◌, take, drop, ◌==◌}
use Rattle.std.proofs.lemmas.List.{take_at, drop_at}
use Rattle.std.specs.List.{position_or_len}
use Rattle.hist_store.specs.TextOfLines.{spaced}
use Rattle.hist_store.proofs.FieldsRead.{end_of}
use Rattle.hist_store.proofs.read_fields.cut_field.Goals as goal

pub returns-clause-whole : goal.returns-clause-whole
returns-clause-whole c = λ field fields is text.
    let place : c.end_at.result ≡ length field = c.end_at.ensures.place ∙ ap (position_or_len (λ b. b == 32)) text ∙ end_of field fields is in (
      c.split_at.ensures.front ∙ ap (take c.end_at.result) text ∙ take_at field (spaced fields) c.end_at.result (sym place),
      c.split_at.ensures.back ∙ ap (drop c.end_at.result) text ∙ drop_at field (spaced fields) c.end_at.result (sym place),
    )
