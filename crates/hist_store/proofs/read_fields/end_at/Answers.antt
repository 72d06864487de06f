use Rattle.std.proofs.Common.{◌==◌, length, unwrap_or, ap, ◌∙◌}
use Rattle.hist_store.proofs.FieldsRead.{place_is}
use Rattle.hist_store.proofs.read_fields.end_at.Goals as goal

pub returns-clause-place : goal.returns-clause-place
returns-clause-place c = c.unwrap_or.ensures ∙ ap (λ o. unwrap_or o (length c.args.text.now)) c.first_place.ensures ∙ place_is (λ b. b == c.args.stop) c.args.text.now
