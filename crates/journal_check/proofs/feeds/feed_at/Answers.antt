use Rattle.std.proofs.Common.{◌==◌, length, unwrap_or, ap, ◌∙◌}
use Rattle.hist_store.proofs.FieldsRead.{place_is}
use Rattle.journal_check.proofs.feeds.feed_at.Goals as goal

pub returns-clause-place : goal.returns-clause-place
returns-clause-place c = c.unwrap_or.ensures ∙ ap (λ o. unwrap_or o (length c.args.octets.now)) c.feed_place.ensures ∙ place_is (λ octet. octet == 10) c.args.octets.now
