use Rattle.std.proofs.Common.{◌==◌}
use Rattle.hist_store.proofs.FirstPlaces.{first_is}
use Rattle.journal_check.proofs.feeds.feed_place.Goals as goal

pub returns : goal.returns
returns c = first_is (λ octet. octet == 10) c.args.octets.now c.memchr.result c.memchr.ensures
