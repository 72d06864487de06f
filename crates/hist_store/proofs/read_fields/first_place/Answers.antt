use Rattle.std.proofs.Common.{◌==◌}
use Rattle.hist_store.proofs.FirstPlaces.{first_is}
use Rattle.hist_store.proofs.read_fields.first_place.Goals as goal

pub returns : goal.returns
returns c = first_is (λ octet. octet == c.args.stop) c.args.text.now c.memchr.result c.memchr.ensures
