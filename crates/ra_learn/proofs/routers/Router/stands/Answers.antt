use Rattle.std.proofs.Common.{rules}
use Rattle.ra_learn.proofs.routers.Router.stands.Goals as goal

pub returns : goal.returns
returns c = search rules
