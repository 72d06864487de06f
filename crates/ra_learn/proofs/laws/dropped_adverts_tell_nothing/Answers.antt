use Rattle.ra_learn.proofs.Limits.{others_tell_nothing}
use Rattle.ra_learn.proofs.laws.dropped_adverts_tell_nothing.Goals as goal

pub returns : goal.returns
returns c = others_tell_nothing
