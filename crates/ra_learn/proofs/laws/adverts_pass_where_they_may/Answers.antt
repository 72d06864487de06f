use Rattle.ra_learn.proofs.Limits.{passes_where_it_may}
use Rattle.ra_learn.proofs.laws.adverts_pass_where_they_may.Goals as goal

pub returns : goal.returns
returns c = passes_where_it_may
