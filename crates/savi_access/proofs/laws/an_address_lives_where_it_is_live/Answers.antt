use Rattle.savi_access.proofs.Living.{lives_at}
use Rattle.savi_access.proofs.laws.an_address_lives_where_it_is_live.Goals as goal

pub returns : goal.returns
returns c = λ state port. lives_at state port
