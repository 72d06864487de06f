use Rattle.savi_access.proofs.StatesKept.{base_times, base_tables, base_within}
use Rattle.savi_access.proofs.Holding.{held-within}
use Rattle.savi_access.proofs.address_laws.no_port_holds_too_many.Goals as goal

pub returns : goal.returns
returns c = λ r base past t port is right after. held-within r base (base_times r base is) (base_tables r base is) (base_within r base is) past t port right after
