use Rattle.savi_access.proofs.Holding.{more-held, held-later}
use Rattle.savi_access.proofs.address_laws.a_port_comes_to_hold_by_its_own_event.Goals as goal

pub returns : goal.returns
returns c = record {
  marks = λ r base past named port times tables more. more-held r base times tables named past port more;
  ageing = λ r base past t u port times tables after. held-later r base times tables past t u port after;
}
