use Rattle.std.proofs.Common.{ap, sym, ◌∙◌}
use Rattle.savi_kinds.specs.PortSets.{set_of}
use Rattle.savi_history.specs.Outs.{directed}
use Rattle.savi_core.proofs.Knowing.{only_is}
use Rattle.savi_core.proofs.stations.directed.Goals as goal

pub returns-in-Some-clause-set : goal.returns-in-Some-clause-set
returns-in-Some-clause-set c numbers low is =
    only_is c.args.set c.only.result c.in-Some.port numbers c.only.ensures low is ∙ ap (λ known. set_of (directed known numbers)) (sym c.in-Some.is)
