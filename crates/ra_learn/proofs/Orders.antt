-- The orders of routers and of prefixes.
use Rattle.savi_kinds.specs.Ports.{number_of}
use Rattle.ra_learn.specs.declared.routers.Router.{Router}
use Rattle.ra_learn.specs.declared.prefixes.LinkPrefix.{LinkPrefix}
use Rattle.ra_learn.specs.Tables.{router_before, prefix_before}
use Rattle.ra_learn.proofs.Placing.{IsOrder, numbers_order}

pub routers_ordered : IsOrder router_before
routers_ordered = numbers_order (λ (r : Router). r.source.0) (λ (r : Router). number_of r.port)

pub prefixes_ordered : IsOrder prefix_before
prefixes_ordered = numbers_order (λ (p : LinkPrefix). p.prefix.net.0) (λ (p : LinkPrefix). p.prefix.len)
