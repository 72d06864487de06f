use Rattle.std.proofs.Common.{◌∙◌, ap, count_by}
use Rattle.std.specs.List.{insert}
use Rattle.ra_learn.specs.Tables.{router_before}
use Rattle.ra_learn.proofs.Placing.{placed_is}
use Rattle.ra_learn.proofs.Orders.{routers_ordered}
use Rattle.ra_learn.proofs.routers.place.Goals as goal

pub returns-clause-items : goal.returns-clause-items
returns-clause-items c =
    let others = c.args.routers.now.items in
    c.in-Ok.ensures.items
    ∙ ap (λ at. insert others at c.args.router) (c.place_of-at.ensures ∙ ap (count_by (λ other. router_before other c.args.router)) c.as_slice.ensures.value)
    ∙ placed_is router_before routers_ordered c.args.router others c.requires.ordered c.requires.others
