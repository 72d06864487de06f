use Rattle.std.proofs.Common.{◌∙◌, ap, count_by}
use Rattle.std.specs.List.{insert}
use Rattle.ra_learn.specs.Tables.{prefix_before}
use Rattle.ra_learn.proofs.Placing.{placed_is}
use Rattle.ra_learn.proofs.Orders.{prefixes_ordered}
use Rattle.ra_learn.proofs.prefixes.place.Goals as goal

pub returns-clause-items : goal.returns-clause-items
returns-clause-items c =
    let others = c.args.prefixes.now.items in
    c.in-Ok.ensures.items
    ∙ ap (λ at. insert others at c.args.prefix) (c.place_of-at.ensures ∙ ap (count_by (λ other. prefix_before other c.args.prefix)) c.as_slice.ensures.value)
    ∙ placed_is prefix_before prefixes_ordered c.args.prefix others c.requires.ordered c.requires.others
