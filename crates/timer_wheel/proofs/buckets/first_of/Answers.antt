use Rattle.std.proofs.Common.{◌≡◌, ◌<◌, ap, sym, ◌∙◌, subst, length, get_or, arith}
use Rattle.std.proofs.lemmas.List.{get_or_default}
use Rattle.timer_wheel.specs.Rings.{node_row, bucket_of}
use Rattle.timer_wheel.specs.Searches.{LeastOf}
use Rattle.timer_wheel.proofs.Nodes.{bucket_least}
use Rattle.timer_wheel.proofs.buckets.first_of.Goals as goal

pub returns : goal.returns
returns c =
    let within : c.args.bucket < length c.args.rings.now.later.items = omega (arith, c.requires.bucket, c.requires.wired.later_nodes) in
    let read = c.index.ensures ∙ get_or_default c.args.rings.now.later.items c.args.bucket c.index.result.now 0 within in
    let same : c.row_of.result ≡ node_row c.args.rows.now.slots (get_or c.args.rings.now.later.items c.args.bucket 0) = c.row_of.ensures ∙ ap (node_row c.args.rows.now.slots) read in
    subst (LeastOf c.args.rows.now.slots (λ armed. bucket_of armed ≡ c.args.bucket)) (sym same)
    (bucket_least c.args.rows.now.slots c.args.rings.now.later.items c.args.rings.now.earlier.items c.args.bucket c.requires.wired.ringed c.requires.bucket)
