use Rattle.std.proofs.Common.{sym, ◌∙◌, arith}
use Rattle.eth_frame.proofs.TagIs.{vid_is}
use Rattle.savi_core.proofs.outgoing.put_inner.Goals as goal

-- a frame with a tag is longer than the tag

pub slice_bounds-put-count : goal.slice_bounds-put-count
slice_bounds-put-count c =
    let names = vid_is c.args.octets.now _ (sym c.in-Vid.is ∙ c.requires.tag) in
    omega (arith, names.0.whole)

pub slice_bounds-put-start : goal.slice_bounds-put-start
slice_bounds-put-start c =
    let names = vid_is c.args.octets.now _ (sym c.in-Vid.is ∙ c.requires.tag) in
    omega (arith, names.0.whole)
