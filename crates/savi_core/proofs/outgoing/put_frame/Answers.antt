use Rattle.std.proofs.Common.{◌≡◌, ℕ, Option, [], ◌∷◌, ◌++◌, ap, sym, ◌∙◌}
use Rattle.savi_kinds.specs.Ports.{number_of}
use Rattle.savi_kinds.specs.Vlans.{vlan_among}
use Rattle.eth_frame.specs.declared.vlan_tag.Tag.{Tag}
use Rattle.eth_frame.specs.Tags.{inner}
use Rattle.savi_history.specs.Queues.{Item}
use Rattle.savi_history.specs.Vlans.{vlan_at_port, vlan_of_frame}
use Rattle.savi_core.specs.Batches.{item_with}
use Rattle.savi_core.specs.Leaving.{tag_at, with_tag}
use Rattle.savi_core.proofs.Frames.{frame_read}
use Rattle.savi_core.proofs.outgoing.put_frame.Goals as goal

pub returns : goal.returns
returns c =
    let plan = c.args.ports.now in
    let q = number_of c.args.port in
    let own = vlan_among plan.ports q in
    let from = number_of c.in-Frame.from in
    let octets = c.octets-octets.result.now in
    let moment = c.entry-entry.result.moment in
    let has : c.tag_behind-has.result ≡ tag_at own (vlan_of_frame plan from octets) =
    c.tag_behind-has.ensures ∙ ap (λ (t : Tag). tag_at own (vlan_at_port (vlan_among plan.ports from) t)) c.tag-had.ensures in
    c.put_inner.ensures
    ∙ ap (λ (h : Option ℕ). c.args.into.now ++ item_with moment (with_tag h (inner octets)) ∷ []) has
    ∙ ap (λ (item : Item). c.args.into.now ++ item ∷ []) (sym (frame_read plan q c.args.hist.now.rows c.args.n c.entry-entry.result octets _ _ _ _ c.entry-entry.ensures c.octets-octets.ensures c.in-Frame.is))
