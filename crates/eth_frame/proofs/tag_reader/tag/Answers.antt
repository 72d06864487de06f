use Rattle.std.proofs.Common.{◌≡◌, ℕ, nat_le, true, List, length, sym, ap, ◌∙◌}
use Rattle.std.proofs.lemmas.Bool.{and_from, le-leb}
use Rattle.eth_frame.specs.declared.vlan_tag.Tag.TheVariants as tags
use Rattle.eth_frame.specs.Tags.{kind_at, is_tag, has_tag}
use Rattle.eth_frame.proofs.TagIs.{plain_has_none, other_is_bad, named_has_vid}
use Rattle.eth_frame.proofs.tag_reader.tag.Goals as goal

pub returns-then-not-is_tag : goal.returns-then-not-is_tag
returns-then-not-is_tag c =
    let same : is_tag (kind_at 12 c.args.frame.now) ≡ c.is_tag.result = ap is_tag (sym c.kind_at.ensures) ∙ sym c.is_tag.ensures in
    plain_has_none c.args.frame.now (same ∙ c.if-not-is_tag.true)

pub returns-then-names_vlan : goal.returns-then-names_vlan
returns-then-names_vlan c =
    ap (λ (n : ℕ). tags.Vid n) c.vid_in.ensures ∙ named_has_vid c.args.frame.now (sym c.names_vlan.ensures ∙ c.if-names_vlan.true)

pub returns-else-names_vlan : goal.returns-else-names_vlan
returns-else-names_vlan c =
    let frame : List ℕ = c.args.frame.now in
    let same : is_tag (kind_at 12 frame) ≡ c.is_tag.result = ap is_tag (sym c.kind_at.ensures) ∙ sym c.is_tag.ensures in
    let has : has_tag frame ≡ true = and_from (nat_le 14 (length frame)) (is_tag (kind_at 12 frame)) (le-leb 14 (length frame) c.requires) (same ∙ c.if-not-is_tag.false) in
    other_is_bad frame has (sym c.names_vlan.ensures ∙ c.if-names_vlan.false)
