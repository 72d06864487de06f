use Rattle.std.proofs.Common.{◌≡◌, sym, ◌∙◌, ap}
use Rattle.eth_frame.specs.declared.vlan_tag.Tag.{Tag}
use Rattle.eth_frame.specs.declared.vlan_tag.Tag.TheVariants as tags
use Rattle.eth_frame.specs.Frame.{header_of}
use Rattle.eth_frame.specs.Tags.{tag_of, untagged}
use Rattle.eth_frame.proofs.TagIs.{vid_is}
use Rattle.v4_snoop.proofs.inner_frame.inner_header.Goals as goal

pub untagged_header-requires : goal.untagged_header-requires
untagged_header-requires c =
    let is : tags.Vid c.in-Vid.field-0 ≡ tag_of c.args.frame.now = sym c.in-Vid.is ∙ c.requires.tag in
    (vid_is c.args.frame.now c.in-Vid.field-0 is).0.whole

pub returns-in-None : goal.returns-in-None
returns-in-None c =
    let is : tags.None ≡ tag_of c.args.frame.now = sym c.in-None.is ∙ c.requires.tag in
    c.outer_header.ensures ∙ ap (λ (t : Tag). header_of (untagged t c.args.frame.now)) is

pub returns-in-Vid : goal.returns-in-Vid
returns-in-Vid c =
    let is : tags.Vid c.in-Vid.field-0 ≡ tag_of c.args.frame.now = sym c.in-Vid.is ∙ c.requires.tag in
    c.untagged_header.ensures ∙ ap (λ (t : Tag). header_of (untagged t c.args.frame.now)) is

pub returns-in-Bad : goal.returns-in-Bad
returns-in-Bad c =
    let is : tags.Bad ≡ tag_of c.args.frame.now = sym c.in-Bad.is ∙ c.requires.tag in
    c.outer_header-in-Bad.ensures ∙ ap (λ (t : Tag). header_of (untagged t c.args.frame.now)) is
