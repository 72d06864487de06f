use Rattle.std.proofs.Common.{◌≡◌, ℕ, List, sym, ◌∙◌, subst}
use Rattle.eth_frame.specs.declared.vlan_tag.Tag.{Tag}
use Rattle.eth_frame.specs.declared.vlan_tag.Tag.TheVariants as tags
use Rattle.eth_frame.specs.Tags.{tag_of, untagged}
use Rattle.eth_frame.proofs.TagIs.{vid_is}
use Rattle.frame_class.specs.Reading.{IsClassOf}
use Rattle.frame_class.proofs.reader.put_inner_class.Goals as goal

pub put_untagged_class-requires-clause-whole : goal.put_untagged_class-requires-clause-whole
put_untagged_class-requires-clause-whole c =
    let is : tags.Vid c.in-Vid.field-0 ≡ tag_of c.args.frame.now = sym c.in-Vid.is ∙ c.requires.tag in
    (vid_is c.args.frame.now c.in-Vid.field-0 is).0.whole

pub returns-in-None : goal.returns-in-None
returns-in-None c =
    let frame : List ℕ = c.args.frame.now in
    let P : Tag → Type 0 = λ t. IsClassOf (untagged t frame) c.put_class.new.class in
    let is : tags.None ≡ tag_of frame = sym c.in-None.is ∙ c.requires.tag in
    subst P is c.put_class.ensures

pub returns-in-Vid : goal.returns-in-Vid
returns-in-Vid c =
    let frame : List ℕ = c.args.frame.now in
    let P : Tag → Type 0 = λ t. IsClassOf (untagged t frame) c.put_untagged_class.new.class in
    let is : tags.Vid c.in-Vid.field-0 ≡ tag_of frame = sym c.in-Vid.is ∙ c.requires.tag in
    subst P is c.put_untagged_class.ensures

pub returns-in-Bad : goal.returns-in-Bad
returns-in-Bad c =
    let frame : List ℕ = c.args.frame.now in
    let P : Tag → Type 0 = λ t. IsClassOf (untagged t frame) c.put_class-in-Bad.new.class in
    let is : tags.Bad ≡ tag_of frame = sym c.in-Bad.is ∙ c.requires.tag in
    subst P is c.put_class-in-Bad.ensures
