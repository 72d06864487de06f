-- What is seen of a frame, as a function; and that a tag which names no VLAN is a class of its own.
use Rattle.std.proofs.Common.{◌≡◌, ℕ, nat_le, true, List, length, refl, sym, ap, ◌∙◌, subst}
use Rattle.std.proofs.lemmas.Bool.{and_parts, and_from, both_ways, le-leb, leb-true}
use Rattle.eth_frame.specs.declared.header.Eth.{Eth}
use Rattle.eth_frame.specs.declared.vlan_tag.Tag.{Tag}
use Rattle.eth_frame.specs.declared.vlan_tag.Tag.TheVariants as tags
use Rattle.eth_frame.specs.Frame.{header_of}
use Rattle.eth_frame.specs.Tags.{kind_at, is_tag, has_tag, tag_of, untagged, inner}
use Rattle.eth_frame.proofs.TagIs.{vid_is, none_is, bad_is}
use Rattle.eth_frame.proofs.Untagged.{untagged_kind}
use Rattle.frame_class.specs.declared.classes.Class.{Class}
use Rattle.frame_class.specs.declared.classes.Class.TheVariants.{Tagged}
use Rattle.frame_class.specs.declared.classes.Seen.{Seen}
use Rattle.frame_class.specs.Reading.{IsTag, HasHeader, IsClassOf}
use Rattle.frame_class.specs.ClassOf.{class_of}
use Rattle.frame_class.specs.Seen.{IsSeen, seen_of}
use Rattle.frame_class.proofs.OneClass.{one_seen}
use Rattle.frame_class.proofs.ClassIs.{tag_decided, class_is, class_only}

-- `seen_of` is what is seen of each frame
pub seen_is : (frame : List ℕ) → IsSeen frame (seen_of frame)
seen_is frame = record { tag = refl; class = class_is (inner frame) }

-- and the only thing
pub seen_only : (frame : List ℕ) (seen : Seen) → IsSeen frame seen → seen ≡ seen_of frame
seen_only frame seen is = one_seen frame seen (seen_of frame) is (seen_is frame)

-- a frame with a bad tag is a tagged one
pub bad_is_tagged : (frame : List ℕ) → tag_of frame ≡ tags.Bad → (eth : Eth) × (class_of (inner frame) ≡ Tagged eth)
bad_is_tagged frame bad =
    let has = and_parts (nat_le 14 (length frame)) (is_tag (kind_at 12 frame)) (bad_is frame (sym bad)) in
    let header : HasHeader frame (header_of frame) = record { long = leb-true 14 (length frame) has.0; header = refl } in
    let tag : IsTag (kind_at 12 frame) = (tag_decided (kind_at 12 frame)).0 has.1 in
    let same : inner frame ≡ frame = ap (λ (t : Tag). untagged t frame) bad in
    (header_of frame, ap class_of same ∙ sym (class_only frame (Tagged (header_of frame)) (header, tag)))

-- the EtherType of a header is that of a tag
has_type : (frame : List ℕ) (eth : Eth) → HasHeader frame eth → IsTag eth.kind → is_tag (header_of frame).kind ≡ true
has_type frame eth has tag =
    let P : Eth → Type 0 = λ e. IsTag e.kind in
    (tag_decided (header_of frame).kind).1 (subst P has.header tag)

-- an inner frame has a tag where that of the frame is a bad one
bad_by : (frame : List ℕ) (tag : Tag) → tag ≡ tag_of frame → (eth : Eth) → HasHeader (untagged tag frame) eth → IsTag eth.kind → tag ≡ tags.Bad
bad_by frame tags.None is eth has type =
    absurd (both_ways (has_tag frame) (none_is frame is) (and_from (nat_le 14 (length frame)) (is_tag (kind_at 12 frame)) (le-leb 14 (length frame) has.long) (has_type frame eth has type)))
bad_by frame (tags.Vid vid) is eth has type =
    let named = (vid_is frame vid is).0 in
    let kind : is_tag (kind_at 16 frame) ≡ true = sym (ap is_tag (untagged_kind frame named.whole)) ∙ has_type (untagged (tags.Vid vid) frame) eth has type in
    absurd (both_ways (is_tag (kind_at 16 frame)) named.single kind)
bad_by frame tags.Bad is eth has type = refl

pub tagged_is_bad : (frame : List ℕ) (eth : Eth) → class_of (inner frame) ≡ Tagged eth → tag_of frame ≡ tags.Bad
tagged_is_bad frame eth is =
    let P : Class → Type 0 = λ class. IsClassOf (inner frame) class in
    let has = subst P is (class_is (inner frame)) in
    bad_by frame (tag_of frame) refl eth has.0 has.1
