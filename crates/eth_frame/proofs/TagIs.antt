-- What each tag says of its frame.
use Rattle.std.proofs.Common.{◌≡◌, ℕ, ◌<◌, ◌≤◌, ◌==◌, ◌&&◌, nat_le, not, Bool, true, false, cond, List, length, refl, sym, ◌∙◌, arith}
use Rattle.std.proofs.lemmas.Bool.{and_parts, or_parts, both_ways, not-true, eqb-true, eqb-false, leb-true, cond_both, cond-true, cond-false}
use Rattle.eth_frame.specs.declared.vlan_tag.Tag.{Tag}
use Rattle.eth_frame.specs.declared.vlan_tag.Tag.TheVariants as tags
use Rattle.eth_frame.specs.Tags.{kind_at, is_tag, has_tag, vid_in, names_vlan, tag_of}

-- what a frame has whose tag names a VLAN
pub record NamesVlan (frame : List ℕ) : Type 0 where
  pub whole : 18 ≤ length frame
  pub customer : kind_at 12 frame ≡ 0x8100
  pub least : 1 ≤ vid_in frame
  pub most : vid_in frame ≤ 4094
  pub single : is_tag (kind_at 16 frame) ≡ false

pub names_is : (frame : List ℕ) → names_vlan frame ≡ true → NamesVlan frame
names_is frame names =
    let whole : Bool = nat_le 18 (length frame) in
    let customer : Bool = kind_at 12 frame == 0x8100 in
    let least : Bool = nat_le 1 (vid_in frame) in
    let most : Bool = nat_le (vid_in frame) 4094 in
    let all = and_parts (whole && customer && least && most) (not (is_tag (kind_at 16 frame))) names in
    let three = and_parts (whole && customer && least) most all.0 in
    let two = and_parts (whole && customer) least three.0 in
    let one = and_parts whole customer two.0 in
    record {
      whole = leb-true 18 (length frame) one.0;
      customer = eqb-true (kind_at 12 frame) 0x8100 one.1;
      least = leb-true 1 (vid_in frame) two.1;
      most = leb-true (vid_in frame) 4094 three.1;
      single = not-true (is_tag (kind_at 16 frame)) all.1;
    }

-- a frame whose tag names a VLAN, and the number of it
pub vid_is : (frame : List ℕ) (vid : ℕ) → tags.Vid vid ≡ tag_of frame → NamesVlan frame × (vid ≡ vid_in frame)
unfolding tag_of
vid_is frame vid is =
    let P : Tag → Type 0 = λ t. tags.Vid vid ≡ t → NamesVlan frame × (vid ≡ vid_in frame) in
    cond_both (names_vlan frame) (tags.Vid (vid_in frame)) (cond (has_tag frame) tags.Bad tags.None) P
    (λ names same. (names_is frame names, (cc)))
    (λ other same. cond_both (has_tag frame) tags.Bad tags.None P (λ bad no. absurd (cc)) (λ none no. absurd (cc)) same)
    is

-- a frame with a bad tag has a tag
pub bad_is : (frame : List ℕ) → tags.Bad ≡ tag_of frame → has_tag frame ≡ true
unfolding tag_of
bad_is frame is =
    let P : Tag → Type 0 = λ t. tags.Bad ≡ t → has_tag frame ≡ true in
    cond_both (names_vlan frame) (tags.Vid (vid_in frame)) (cond (has_tag frame) tags.Bad tags.None) P
    (λ names no. absurd (cc))
    (λ other same. cond_both (has_tag frame) tags.Bad tags.None P (λ bad no. bad) (λ none no. absurd (cc)) same)
    is

-- a frame with no tag
pub none_is : (frame : List ℕ) → tags.None ≡ tag_of frame → has_tag frame ≡ false
unfolding tag_of
none_is frame is =
    let P : Tag → Type 0 = λ t. tags.None ≡ t → has_tag frame ≡ false in
    cond_both (names_vlan frame) (tags.Vid (vid_in frame)) (cond (has_tag frame) tags.Bad tags.None) P
    (λ names no. absurd (cc))
    (λ other same. cond_both (has_tag frame) tags.Bad tags.None P (λ bad no. absurd (cc)) (λ none no. none) same)
    is

-- a frame whose EtherType isn't that of a tag has none
pub plain_has_none : (frame : List ℕ) → is_tag (kind_at 12 frame) ≡ false → tags.None ≡ tag_of frame
unfolding tag_of
plain_has_none frame plain =
    let P : Tag → Type 0 = λ t. tags.None ≡ t in
    cond_both (names_vlan frame) (tags.Vid (vid_in frame)) (cond (has_tag frame) tags.Bad tags.None) P
    (λ names. absurd (eqb-false (kind_at 12 frame) 0x8100 (or_parts (kind_at 12 frame == 0x8100) (kind_at 12 frame == 0x88a8) plain).0 (names_is frame names).customer))
    (λ other. cond_both (has_tag frame) tags.Bad tags.None P
    (λ bad. absurd (both_ways (is_tag (kind_at 12 frame)) plain (and_parts (nat_le 14 (length frame)) (is_tag (kind_at 12 frame)) bad).1))
    (λ none. refl))

-- fewer octets than those of a header have none
pub short_has_none : (frame : List ℕ) → length frame < 14 → tags.None ≡ tag_of frame
unfolding tag_of
short_has_none frame short =
    let P : Tag → Type 0 = λ t. tags.None ≡ t in
    cond_both (names_vlan frame) (tags.Vid (vid_in frame)) (cond (has_tag frame) tags.Bad tags.None) P
    (λ names. absurd (omega (arith, short, (names_is frame names).whole)))
    (λ other. cond_both (has_tag frame) tags.Bad tags.None P
    (λ bad. absurd (omega (arith, short, leb-true 14 (length frame) (and_parts (nat_le 14 (length frame)) (is_tag (kind_at 12 frame)) bad).0)))
    (λ none. refl))

-- a frame whose tag names no VLAN, but that has one, has a bad one
pub other_is_bad : (frame : List ℕ) → has_tag frame ≡ true → names_vlan frame ≡ false → tags.Bad ≡ tag_of frame
unfolding tag_of
other_is_bad frame has other =
    sym (cond-false (names_vlan frame) (tags.Vid (vid_in frame)) (cond (has_tag frame) tags.Bad tags.None) other ∙ cond-true (has_tag frame) tags.Bad tags.None has)

-- a frame whose tag names a VLAN has its number
pub named_has_vid : (frame : List ℕ) → names_vlan frame ≡ true → tags.Vid (vid_in frame) ≡ tag_of frame
unfolding tag_of
named_has_vid frame names = sym (cond-true (names_vlan frame) (tags.Vid (vid_in frame)) (cond (has_tag frame) tags.Bad tags.None) names)
