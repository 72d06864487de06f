-- The parts of a frame without its tag.
use Rattle.std.proofs.Common.{◌≡◌, ℕ, ◌-◌, ◌≤◌, List, length, take, drop, refl, sym, ap, ◌∙◌, arith, length-append, length-drop}
use Rattle.std.proofs.lemmas.List.{length-take, length-take-le, take-take, take-append-le, drop-append-le, drop-take, drop-drop, drop_at}
use Rattle.byteorder.specs.Endian.{big_number}
use Rattle.savi_kinds.specs.declared.address.Mac.{Mac}
use Rattle.eth_frame.specs.declared.header.Eth.{Eth}
use Rattle.eth_frame.specs.declared.vlan_tag.Tag.{Tag}
use Rattle.eth_frame.specs.declared.vlan_tag.Tag.TheVariants as tags
use Rattle.eth_frame.specs.Frame.{header_of, payload_of}
use Rattle.eth_frame.specs.Tags.{kind_at, without_tag, tag_of, untagged, inner}
use Rattle.eth_frame.proofs.TagIs.{vid_is}

-- the two addresses, of 12 octets
front_size : (frame : List ℕ) → 18 ≤ length frame → length (take 12 frame) ≡ 12
front_size frame whole = length-take-le 12 frame (omega (arith, whole))

pub untagged_size : (frame : List ℕ) → 18 ≤ length frame → length (without_tag frame) ≡ length frame - 4
untagged_size frame whole =
    omega (arith, whole, length-append (take 12 frame) (drop 16 frame), front_size frame whole, length-drop 16 frame)

-- a header of these addresses and this EtherType
abbrev pub header_with : List ℕ → List ℕ → ℕ → Eth
header_with dst src kind = record { dst = record { 0 = dst }; src = record { 0 = src }; kind = kind }

header_same : (dst dst' src src' : List ℕ) (kind kind' : ℕ) → dst ≡ dst' → src ≡ src' → kind ≡ kind' → header_with dst src kind ≡ header_with dst' src' kind'
header_same dst dst' src src' kind kind' d s k =
    ap (λ (l : List ℕ). header_with l src kind) d ∙ ap (λ (l : List ℕ). header_with dst' l kind) s ∙ ap (λ (n : ℕ). header_with dst' src' n) k

dst_same : (frame : List ℕ) → 18 ≤ length frame → take 6 (without_tag frame) ≡ take 6 frame
dst_same frame whole =
    take-append-le 6 (take 12 frame) (drop 16 frame) (omega (arith, front_size frame whole)) ∙ take-take 6 12 frame (omega arith)

src_same : (frame : List ℕ) → 18 ≤ length frame → take 6 (drop 6 (without_tag frame)) ≡ take 6 (drop 6 frame)
src_same frame whole =
    let front : List ℕ = take 12 frame in
    let rest : List ℕ = drop 16 frame in
    let size : length front ≡ 12 = front_size frame whole in
    ap (λ (l : List ℕ). take 6 l) (drop-append-le 6 front rest (omega (arith, size)))
    ∙ take-append-le 6 (drop 6 front) rest (omega (arith, size, length-drop 6 front))
    ∙ ap (λ (l : List ℕ). take 6 l) (drop-take 6 6 frame)
    ∙ take-take 6 6 (drop 6 frame) (omega arith)

-- behind the addresses stands what stood behind the tag
pub behind_tag : (frame : List ℕ) → 18 ≤ length frame → drop 12 (without_tag frame) ≡ drop 16 frame
behind_tag frame whole = drop_at (take 12 frame) (drop 16 frame) 12 (front_size frame whole)

-- the header is that of the frame, with the EtherType behind the tag
pub untagged_header_is : (frame dst src : List ℕ) (kind : ℕ) → 18 ≤ length frame → dst ≡ take 6 frame → src ≡ take 6 (drop 6 frame) → kind ≡ kind_at 16 frame
    → header_with dst src kind ≡ header_of (without_tag frame)
untagged_header_is frame dst src kind whole dst_is src_is kind_is =
    header_same dst (take 6 (without_tag frame)) src (take 6 (drop 6 (without_tag frame))) kind (kind_at 12 (without_tag frame))
    (dst_is ∙ sym (dst_same frame whole))
    (src_is ∙ sym (src_same frame whole))
    (kind_is ∙ sym (ap (λ (l : List ℕ). big_number 2 l) (behind_tag frame whole)))

-- the EtherType of a frame without its tag
pub untagged_kind : (frame : List ℕ) → 18 ≤ length frame → (header_of (without_tag frame)).kind ≡ kind_at 16 frame
untagged_kind frame whole = ap (λ (l : List ℕ). big_number 2 l) (behind_tag frame whole)

-- what the frame carries stands from octet 18 on
pub untagged_payload : (frame : List ℕ) → 18 ≤ length frame → payload_of (without_tag frame) ≡ drop 18 frame
untagged_payload frame whole =
    sym (drop-drop 2 12 (without_tag frame)) ∙ ap (λ (l : List ℕ). drop 2 l) (behind_tag frame whole) ∙ drop-drop 2 16 frame

-- an inner frame is no longer than its frame
untagged_short : (tag : Tag) (frame : List ℕ) → length (untagged tag frame) ≤ length frame
untagged_short tags.None frame = omega arith
untagged_short (tags.Vid vid) frame =
    omega (arith, length-append (take 12 frame) (drop 16 frame), length-take 12 frame, length-drop 16 frame)
untagged_short tags.Bad frame = omega arith

pub inner_short : (frame : List ℕ) → length (inner frame) ≤ length frame
inner_short frame = untagged_short (tag_of frame) frame

abbrev mac_with : List ℕ → Mac
mac_with octets = record { 0 = octets }

dst_by : (frame : List ℕ) (tag : Tag) → tag ≡ tag_of frame → (header_of (untagged tag frame)).dst ≡ (header_of frame).dst
dst_by frame tags.None is = refl
dst_by frame (tags.Vid vid) is = ap mac_with (dst_same frame (vid_is frame vid is).0.whole)
dst_by frame tags.Bad is = refl

src_by : (frame : List ℕ) (tag : Tag) → tag ≡ tag_of frame → (header_of (untagged tag frame)).src ≡ (header_of frame).src
src_by frame tags.None is = refl
src_by frame (tags.Vid vid) is = ap mac_with (src_same frame (vid_is frame vid is).0.whole)
src_by frame tags.Bad is = refl

whole_by : (frame : List ℕ) (tag : Tag) → tag ≡ tag_of frame → 14 ≤ length frame → 14 ≤ length (untagged tag frame)
whole_by frame tags.None is whole = whole
whole_by frame (tags.Vid vid) is whole =
    let tagged : 18 ≤ length frame = (vid_is frame vid is).0.whole in
    omega (arith, tagged, untagged_size frame tagged)
whole_by frame tags.Bad is whole = whole

-- an inner frame has the addresses of its frame
pub inner_dst : (frame : List ℕ) → (header_of (inner frame)).dst ≡ (header_of frame).dst
inner_dst frame = dst_by frame (tag_of frame) refl

pub inner_src : (frame : List ℕ) → (header_of (inner frame)).src ≡ (header_of frame).src
inner_src frame = src_by frame (tag_of frame) refl

-- and a whole header where its frame has one
pub inner_whole : (frame : List ℕ) → 14 ≤ length frame → 14 ≤ length (inner frame)
inner_whole frame whole = whole_by frame (tag_of frame) refl whole
