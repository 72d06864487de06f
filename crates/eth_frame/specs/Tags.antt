-- VLAN tags (IEEE 802.1Q section 9). A tag stands behind the source address: two octets with its own EtherType, and two of
-- control information, whose low 12 bits are the number of a VLAN. The EtherType of what the frame carries stands behind it.
use Rattle.std.specs.Prelude.{ℕ, ◌/◌, ◌%◌, ◌==◌, ◌&&◌, ◌||◌, nat_le, not, Bool, if◌then◌else◌, List, ◌∷◌, ◌++◌, length, take, drop}
use Rattle.byteorder.specs.Endian.{big_number}
use Rattle.eth_frame.specs.declared.vlan_tag.Tag.{Tag}
use Rattle.eth_frame.specs.declared.vlan_tag.Tag.TheVariants as tags

-- the EtherType at a place: 12, or 16 behind a tag
abbrev pub kind_at : ℕ → List ℕ → ℕ
kind_at place frame = big_number 2 (drop place frame)

-- the EtherType of a customer tag or of a service tag (table 9-1)
abbrev pub is_tag : ℕ → Bool
is_tag kind = (kind == 0x8100) || (kind == 0x88a8)

-- a tag, of whatever kind, stands behind the source address
abbrev pub has_tag : List ℕ → Bool
has_tag frame = nat_le 14 (length frame) && is_tag (kind_at 12 frame)

-- the number of a VLAN in the control information of a tag (section 9.6)
abbrev pub vid_in : List ℕ → ℕ
vid_in frame = big_number 2 (drop 14 frame) % 4096

-- A whole customer tag that names a VLAN, with no other tag behind it. The number 0 is that of a priority tag and names no
-- VLAN, and 4,095 is reserved (table 9-2).
abbrev pub names_vlan : List ℕ → Bool
names_vlan frame =
    nat_le 18 (length frame) && (kind_at 12 frame == 0x8100)
    && nat_le 1 (vid_in frame) && nat_le (vid_in frame) 4094
    && not (is_tag (kind_at 16 frame))

-- the tag of a frame
unfoldable pub tag_of : List ℕ → Tag
tag_of frame = if names_vlan frame then tags.Vid (vid_in frame) else if has_tag frame then tags.Bad else tags.None

-- a frame without its tag, octets 12 to 15
abbrev pub without_tag : List ℕ → List ℕ
without_tag frame = take 12 frame ++ drop 16 frame

-- a frame with this tag, without it where it names a VLAN
abbrev pub untagged : Tag → List ℕ → List ℕ
untagged tags.None frame = frame
untagged (tags.Vid vid) frame = without_tag frame
untagged tags.Bad frame = frame

-- the inner frame: a frame without the tag that names its VLAN
abbrev pub inner : List ℕ → List ℕ
inner frame = untagged (tag_of frame) frame

-- a frame with a customer tag of this VLAN, of priority 0
abbrev pub tagged : ℕ → List ℕ → List ℕ
tagged vid frame = take 12 frame ++ 0x81 ∷ 0 ∷ (vid / 256) ∷ (vid % 256) ∷ drop 12 frame
