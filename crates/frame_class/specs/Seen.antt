-- What is seen of a frame: its VLAN tag (IEEE 802.1Q section 9), and what its inner frame is. The inner frame is the frame
-- without its tag, where that names a VLAN.
use Rattle.std.specs.Prelude.{◌≡◌, ℕ, List}
use Rattle.eth_frame.specs.Tags.{tag_of, inner}
use Rattle.frame_class.specs.declared.classes.Seen.{Seen}
use Rattle.frame_class.specs.Reading.{IsClassOf}
use Rattle.frame_class.specs.ClassOf.{class_of}

pub record IsSeen (frame : List ℕ) (seen : Seen) : Type 0 where
  pub tag : seen.tag ≡ tag_of frame
  pub class : IsClassOf (inner frame) seen.class

-- the same as a function of the octets
abbrev pub seen_of : List ℕ → Seen
seen_of frame = record { tag = tag_of frame; class = class_of (inner frame) }
