-- The octets of a frame on its way out: with the tag of a VLAN, or with none.
use Rattle.std.specs.Prelude.{ℕ, ◌/◌, ◌%◌, Option, Some, None, List, [], ◌∷◌}
use Rattle.savi_kinds.specs.declared.plan.Vlan.{Vlan}
use Rattle.savi_kinds.specs.declared.plan.Vlan.TheVariants.{Trunk}
use Rattle.eth_frame.specs.Tags.{tagged}

-- the octets of a customer tag of a VLAN, of priority 0 (IEEE 802.1Q section 9.6)
abbrev pub tag_octets : Option ℕ → List ℕ
tag_octets None = []
tag_octets (Some vlan) = 0x81 ∷ 0 ∷ (vlan / 256) ∷ (vlan % 256) ∷ []

-- a frame with such a tag behind its addresses
abbrev pub with_tag : Option ℕ → List ℕ → List ℕ
with_tag None octets = octets
with_tag (Some vlan) octets = tagged vlan octets

-- the VLAN whose tag a frame of a VLAN has as it goes out at a port: at a trunk its own
abbrev pub tag_at : Option Vlan → Option ℕ → Option ℕ
tag_at (Some (Trunk vlans)) (Some vlan) = Some vlan
tag_at port vlan = None
