-- The VLANs of frames (IEEE 802.1Q): in which one a frame is at a port, at which ports it may be, and what it is there.
use Rattle.std.specs.Prelude.{ℕ, ◌==◌, ◌&&◌, Bool, false, Option, Some, None, if◌then◌else◌, List}
use Rattle.std.specs.List.{list_any}
use Rattle.savi_kinds.specs.declared.plan.Plan.{Plan}
use Rattle.savi_kinds.specs.declared.plan.Vlan.{Vlan}
use Rattle.savi_kinds.specs.declared.plan.Vlan.TheVariants.{Access, Trunk}
use Rattle.savi_kinds.specs.Ports.{number_of}
use Rattle.savi_kinds.specs.Vlans.{is_member_of, vlan_among}
use Rattle.eth_frame.specs.declared.vlan_tag.Tag.{Tag}
use Rattle.eth_frame.specs.declared.vlan_tag.Tag.TheVariants as tags
use Rattle.eth_frame.specs.Tags.{tag_of, tagged}

-- the VLAN of a frame with this tag: at an access port that of the port where the frame has no tag, at a trunk that of the
-- tag where the trunk lists it, else none
abbrev pub vlan_at : Vlan → Tag → Option ℕ
vlan_at (Access own) tags.None = Some own
vlan_at (Trunk vlans) (tags.Vid vlan) = if list_any (λ v. v == vlan) vlans.items then Some vlan else None
vlan_at port tag = None

-- the same at a port of a plan; at another one none
abbrev pub vlan_at_port : Option Vlan → Tag → Option ℕ
vlan_at_port (Some port) tag = vlan_at port tag
vlan_at_port None tag = None

-- the VLAN of a frame with these octets at the port of this number
abbrev pub vlan_of_frame : Plan → ℕ → List ℕ → Option ℕ
vlan_of_frame plan number octets = vlan_at_port (vlan_among plan.ports number) (tag_of octets)

-- whether a frame's VLAN is this one
abbrev pub is_vlan : ℕ → Option ℕ → Bool
is_vlan vlan (Some v) = v == vlan
is_vlan vlan None = false

-- whether the port of this number is a member of a VLAN
abbrev pub has_member : ℕ → Plan → ℕ → Bool
has_member vlan plan number = list_any (λ p. (number_of p.number == number) && is_member_of vlan p) plan.ports

-- the octets of a frame of a VLAN at a port: as they are at an access port, and with the VLAN's tag at a trunk
abbrev pub octets_at : Vlan → ℕ → List ℕ → List ℕ
octets_at (Access own) vlan octets = octets
octets_at (Trunk vlans) vlan octets = tagged vlan octets

-- the same where the port is of the plan and the frame has a VLAN
abbrev pub octets_out : Option Vlan → Option ℕ → List ℕ → List ℕ
octets_out (Some port) (Some vlan) octets = octets_at port vlan octets
octets_out port vlan octets = octets
