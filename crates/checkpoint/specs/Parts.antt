-- The parts of the state of an address, each of which has one line.
use Rattle.std.specs.Prelude.{ℕ, List, [], ◌∷◌, ◌++◌, Option, Some, None}
use Rattle.savi_kinds.specs.declared.port.Port.{Port}
use Rattle.savi_kinds.specs.AddrText.{addr_text}
use Rattle.fcfs_states.specs.declared.state.Fcfs.{Fcfs}
use Rattle.fcfs_states.specs.declared.state.Fcfs.TheVariants.{NoBind, Tentative, Valid, TestLt, TestVp}
use Rattle.dhcp_states.specs.declared.bound.Bound.{Bound as Binding}
use Rattle.savi_access.specs.declared.row.Row.{Row}
use Rattle.checkpoint.specs.declared.part.Part.{Part}
use Rattle.checkpoint.specs.declared.part.Way.{Way}
use Rattle.checkpoint.specs.declared.part.Way.TheVariants.{Fixed, Bound, Claimed}
use Rattle.checkpoint.specs.StateLines.{text_in_vlan, fixed_line, bound_line, fcfs_line}

abbrev pub way_line : List ℕ → Way → List (List ℕ)
way_line key (Fixed port) = fixed_line key port
way_line key (Bound bound) = bound_line key bound
way_line key (Claimed state) = fcfs_line key state

abbrev pub part_line : Part → List (List ℕ)
part_line part = way_line (text_in_vlan (addr_text part.address) part.vlan) part.way

abbrev pub part_of : ℕ × Row → Way → Part
part_of p way = record { vlan = p.0; address = p.1.address; way = way }

abbrev pub fixed_parts : ℕ × Row → Option Port → List Part
fixed_parts p None = []
fixed_parts p (Some port) = part_of p (Fixed port) ∷ []

abbrev pub bound_parts : ℕ × Row → Option Binding → List Part
bound_parts p None = []
bound_parts p (Some bound) = part_of p (Bound bound) ∷ []

abbrev pub claimed_parts : ℕ × Row → Fcfs → List Part
claimed_parts p NoBind = []
claimed_parts p (Tentative q since two) = part_of p (Claimed (Tentative q since two)) ∷ []
claimed_parts p (Valid q until) = part_of p (Claimed (Valid q until)) ∷ []
claimed_parts p (TestLt q since two) = part_of p (Claimed (TestLt q since two)) ∷ []
claimed_parts p (TestVp q claimant since two) = part_of p (Claimed (TestVp q claimant since two)) ∷ []

-- those of a row
abbrev pub parts_of : ℕ × Row → List Part
parts_of p = fixed_parts p p.1.state.fixed ++ bound_parts p p.1.state.dhcp ++ claimed_parts p p.1.state.fcfs
