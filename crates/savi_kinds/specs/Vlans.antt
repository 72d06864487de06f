-- The VLANs of ports (IEEE 802.1Q). An access port is of one VLAN; a trunk is a member of those that it lists.
use Rattle.std.specs.Prelude.{ℕ, ◌≤◌, ◌==◌, Bool, true, false, List, [], ◌∷◌, Option, Some, None, if◌then◌else◌, fold, flat_map}
use Rattle.std.specs.List.{list_any}
use Rattle.std.specs.Ordering.{nat_cmp}
use Rattle.std.specs.BTreeSet.{insert_key}
use Rattle.savi_kinds.specs.declared.plan.Plan.{Plan}
use Rattle.savi_kinds.specs.declared.plan.PortPlan.{PortPlan}
use Rattle.savi_kinds.specs.declared.plan.Role.{Role}
use Rattle.savi_kinds.specs.declared.plan.Role.TheVariants.{Host, Server, Trusted}
use Rattle.savi_kinds.specs.declared.plan.Vlan.{Vlan}
use Rattle.savi_kinds.specs.declared.plan.Vlan.TheVariants.{Access, Trunk}
use Rattle.savi_kinds.specs.Ports.{number_of}

-- the number of a VLAN: 0 and 4,095 are none (IEEE 802.1Q table 9-2)
abbrev pub IsVlan : ℕ → Type 0
IsVlan v = (1 ≤ v) × (v ≤ 4094)

-- the numbers of a port's VLANs
abbrev pub numbers_of_vlan : Vlan → List ℕ
numbers_of_vlan (Access v) = v ∷ []
numbers_of_vlan (Trunk vs) = vs.items

abbrev pub is_trunk : Vlan → Bool
is_trunk (Access v) = false
is_trunk (Trunk vs) = true

-- whether a port is a member of a VLAN: an access port of it, or a trunk that lists it
abbrev pub is_member_of : ℕ → PortPlan → Bool
is_member_of v port = list_any (λ n. n == v) (numbers_of_vlan port.vlan)

-- the VLANs of these ports, in rising order, each once: a law says that they are those of which some port is a member
abbrev pub vlans_of_ports : List PortPlan → List ℕ
vlans_of_ports ports = fold (insert_key nat_cmp) [] (flat_map (λ port. numbers_of_vlan port.vlan) ports)

-- the VLANs of a plan, in which the switch has addresses, requests and stations
abbrev pub vlans_of : Plan → List ℕ
vlans_of plan = vlans_of_ports plan.ports

-- the VLANs of the port with this number, if it is among these ports
abbrev pub vlan_among : List PortPlan → ℕ → Option Vlan
vlan_among [] number = None
vlan_among (p ∷ ports) number = if number_of p.number == number then Some p.vlan else vlan_among ports number

-- the one VLAN of an access port
abbrev pub access_number : Vlan → Option ℕ
access_number (Access v) = Some v
access_number (Trunk vs) = None

-- the VLAN in which the sources of a port are validated: those of a trusted port aren't
abbrev pub vlan_by : Role → Vlan → Option ℕ
vlan_by Host vlan = access_number vlan
vlan_by Server vlan = access_number vlan
vlan_by Trusted vlan = None

abbrev pub access_vlan_among : List PortPlan → ℕ → Option ℕ
access_vlan_among [] number = None
access_vlan_among (p ∷ ports) number = if number_of p.number == number then vlan_by p.role p.vlan else access_vlan_among ports number

-- the same at the port of a plan with this number
abbrev pub access_vlan : Plan → ℕ → Option ℕ
access_vlan plan number = access_vlan_among plan.ports number
