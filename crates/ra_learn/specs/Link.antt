-- The link that is learned of: the ports and prefixes of VLAN 1, which are those for which the plan names no VLAN (IEEE
-- 802.1Q table 9-2). Trunks and ports of other VLANs are passed over.
use Rattle.std.specs.Prelude.{ℕ, ◌==◌, ◌&&◌, Bool, false, List, filter}
use Rattle.std.specs.List.{list_any}
use Rattle.savi_kinds.specs.declared.address.Prefix.{Prefix}
use Rattle.savi_kinds.specs.declared.plan.Plan.{Plan}
use Rattle.savi_kinds.specs.declared.plan.PortPlan.{PortPlan}
use Rattle.savi_kinds.specs.declared.plan.PrefixPlan.{PrefixPlan}
use Rattle.savi_kinds.specs.declared.plan.Vlan.{Vlan}
use Rattle.savi_kinds.specs.declared.plan.Vlan.TheVariants.{Access, Trunk}
use Rattle.savi_kinds.specs.Ports.{number_of}
use Rattle.savi_kinds.specs.ValidPlan.{nets_of}

-- an access port of VLAN 1
abbrev pub is_default_access : Vlan → Bool
is_default_access (Access v) = v == 1
is_default_access (Trunk vs) = false

abbrev pub is_link_port : PortPlan → Bool
is_link_port p = is_default_access p.vlan

-- the ports of the link, in the order of the plan
abbrev pub link_ports : List PortPlan → List PortPlan
link_ports ports = filter is_link_port ports

abbrev pub is_link_port_at : ℕ → PortPlan → Bool
is_link_port_at number p = (number == number_of p.number) && is_link_port p

-- the port of this number is one of the link
abbrev pub is_on_link : Plan → ℕ → Bool
is_on_link plan number = list_any (is_link_port_at number) plan.ports

-- the prefixes of the link
abbrev pub link_nets : List PrefixPlan → List Prefix
link_nets prefixes = nets_of (filter (λ p. p.vlan == 1) prefixes)
