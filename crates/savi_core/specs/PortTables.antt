-- What is kept of a plan's ports, so that each is found by its number, and those of a VLAN at once.
use Rattle.std.specs.Prelude.{◌≡◌, ℕ, ◌≤◌, ◌&&◌, List, map, slice_index_or}
use Rattle.std.specs.List.{filter}
use Rattle.savi_kinds.specs.declared.plan.Plan.{Plan}
use Rattle.savi_kinds.specs.declared.plan.PortPlan.{PortPlan}
use Rattle.savi_kinds.specs.declared.port.PortSet.{PortSet}
use Rattle.savi_kinds.specs.declared.verdict.Scope.{Scope}
use Rattle.savi_kinds.specs.declared.verdict.Scope.TheVariants.{All, TrustedOnly}
use Rattle.savi_kinds.specs.PortSets.{set_of}
use Rattle.savi_kinds.specs.ValidPlan.{IsValidPlan, numbers_of}
use Rattle.savi_kinds.specs.Vlans.{is_member_of, vlans_of}
use Rattle.savi_history.specs.Passes.{place_of}
use Rattle.savi_history.specs.Outs.{is_in_scope}
use Rattle.savi_core.specs.declared.ports.VlanPorts.{VlanPorts}

pub record Table : Type 0 where
  pub plan : Plan
  -- the place of a port, by its number
  pub places : List ℕ
  -- the ports of each VLAN, in order
  pub vlans : List VlanPorts

-- the members of a VLAN that are in a scope, among these ports
abbrev pub members_among : ℕ → List PortPlan → Scope → PortSet
members_among vlan ports scope = set_of (numbers_of (filter (λ q. is_member_of vlan q && is_in_scope scope q) ports))

-- the ports of a VLAN, and those of them that are trusted
abbrev pub ports_among : List PortPlan → ℕ → VlanPorts
ports_among ports vlan = record {
  vlan = vlan;
  all = members_among vlan ports All;
  trusted = members_among vlan ports TrustedOnly;
}

pub record IsPortTable (t : Table) : Type 0 where
  pub valid : IsValidPlan t.plan
  pub places : (number : ℕ) → number ≤ 16 → slice_index_or t.places number 0 ≡ place_of t.plan number
  pub vlans : t.vlans ≡ map (ports_among t.plan.ports) (vlans_of t.plan)
