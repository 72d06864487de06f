-- What a plan says on access, as rules. Each port of a host or a server is in one VLAN, and each prefix is of one.
use Rattle.std.specs.Prelude.{ℕ, ◌==◌, ◌&&◌, Bool, Option, Some, None, if◌then◌else◌, List, [], ◌∷◌}
use Rattle.std.specs.List.{list_any}
use Rattle.savi_kinds.specs.declared.plan.Plan.{Plan}
use Rattle.savi_kinds.specs.declared.plan.PortPlan.{PortPlan}
use Rattle.savi_kinds.specs.declared.plan.PrefixPlan.{PrefixPlan}
use Rattle.savi_kinds.specs.declared.plan.Role.{Role}
use Rattle.savi_kinds.specs.declared.plan.Role.TheVariants as roles
use Rattle.savi_kinds.specs.declared.plan.Method.{Method}
use Rattle.savi_kinds.specs.declared.plan.Method.TheVariants.{Fcfs}
use Rattle.savi_kinds.specs.Ports.{number_of}
use Rattle.savi_kinds.specs.ValidPlan.{numbers_of}
use Rattle.savi_kinds.specs.Vlans.{access_vlan}
use Rattle.savi_kinds.specs.Prefixes.{link_local}
use Rattle.nd_read.specs.InPrefix.{lies_in}
use Rattle.fcfs_states.specs.declared.times.Times.{Times}
use Rattle.savi_access.specs.Rules.{AccessRules}

-- the times of a plan
abbrev pub times_of : Plan → Times
times_of plan = record { gap = plan.gap; test = plan.test; life = plan.life }

-- the port is one of the plan's
abbrev pub has_port : Plan → ℕ → Bool
has_port plan number = list_any (λ n. n == number) (numbers_of plan.ports)

-- the role of a port of the plan
abbrev pub role_among : List PortPlan → ℕ → Role
role_among [] number = roles.Host
role_among (p ∷ ports) number = if number_of p.number == number then p.role else role_among ports number

abbrev pub role_of : Plan → ℕ → Role
role_of plan number = role_among plan.ports number

-- the method of the prefix of this VLAN in which an address lies: the prefixes of a VLAN are apart
abbrev pub method_among : List PrefixPlan → ℕ → ℕ → Option Method
method_among [] vlan a = None
method_among (p ∷ prefixes) vlan a =
    if (p.vlan == vlan) && lies_in a p.prefix then Some p.method else method_among prefixes vlan a

-- how an address is assigned in a VLAN: one of fe80::/64 by first come, another one by the method of its prefix there
abbrev pub method_in : Plan → ℕ → ℕ → Option Method
method_in plan vlan a = if lies_in a link_local then Some Fcfs else method_among plan.prefixes vlan a

-- what a plan says on access
abbrev pub rules_of : Plan → AccessRules
rules_of plan = record {
  addresses = record {
    times = times_of plan;
    method_of = method_in plan;
    vlan_of = access_vlan plan;
    per_port = plan.per_port;
  };
  role_of = role_of plan;
  drop_unknown = plan.drop_unknown;
  validates = plan.savi;
}
