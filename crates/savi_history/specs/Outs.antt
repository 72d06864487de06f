-- The ports to which a frame goes in its VLAN: where its destination is known, the port of that station, else each member;
-- of these, those of its scope that aren't shut, without the ingress port (IEEE 802.1Q section 8.6).
use Rattle.std.specs.Prelude.{ℕ, ◌==◌, ◌&&◌, ◌||◌, not, Bool, true, List, Option, Some, None}
use Rattle.std.specs.List.{filter}
use Rattle.savi_kinds.specs.declared.plan.Plan.{Plan}
use Rattle.savi_kinds.specs.declared.plan.PortPlan.{PortPlan}
use Rattle.savi_kinds.specs.declared.port.Port.{Port}
use Rattle.savi_kinds.specs.declared.port.PortSet.{PortSet}
use Rattle.savi_kinds.specs.declared.verdict.Scope.{Scope}
use Rattle.savi_kinds.specs.declared.verdict.Scope.TheVariants.{All, TrustedOnly, TrustedAnd}
use Rattle.savi_kinds.specs.declared.verdict.Verdict.{Verdict}
use Rattle.savi_kinds.specs.declared.verdict.Verdict.TheVariants.{Pass, Drop}
use Rattle.savi_kinds.specs.Ports.{number_of}
use Rattle.savi_kinds.specs.PortSets.{no_ports, set_of, is_member}
use Rattle.savi_kinds.specs.ValidPlan.{numbers_of}
use Rattle.savi_kinds.specs.Vlans.{is_member_of}
use Rattle.hist_store.specs.Rows.{Row}
use Rattle.checkpoint.specs.Bases.{Base}
use Rattle.savi_history.specs.Passes.{is_trusted}
use Rattle.savi_history.specs.ShutPorts.{is_shut}
use Rattle.savi_history.specs.Stations.{known_port}

-- whether a port of the plan is in a scope
abbrev pub is_in_scope : Scope → PortPlan → Bool
is_in_scope All q = true
is_in_scope TrustedOnly q = is_trusted q.role
is_in_scope (TrustedAnd p) q = is_trusted q.role || (number_of q.number == number_of p)

-- the members of a VLAN that are in a scope, without one port
abbrev pub others_in : ℕ → Plan → Scope → ℕ → List PortPlan
others_in vlan plan scope port =
    filter (λ q. is_member_of vlan q && (is_in_scope scope q && not (number_of q.number == port))) plan.ports

-- of these ports, the one at which the destination is known; all of them where it isn't
abbrev pub directed : Option Port → List ℕ → List ℕ
directed None numbers = numbers
directed (Some port) numbers = filter (λ n. n == number_of port) numbers

-- the ports to which a frame of a VLAN with this verdict goes, by the port at which its destination is known
abbrev pub outs_by : ℕ → Plan → ℕ → Option Port → Verdict → PortSet
outs_by vlan plan port known (Pass scope) = set_of (directed known (numbers_of (others_in vlan plan scope port)))
outs_by vlan plan port known (Drop rule) = no_ports

-- of a set of ports those of the plan that aren't shut
abbrev pub without_shut : Plan → Base → List Row → PortSet → PortSet
without_shut plan base past set = set_of (filter (λ q. is_member set q && not (is_shut plan base q past)) (numbers_of plan.ports))

-- the ports to which these octets go in their VLAN with this verdict, at this moment and after this past; without a VLAN
-- they go nowhere
abbrev pub outs : Option ℕ → Plan → Base → List Row → ℕ → ℕ → List ℕ → Verdict → PortSet
outs (Some vlan) plan base past port moment octets verdict =
    without_shut plan base past (outs_by vlan plan port (known_port vlan plan base past moment octets) verdict)
outs None plan base past port moment octets verdict = no_ports
