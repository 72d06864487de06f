-- A plan within the limits, with its ports and prefixes in order.
use Rattle.std.specs.Prelude.{ℕ, ◌*◌, ◌<◌, ◌≤◌, ◌≡◌, ◌⊎◌, true, false, List, map, length, All, AllPairs}
use Rattle.std.specs.List.Sorted.{IsStrictlyIncreasing}
use Rattle.savi_kinds.specs.declared.plan.Plan.{Plan}
use Rattle.savi_kinds.specs.declared.plan.PortPlan.{PortPlan}
use Rattle.savi_kinds.specs.declared.plan.PrefixPlan.{PrefixPlan}
use Rattle.savi_kinds.specs.declared.plan.Role.TheVariants.{Trusted}
use Rattle.savi_kinds.specs.declared.address.Prefix.{Prefix}
use Rattle.savi_kinds.specs.Macs.{is_group}
use Rattle.savi_kinds.specs.Ports.{number_of}
use Rattle.savi_kinds.specs.Prefixes.{IsPrefix, AreApart, LiesIn, first_of, past_of, link_local, multicast, unspecified, loopback}
use Rattle.savi_kinds.specs.Vlans.{IsVlan, is_trunk, numbers_of_vlan, vlans_of}

-- the numbers of the ports, in the order of the plan
abbrev pub numbers_of : List PortPlan → List ℕ
numbers_of ports = map (λ p. number_of p.number) ports

-- the prefixes, in the order of the plan
abbrev pub nets_of : List PrefixPlan → List Prefix
nets_of prefixes = map (λ p. p.prefix) prefixes

-- a number from the least to the most
abbrev pub IsWithin : ℕ → ℕ → ℕ → Type 0
IsWithin least most n = (least ≤ n) × (n ≤ most)

-- a prefix that a plan may name: apart from fe80::/64, which is on-link in every plan, and from ff00::/8 (multicast), and
-- without :: and ::1
pub record IsPlanPrefix (p : Prefix) : Type 0 where
  pub prefix : IsPrefix p
  pub not_link_local : AreApart p link_local
  pub not_multicast : AreApart p multicast
  pub not_unspecified : ¬ LiesIn unspecified p
  pub not_loopback : ¬ LiesIn loopback p

-- the VLANs of a port: a trunk is trusted, and lists one VLAN or more, in rising order
pub record HasPlanVlans (port : PortPlan) : Type 0 where
  pub numbers : All IsVlan (numbers_of_vlan port.vlan)
  pub some : 1 ≤ length (numbers_of_vlan port.vlan)
  pub rising : IsStrictlyIncreasing (numbers_of_vlan port.vlan)
  pub trusted : is_trunk port.vlan ≡ true → port.role ≡ Trusted

-- The order of prefixes: by VLAN, and within a VLAN each one ends before the next one begins. Addresses of one VLAN are not
-- those of another.
abbrev pub StandsBefore : PrefixPlan → PrefixPlan → Type 0
StandsBefore p q = (p.vlan < q.vlan) ⊎ ((p.vlan ≡ q.vlan) × (past_of p.prefix ≤ first_of q.prefix))

-- a whole number of seconds, in ms
abbrev pub IsSeconds : ℕ → ℕ → ℕ → Type 0
IsSeconds least most ms = (seconds : ℕ) × (ms ≡ 1000 * seconds) × IsWithin least most seconds

pub record IsValidPlan (plan : Plan) : Type 0 where
  pub unicast : is_group plan.mac ≡ false
  pub per_port : IsWithin 1 64 plan.per_port
  pub depth : IsWithin 1 256 plan.depth
  pub entries : IsWithin 4131 1000000 plan.entries
  pub bytes : IsWithin 1518 1073741824 plan.bytes
  pub gap : IsWithin 1 59999 plan.gap
  pub test : IsWithin 2 60000 plan.test
  pub gap_first : plan.gap < plan.test
  pub life : IsSeconds 1 86400 plan.life
  -- from 1 to 16 ports, in rising order of number; that each number is from 1 to 16 is kept by the type of a port
  pub port_count : IsWithin 1 16 (length plan.ports)
  pub ports : IsStrictlyIncreasing (numbers_of plan.ports)
  pub port_vlans : All HasPlanVlans plan.ports
  -- over all ports
  pub vlan_count : length (vlans_of plan) ≤ 8
  -- at most 32 prefixes, in order; a prefix may be of a VLAN that no port has
  pub prefix_count : length plan.prefixes ≤ 32
  pub plan_prefixes : All IsPlanPrefix (nets_of plan.prefixes)
  pub prefix_vlans : All (λ p. IsVlan p.vlan) plan.prefixes
  pub prefixes : AllPairs StandsBefore plan.prefixes
