-- The lines that a header has behind those of the settings: ports, prefixes and `begin`. Which may come next, and what came
-- of taking one.
use Rattle.std.specs.Prelude.{◌≡◌, ◌≢◌, ◌+◌, ◌-◌, ◌<◌, ◌≤◌, ℕ, None, List, [], ◌∷◌, ◌++◌, length, map, All, AllPairs, slice_index_or}
use Rattle.std.specs.List.Sorted.{IsStrictlyIncreasing}
use Rattle.savi_kinds.specs.declared.plan.Plan.{Plan}
use Rattle.savi_kinds.specs.declared.plan.PortPlan.{PortPlan}
use Rattle.savi_kinds.specs.declared.plan.PrefixPlan.{PrefixPlan}
use Rattle.savi_kinds.specs.declared.plan.Role.{Role}
use Rattle.savi_kinds.specs.declared.plan.Format.{Format}
use Rattle.savi_kinds.specs.declared.plan.Vlan.{Vlan}
use Rattle.savi_kinds.specs.declared.port.Port.{Port}
use Rattle.savi_kinds.specs.Ports.{number_of}
use Rattle.savi_kinds.specs.Prefixes.{first_of}
use Rattle.savi_kinds.specs.ValidPlan.{HasPlanVlans, IsPlanPrefix, StandsBefore, nets_of, numbers_of}
use Rattle.savi_kinds.specs.Vlans.{IsVlan, vlans_of_ports}
use Rattle.hist_store.specs.TextOfLines.{joined}
use Rattle.hist_store.specs.HeaderLines.{IsAbove}
use Rattle.hist_store.specs.JournalTexts.{address_text, begin_line, journal_port_fields, prefix_fields}
use Rattle.savi_history.specs.Journals.{IsAddress, without_port_names}
use Rattle.journal_check.specs.declared.settings.Settings.{Settings}
use Rattle.journal_check.specs.declared.lists.Listed.{Listed}
use Rattle.journal_check.specs.declared.lists.Listed.TheVariants as listed
use Rattle.journal_check.specs.declared.lists.Added.{Added}
use Rattle.journal_check.specs.declared.lists.Added.TheVariants as added
use Rattle.journal_check.specs.Headers.{LineFields}

-- the lines of ports and of prefixes
abbrev pub list_lines : List PortPlan → List PrefixPlan → List LineFields
list_lines ports prefixes = map journal_port_fields ports ++ map (prefix_fields address_text) prefixes

-- a port without names
abbrev pub port_by : Port → Role → Format → Vlan → PortPlan
port_by port role format vlan = record { number = port; role = role; format = format; input = []; output = []; vlan = vlan }

-- the plan of settings, ports and prefixes, without names
abbrev pub plan_by : Settings → List PortPlan → List PrefixPlan → Plan
plan_by settings ports prefixes = record {
  mac = settings.mac;
  savi = settings.savi;
  drop_unknown = settings.drop_unknown;
  per_port = settings.per_port;
  depth = settings.depth;
  entries = settings.entries;
  bytes = settings.bytes;
  gap = settings.gap;
  test = settings.test;
  life = settings.life;
  control = None;
  journal = [];
  ports = ports;
  prefixes = prefixes;
}

-- the prefix stands behind the last one, if there is one
abbrev pub IsBehindLast : List PrefixPlan → PrefixPlan → Type 0
IsBehindLast prefixes next = (d : PrefixPlan) → 0 < length prefixes → StandsBefore (slice_index_or prefixes (length prefixes - 1) d) next

-- ports and prefixes with which a plan may begin, without names
pub record AreLists (ports : List PortPlan) (prefixes : List PrefixPlan) : Type 0 where
  pub port_count : length ports ≤ 16
  pub ports_rise : IsStrictlyIncreasing (numbers_of ports)
  pub port_vlans : All HasPlanVlans ports
  pub vlan_count : length (vlans_of_ports ports) ≤ 8
  pub nameless : map without_port_names ports ≡ ports
  pub prefix_count : length prefixes ≤ 32
  pub behind_port : 0 < length prefixes → 0 < length ports
  pub plan_prefixes : All IsPlanPrefix (nets_of prefixes)
  pub prefix_vlans : All (λ p. IsVlan p.vlan) prefixes
  pub prefixes_part : AllPairs StandsBefore prefixes
  pub addresses : All (λ net. IsAddress (first_of net)) (nets_of prefixes)

-- the line of this port may come next
pub record MayAddPort (ports : List PortPlan) (prefixes : List PrefixPlan) (next : PortPlan) : Type 0 where
  pub few : length ports < 16
  pub no_prefix : prefixes ≡ []
  pub above : IsAbove (numbers_of ports) (number_of next.number)
  pub vlans : HasPlanVlans next
  -- over all ports
  pub vlan_count : length (vlans_of_ports (ports ++ next ∷ [])) ≤ 8

-- the line of this prefix may come next
pub record MayAddPrefix (ports : List PortPlan) (prefixes : List PrefixPlan) (next : PrefixPlan) : Type 0 where
  pub some_port : 0 < length ports
  pub few : length prefixes < 32
  pub plan_prefix : IsPlanPrefix next.prefix
  pub address : IsAddress (first_of next.prefix)
  pub vlan : IsVlan next.vlan
  pub past : IsBehindLast prefixes next

-- the line is none that may come next
pub record IsNotListed (ports : List PortPlan) (prefixes : List PrefixPlan) (line : List ℕ) : Type 0 where
  pub port : (next : PortPlan) → MayAddPort ports prefixes next → line ≢ joined (journal_port_fields next)
  pub prefix : (next : PrefixPlan) → MayAddPrefix ports prefixes next → line ≢ joined (prefix_fields address_text next)
  pub begin : 0 < length ports → line ≢ joined begin_line

-- what the line says behind these ports and prefixes
abbrev pub SaysListed : Listed → List PortPlan → List PrefixPlan → List ℕ → Type 0
SaysListed (listed.Port port role format vlan) ports prefixes line =
    MayAddPort ports prefixes (port_by port role format vlan) × (line ≡ joined (journal_port_fields (port_by port role format vlan)))
SaysListed (listed.Prefix next) ports prefixes line = MayAddPrefix ports prefixes next × (line ≡ joined (prefix_fields address_text next))
SaysListed listed.Begin ports prefixes line = (0 < length ports) × (line ≡ joined begin_line)
SaysListed listed.Bad ports prefixes line = IsNotListed ports prefixes line

-- the line was added behind those of the ports and prefixes before
pub record IsListed (line : List ℕ) (ports : List PortPlan) (prefixes : List PrefixPlan) (ports' : List PortPlan) (prefixes' : List PrefixPlan) : Type 0 where
  pub lists : AreLists ports' prefixes'
  pub next : LineFields
  pub one_more : list_lines ports' prefixes' ≡ list_lines ports prefixes ++ next ∷ []
  pub count : length ports' + length prefixes' ≡ length ports + length prefixes + 1
  pub text : line ≡ joined next

-- the line was added; or it is `begin`; or it is none that may come next
abbrev pub Adds : Added → List ℕ → List PortPlan → List PrefixPlan → List PortPlan → List PrefixPlan → Type 0
Adds added.Line line ports prefixes ports' prefixes' = IsListed line ports prefixes ports' prefixes'
Adds added.Begin line ports prefixes ports' prefixes' =
    (0 < length ports) × (line ≡ joined begin_line) × (ports' ≡ ports) × (prefixes' ≡ prefixes)
Adds added.Bad line ports prefixes ports' prefixes' = IsNotListed ports prefixes line × (ports' ≡ ports) × (prefixes' ≡ prefixes)
