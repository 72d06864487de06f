-- The plan that a document says.
use Rattle.std.specs.Prelude.{ℕ, pos, ◌*◌, ◌<◌, ◌≡◌, List, map, length, slice_index_or, codes, Some, None, option_map, IsSomeAnd, IsPermutation}
use Rattle.std.specs.List.Sorted.{IsStrictlyIncreasing}
use Rattle.toml.specs.Data.{Members}
use Rattle.savi_kinds.specs.declared.plan.Plan.{Plan}
use Rattle.savi_kinds.specs.declared.plan.PortPlan.{PortPlan}
use Rattle.savi_kinds.specs.declared.plan.PrefixPlan.{PrefixPlan}
use Rattle.savi_kinds.specs.declared.plan.Format.TheVariants.{Pcap}
use Rattle.savi_kinds.specs.declared.plan.Vlan.{Vlan}
use Rattle.savi_kinds.specs.declared.plan.Vlan.TheVariants.{Access, Trunk}
use Rattle.savi_kinds.specs.MacText.{IsMacText}
use Rattle.savi_kinds.specs.Ports.{number_of}
use Rattle.savi_conf.specs.Documents.{text_at, text_or}
use Rattle.savi_kinds.specs.PlanWords.{role_word, method_word, format_word, savi_word, unknown_word}
use Rattle.savi_conf.specs.Requirements.{port_tables, prefix_tables, number_in, vlan_in, trunk_in, savi_in, unknown_in, per_port_in, depth_in, entries_in, bytes_in, gap_in, test_in, life_in, HasPrefix}

-- the table says these VLANs: those that `trunk` lists, in rising order, or, without it, the one at `vlan`
abbrev pub SaysVlan : Members → Vlan → Type 0
SaysVlan t (Access v) = (trunk_in t ≡ None) × (vlan_in t ≡ pos v)
SaysVlan t (Trunk vs) =
    IsSomeAnd (trunk_in t) (λ numbers. IsPermutation numbers (map (λ v. pos v) vs.items)) × IsStrictlyIncreasing vs.items

-- the table says this port
pub record IsPortOf (t : Members) (port : PortPlan) : Type 0 where
  pub number : number_in t ≡ Some (pos (number_of port.number))
  pub role : text_at (codes "role") t ≡ Some (role_word port.role)
  pub format : text_or (codes "format") (format_word Pcap) t ≡ format_word port.format
  pub input : text_at (codes "input") t ≡ Some port.input
  pub output : text_at (codes "output") t ≡ Some port.output
  pub vlan : SaysVlan t port.vlan

-- the table says this prefix
pub record IsPrefixOf (t : Members) (prefix : PrefixPlan) : Type 0 where
  pub range : HasPrefix t prefix.prefix
  pub method : text_at (codes "method") t ≡ Some (method_word prefix.method)
  pub vlan : vlan_in t ≡ pos prefix.vlan

-- as many things as tables, and each table says the thing at its place
pub record SayInOrder {T A : Type 0} (Says : T → A → Type 0) (tables : List T) (things : List A) : Type 0 where
  pub count : length things ≡ length tables
  pub each : (k : ℕ) (t : T) (a : A) → k < length things → Says (slice_index_or tables k t) (slice_index_or things k a)

-- the things that the tables say, in whatever order
pub record Lists {A : Type 0} (Says : Members → A → Type 0) (tables : List Members) (things : List A) : Type 0 where
  pub said : List A
  pub in_order : SayInOrder Says tables said
  pub permutation : IsPermutation said things

-- the document says this plan; its order is that of every valid plan
pub record IsPlanOf (document : Members) (plan : Plan) : Type 0 where
  pub mac : IsSomeAnd (text_at (codes "mac") document) (λ text. IsMacText text plan.mac)
  pub savi : savi_in document ≡ savi_word plan.savi
  pub unknown : unknown_in document ≡ unknown_word plan.drop_unknown
  pub per_port : per_port_in document ≡ pos plan.per_port
  pub depth : depth_in document ≡ pos plan.depth
  pub entries : entries_in document ≡ pos plan.entries
  pub bytes : bytes_in document ≡ pos plan.bytes
  pub gap : gap_in document ≡ pos plan.gap
  pub test : test_in document ≡ pos plan.test
  -- the life of a binding is told in s and kept in ms
  pub life : (seconds : ℕ) × (life_in document ≡ pos seconds) × (plan.life ≡ 1000 * seconds)
  pub journal : text_at (codes "journal") document ≡ Some plan.journal
  pub control : text_at (codes "control") document ≡ option_map (λ names. names.0) plan.control
  pub control_out : text_at (codes "control_out") document ≡ option_map (λ names. names.1) plan.control
  pub ports : Lists IsPortOf (port_tables document) plan.ports
  pub prefixes : Lists IsPrefixOf (prefix_tables document) plan.prefixes
