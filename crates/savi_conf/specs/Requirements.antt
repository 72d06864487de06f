-- What a configuration has to meet. Each fault is that one requirement isn't met.
use Rattle.std.specs.Prelude.{ℕ, ℤ, pos, ◌≤ℤ◌, ◌<ℤ◌, ◌≤◌, ◌<◌, ◌≡◌, ◌≢◌, Bool, true, false, List, [], ◌∷◌, map, length, codes, Option, Some, None, is_some, unwrap_or, IsSome, IfSome, IsSomeAnd, All, AllPairs, Contains}
use Rattle.toml.specs.Data.{Members}
use Rattle.savi_kinds.specs.declared.address.Mac.{Mac}
use Rattle.savi_kinds.specs.declared.plan.Format.TheVariants.{Stream}
use Rattle.savi_kinds.specs.declared.plan.Role.TheVariants.{Trusted}
use Rattle.savi_kinds.specs.declared.address.Prefix.{Prefix}
use Rattle.savi_kinds.specs.MacText.{IsMacText}
use Rattle.savi_kinds.specs.PrefixText.{IsPrefixText}
use Rattle.savi_kinds.specs.Prefixes.{AreApart}
use Rattle.savi_kinds.specs.Macs.{is_group}
use Rattle.savi_kinds.specs.ValidPlan.{IsPlanPrefix}
use Rattle.savi_conf.specs.declared.fault.Fault.{Fault}
use Rattle.savi_conf.specs.declared.fault.Fault.TheVariants.{UnknownKey, WrongKind, MissingKey, SwitchMac, SaviWord, NextHeaderWord, PerPort, Depth, Entries, Bytes, Times, PortCount, PortNumbers, RoleWord, FormatWord, PrefixTexts, PrefixRanges, MethodWord, StreamInReplay, VlanNumbers, TrunkRole, VlanCount}
use Rattle.savi_conf.specs.Documents.{text_at, text_or, integer_at, integer_or, integers_at, tables_at}
use Rattle.savi_conf.specs.Keys.{Keys, top_keys, port_keys, prefix_keys, HasOnly, HasKinds, HasRequired}
use Rattle.savi_kinds.specs.PlanWords.{role_word, method_word, format_word, savi_word, unknown_word}
use Rattle.savi_conf.specs.Words.{HasWord}
use Rattle.savi_conf.specs.Faults.{fault_number}

-- the tables of the ports, and those of the prefixes
abbrev pub port_tables : Members → List Members
port_tables document = tables_at (codes "port") document

abbrev pub prefix_tables : Members → List Members
prefix_tables document = tables_at (codes "prefix") document

-- an integer from the least to the most
abbrev pub IsBetween : ℕ → ℕ → ℤ → Type 0
IsBetween least most z = (pos least ≤ℤ z) × (z ≤ℤ pos most)

-- the text of a MAC address without the group bit (IEEE 802.3)
pub record IsSwitchMac (text : List ℕ) : Type 0 where
  pub mac : Mac
  pub spelled : IsMacText text mac
  pub unicast : is_group mac ≡ false

-- the requirement `Each` for the document, each port and each prefix, by their keys
pub record EachTable (Each : Keys → Members → Type 0) (document : Members) : Type 0 where
  pub top : Each top_keys document
  pub ports : All (Each port_keys) (port_tables document)
  pub prefixes : All (Each prefix_keys) (prefix_tables document)

-- `control` and `control_out` stand together
abbrev pub HasBothControls : Members → Type 0
HasBothControls document = is_some (text_at (codes "control") document) ≡ is_some (text_at (codes "control_out") document)

-- the limits
abbrev pub per_port_in : Members → ℤ
per_port_in document = integer_or (codes "per_port") (pos 32) document

abbrev pub depth_in : Members → ℤ
depth_in document = integer_or (codes "depth") (pos 256) document

abbrev pub entries_in : Members → ℤ
entries_in document = integer_or (codes "entries") (pos 262144) document

abbrev pub bytes_in : Members → ℤ
bytes_in document = integer_or (codes "bytes") (pos 67108864) document

-- the times in ms, and the life of a binding in s
abbrev pub gap_in : Members → ℤ
gap_in document = integer_or (codes "probe_gap_ms") (pos 250) document

abbrev pub test_in : Members → ℤ
test_in document = integer_or (codes "test_ms") (pos 500) document

abbrev pub life_in : Members → ℤ
life_in document = integer_or (codes "binding_s") (pos 300) document

pub record HasTimes (document : Members) : Type 0 where
  pub gap : IsBetween 1 59999 (gap_in document)
  pub test : IsBetween 2 60000 (test_in document)
  pub gap_first : gap_in document <ℤ test_in document
  pub life : IsBetween 1 86400 (life_in document)

-- the port's number
abbrev pub number_in : Members → Option ℤ
number_in port = integer_at (codes "number") port

pub record HasNumbers (ports : List Members) : Type 0 where
  pub range : All (λ port. IfSome (number_in port) (IsBetween 1 16)) ports
  pub different : AllPairs (λ p q. number_in p ≢ number_in q) ports

-- the number at `vlan`: of an access port, or of a prefix
abbrev pub vlan_in : Members → ℤ
vlan_in t = integer_or (codes "vlan") (pos 1) t

-- the numbers that a trunk lists, where the port is a trunk
abbrev pub trunk_in : Members → Option (List ℤ)
trunk_in port = integers_at (codes "trunk") port

-- the numbers of a port's VLANs
abbrev pub vlans_in : Members → List ℤ
vlans_in port = unwrap_or (trunk_in port) (vlan_in port ∷ [])

-- a port doesn't have both keys
pub record HasOneVlanKey (port : Members) : Type 0 where
  pub alone : IsSome (trunk_in port) → integer_at (codes "vlan") port ≡ None

-- numbers of VLANs (IEEE 802.1Q table 9-2), one or more, no two the same
pub record AreVlanNumbers (numbers : List ℤ) : Type 0 where
  pub some : 1 ≤ length numbers
  pub range : All (IsBetween 1 4094) numbers
  pub different : AllPairs (λ v w. v ≢ w) numbers

pub record HasVlanNumbers (document : Members) : Type 0 where
  pub keys : All HasOneVlanKey (port_tables document)
  pub ports : All AreVlanNumbers (map vlans_in (port_tables document))
  pub prefixes : All (λ t. IsBetween 1 4094 (vlan_in t)) (prefix_tables document)

-- a trunk is trusted
pub record HasTrunkRole (port : Members) : Type 0 where
  pub trusted : IsSome (trunk_in port) → text_at (codes "role") port ≡ Some (role_word Trusted)

-- the numbers of all ports are among 8
pub record AreFewVlans (numbers : List (List ℤ)) : Type 0 where
  pub vlans : List ℤ
  pub few : length vlans ≤ 8
  pub among : All (All (Contains vlans)) numbers

-- the table's text at `prefix` is that of this prefix
abbrev pub HasPrefix : Members → Prefix → Type 0
HasPrefix t p = IsSomeAnd (text_at (codes "prefix") t) (λ text. IsPrefixText text p)

-- the text of a prefix
pub record IsSomePrefix (text : List ℕ) : Type 0 where
  pub prefix : Prefix
  pub spelled : IsPrefixText text prefix

pub record HasPrefixTexts (prefixes : List Members) : Type 0 where
  pub count : length prefixes ≤ 32
  pub texts : All (λ t. IfSome (text_at (codes "prefix") t) IsSomePrefix) prefixes

-- the prefix of the table, where it has one, is one that a plan may name
pub record TellsPlanPrefix (t : Members) : Type 0 where
  pub each : (p : Prefix) → HasPrefix t p → IsPlanPrefix p

-- the prefixes of the tables, where both have one and are of one VLAN, have no address in common
pub record HaveApartRanges (t u : Members) : Type 0 where
  pub each : vlan_in t ≡ vlan_in u → (p q : Prefix) → HasPrefix t p → HasPrefix u q → AreApart p q

pub record HasPrefixRanges (prefixes : List Members) : Type 0 where
  pub planned : All TellsPlanPrefix prefixes
  pub apart : AllPairs HaveApartRanges prefixes

-- the word of `savi`, and that of `unknown`
abbrev pub savi_in : Members → List ℕ
savi_in document = text_or (codes "savi") (savi_word true) document

abbrev pub unknown_in : Members → List ℕ
unknown_in document = text_or (codes "unknown") (unknown_word true) document

-- what a document has to meet, so that it hasn't this fault; `replay` is the form of the command line
abbrev pub Meets : Bool → Members → Fault → Type 0
Meets replay document UnknownKey = EachTable HasOnly document
Meets replay document WrongKind = EachTable HasKinds document
Meets replay document MissingKey = EachTable HasRequired document × HasBothControls document
Meets replay document SwitchMac = IfSome (text_at (codes "mac") document) IsSwitchMac
Meets replay document SaviWord = HasWord (codes "savi") savi_word document
Meets replay document NextHeaderWord = HasWord (codes "unknown") unknown_word document
Meets replay document PerPort = IsBetween 1 64 (per_port_in document)
Meets replay document Depth = IsBetween 1 256 (depth_in document)
Meets replay document Entries = IsBetween 4131 1000000 (entries_in document)
Meets replay document Bytes = IsBetween 1518 1073741824 (bytes_in document)
Meets replay document Times = HasTimes document
Meets replay document PortCount = (1 ≤ length (port_tables document)) × (length (port_tables document) ≤ 16)
Meets replay document PortNumbers = HasNumbers (port_tables document)
Meets replay document RoleWord = All (HasWord (codes "role") role_word) (port_tables document)
Meets replay document FormatWord = All (HasWord (codes "format") format_word) (port_tables document)
Meets replay document PrefixTexts = HasPrefixTexts (prefix_tables document)
Meets replay document PrefixRanges = HasPrefixRanges (prefix_tables document)
Meets replay document MethodWord = All (HasWord (codes "method") method_word) (prefix_tables document)
Meets replay document StreamInReplay = replay ≡ true → All (λ port. text_at (codes "format") port ≢ Some (format_word Stream)) (port_tables document)
Meets replay document VlanNumbers = HasVlanNumbers document
Meets replay document TrunkRole = All HasTrunkRole (port_tables document)
Meets replay document VlanCount = AreFewVlans (map vlans_in (port_tables document))

-- the fault applies, and none with a lower number does
pub record IsFirstFault (replay : Bool) (document : Members) (fault : Fault) : Type 0 where
  pub applies : ¬ Meets replay document fault
  pub first : (other : Fault) → fault_number other < fault_number fault → Meets replay document other
