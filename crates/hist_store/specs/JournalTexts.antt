-- The journal: what the plan is, then the segments of the history. A segment has the lines of what it goes on from, of which
-- the first one has none, then a line for each of its entries, numbered from 0, and how many there are.
use Rattle.std.specs.Prelude.{ℕ, ◌+◌, ◌≡◌, ◌⊎◌, Bool, List, [], ◌∷◌, ◌++◌, length, map, codes, decimal}
use Rattle.savi_kinds.specs.declared.plan.Plan.{Plan}
use Rattle.savi_kinds.specs.declared.plan.PortPlan.{PortPlan}
use Rattle.savi_kinds.specs.declared.plan.PrefixPlan.{PrefixPlan}
use Rattle.savi_kinds.specs.declared.plan.Role.{Role}
use Rattle.savi_kinds.specs.declared.plan.Format.{Format}
use Rattle.savi_kinds.specs.declared.plan.Vlan.{Vlan}
use Rattle.savi_kinds.specs.declared.port.Port.{Port}
use Rattle.savi_kinds.specs.declared.address.Mac.{Mac}
use Rattle.savi_kinds.specs.declared.address.Prefix.{Prefix}
use Rattle.savi_kinds.specs.PlanWords.{role_word, method_word, format_word, savi_word, unknown_word}
use Rattle.savi_kinds.specs.MacText.{mac_text}
use Rattle.savi_kinds.specs.AddrText.{addr_text}
use Rattle.hist_store.specs.declared.version.Version.{Version}
use Rattle.hist_store.specs.declared.version.Version.TheVariants as versions
use Rattle.hist_store.specs.Rows.{Row}
use Rattle.hist_store.specs.TextOfLines.{lines_text}
use Rattle.hist_store.specs.PortTexts.{port_text}
use Rattle.hist_store.specs.VlanTexts.{port_vlan_fields, vlan_fields}
use Rattle.hist_store.specs.LineTexts.{line_fields}

-- The text of an address of 128 bits that is written (RFC 5952). What follows has the text of addresses as an argument:
-- nothing in it depends on which text it is.
abbrev pub address_text : ℕ → List ℕ
address_text address = addr_text (record { 0 = address })

-- the address in its text, '/', and how many bits
abbrev pub prefix_text_by : (ℕ → List ℕ) → Prefix → List ℕ
prefix_text_by text_of prefix = text_of prefix.net.0 ++ codes "/" ++ decimal prefix.len

-- the line of a port of this role and format, with its VLANs
abbrev pub journal_port_line : Port → Role → Format → Vlan → List (List ℕ)
journal_port_line port role format vlan = codes "port" ∷ port_text port ∷ role_word role ∷ format_word format ∷ port_vlan_fields vlan

abbrev pub journal_port_fields : PortPlan → List (List ℕ)
journal_port_fields port = journal_port_line port.number port.role port.format port.vlan

-- the line of a prefix whose addresses are validated by a method, in a VLAN
abbrev pub prefix_fields : (ℕ → List ℕ) → PrefixPlan → List (List ℕ)
prefix_fields text_of plan = codes "prefix" ∷ prefix_text_by text_of plan.prefix ∷ method_word plan.method ∷ vlan_fields plan.vlan

-- a setting's name and its number
abbrev pub setting : List ℕ → ℕ → List (List ℕ)
setting name value = name ∷ decimal value ∷ []

abbrev pub version_word : Version → List ℕ
version_word versions.One = codes "1"
version_word versions.Two = codes "2"

-- the version of this text
abbrev pub version_line : Version → List (List ℕ)
version_line version = codes "savi-journal" ∷ version_word version ∷ []

-- the switch's own address
abbrev pub mac_line : Mac → List (List ℕ)
mac_line mac = codes "mac" ∷ mac_text mac ∷ []

-- whether source addresses are validated
abbrev pub savi_line : Bool → List (List ℕ)
savi_line savi = codes "savi" ∷ savi_word savi ∷ []

-- whether packets with an unknown next header are dropped
abbrev pub unknown_line : Bool → List (List ℕ)
unknown_line drop_unknown = codes "unknown" ∷ unknown_word drop_unknown ∷ []

abbrev pub word_lines : Version → Plan → List (List (List ℕ))
word_lines version plan = version_line version ∷ mac_line plan.mac ∷ savi_line plan.savi ∷ unknown_line plan.drop_unknown ∷ []

abbrev pub limit_lines : Plan → List (List (List ℕ))
limit_lines plan =
    setting (codes "per_port") plan.per_port
    ∷ setting (codes "depth") plan.depth
    ∷ setting (codes "entries") plan.entries
    ∷ setting (codes "bytes") plan.bytes
    ∷ []

-- in ms
abbrev pub time_lines : Plan → List (List (List ℕ))
time_lines plan =
    setting (codes "gap") plan.gap
    ∷ setting (codes "test") plan.test
    ∷ setting (codes "binding") plan.life
    ∷ []

-- the version, the settings, the ports and the prefixes
abbrev pub header_lines : Version → (ℕ → List ℕ) → Plan → List (List (List ℕ))
header_lines version text_of plan = word_lines version plan ++ limit_lines plan ++ time_lines plan ++ map journal_port_fields plan.ports ++ map (prefix_fields text_of) plan.prefixes

-- behind this line the entries of a segment stand
abbrev pub begin_line : List (List ℕ)
begin_line = codes "begin" ∷ []

-- the lines of the entries, the first of which has this number
abbrev pub entry_lines : ℕ → List Row → List (List (List ℕ))
entry_lines n [] = []
entry_lines n (row ∷ rows) = line_fields n row ∷ entry_lines (n + 1) rows

-- how many entries the segment has
abbrev pub journal_end_line : ℕ → List (List ℕ)
journal_end_line count = setting (codes "end") count

-- A segment of a history: the lines that say what it goes on from, and its rows, the oldest first. What the lines say is for
-- those to define who know what a history may go on from.
pub record Segment : Type 0 where
  pub base_lines : List (List (List ℕ))
  pub rows : List Row

abbrev pub segment_lines : Segment → List (List (List ℕ))
segment_lines segment = segment.base_lines ++ begin_line ∷ (entry_lines 0 segment.rows ++ journal_end_line (length segment.rows) ∷ [])

-- the lines of these segments, the oldest first
abbrev pub segments_lines : List Segment → List (List (List ℕ))
segments_lines [] = []
segments_lines (segment ∷ later) = segment_lines segment ++ segments_lines later

-- The texts, each line with its line feed.

abbrev pub journal_header_text : (ℕ → List ℕ) → Plan → List ℕ
journal_header_text text_of plan = lines_text (header_lines versions.Two text_of plan)

abbrev pub journal_begin_text : List ℕ
journal_begin_text = lines_text (begin_line ∷ [])

abbrev pub journal_end_text : ℕ → List ℕ
journal_end_text count = lines_text (journal_end_line count ∷ [])

-- the journal of these segments, the oldest first, in a version of the text
abbrev pub journal_text_of : Version → (ℕ → List ℕ) → Plan → List Segment → List ℕ
journal_text_of version text_of plan segments = lines_text (header_lines version text_of plan ++ segments_lines segments)

-- the same as it is written
abbrev pub journal_text : (ℕ → List ℕ) → Plan → List Segment → List ℕ
journal_text text_of plan segments = journal_text_of versions.Two text_of plan segments

-- The text stands for the plan and these segments: it is their journal, or, of one segment, a text of version 1.
abbrev pub StandsFor : (ℕ → List ℕ) → Plan → List Segment → List ℕ → Type 0
StandsFor text_of plan segments text =
    (text ≡ journal_text text_of plan segments) ⊎ ((length segments ≡ 1) × (text ≡ journal_text_of versions.One text_of plan segments))
