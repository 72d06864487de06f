-- The journal's line of an entry: its number, the pass that made it, its moment, and what its act has.
use Rattle.std.specs.Prelude.{ℕ, ◌≡◌, ◌≤◌, List, [], ◌∷◌, length, codes, decimal, IsSome, IsNone}
use Rattle.hex.specs.Hex.{encode_lower}
use Rattle.savi_kinds.specs.declared.entry.Entry.{Entry}
use Rattle.savi_kinds.specs.declared.entry.Act.{Act}
use Rattle.savi_kinds.specs.declared.entry.Act.TheVariants.{Frame, Long, Tick, Command, Drain, End}
use Rattle.savi_kinds.specs.PortSets.{no_ports}
use Rattle.hist_store.specs.Rows.{Row}
use Rattle.hist_store.specs.TextOfLines.{joined, or_dash}
use Rattle.hist_store.specs.PortTexts.{port_text, members_text}
use Rattle.hist_store.specs.VerdictTexts.{entry_verdict_text}
use Rattle.hist_store.specs.EndTexts.{who_text, how_fields, IsReasonOf}

-- two lower-case hexadecimal digits for each octet, or `-` for none
abbrev pub hex_text : List ℕ → List ℕ
hex_text octets = or_dash (encode_lower octets)

-- how many probes were queued, and how many left out
abbrev pub probe_fields : Entry → List (List ℕ)
probe_fields entry = decimal entry.probes ∷ decimal entry.lost ∷ []

-- the act's letter and its fields
abbrev pub act_fields : Entry → List ℕ → Act → List (List ℕ)
act_fields entry octets (Frame port stamp at len) =
    codes "F" ∷ port_text port ∷ decimal stamp ∷ hex_text octets ∷ entry_verdict_text entry.verdict ∷ members_text entry.outs ∷ members_text entry.cuts ∷ probe_fields entry
act_fields entry octets (Long port stamp len) =
    codes "L" ∷ port_text port ∷ decimal stamp ∷ decimal len ∷ entry_verdict_text entry.verdict ∷ probe_fields entry
act_fields entry octets (Tick stamp) = codes "T" ∷ decimal stamp ∷ probe_fields entry
act_fields entry octets (Command stamp at len) = codes "C" ∷ decimal stamp ∷ hex_text octets ∷ probe_fields entry
act_fields entry octets (Drain port count) = codes "D" ∷ port_text port ∷ decimal count ∷ []
act_fields entry octets (End who how) = codes "E" ∷ who_text who ∷ how_fields how

abbrev pub line_fields : ℕ → Row → List (List ℕ)
line_fields n row = decimal n ∷ decimal row.entry.by ∷ decimal row.entry.moment ∷ act_fields row.entry row.octets row.entry.act

-- the line of the entry with this number, without its line feed
abbrev pub line_text : ℕ → Row → List ℕ
line_text n row = joined (line_fields n row)

-- no frame was queued, nor would have been
abbrev pub HasNoOuts : Entry → Type 0
HasNoOuts entry = (entry.outs ≡ no_ports) × (entry.cuts ≡ no_ports)

-- no probe was queued, nor left out
abbrev pub HasNoProbes : Entry → Type 0
HasNoProbes entry = (entry.probes ≡ 0) × (entry.lost ≡ 0)

-- the fields and octets that the line of an act lacks are empty, and those that it has are there
abbrev pub FitsAct : Entry → List ℕ → Act → Type 0
FitsAct entry octets (Frame port stamp at len) = IsSome entry.verdict × (length octets ≡ len) × (len ≤ 1518)
FitsAct entry octets (Long port stamp len) = IsSome entry.verdict × HasNoOuts entry × (octets ≡ [])
FitsAct entry octets (Tick stamp) = IsNone entry.verdict × HasNoOuts entry × (octets ≡ [])
FitsAct entry octets (Command stamp at len) = IsNone entry.verdict × HasNoOuts entry × (length octets ≡ len) × (len ≤ 120)
FitsAct entry octets (Drain port count) = IsNone entry.verdict × HasNoOuts entry × HasNoProbes entry × (octets ≡ [])
FitsAct entry octets (End who how) = IsNone entry.verdict × HasNoOuts entry × HasNoProbes entry × (octets ≡ []) × IsReasonOf who how

-- the row is all in its line, but for the place where its octets are kept
abbrev pub FitsLine : Row → Type 0
FitsLine row = FitsAct row.entry row.octets row.entry.act
