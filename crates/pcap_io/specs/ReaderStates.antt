-- How contracts see what a reader keeps.
use Rattle.std.specs.Prelude.{List, [], ◌∷◌, Option, Some, None}
use Rattle.savi_kinds.specs.declared.entry.How.TheVariants as how
use Rattle.pcap_io.specs.declared.kind.HeaderKind.{HeaderKind}
use Rattle.pcap_io.specs.declared.reader.State.{State as Kept}
use Rattle.pcap_io.specs.declared.reader.State.TheVariants as kept
use Rattle.pcap_io.specs.Kinds.{classic_kinds}
use Rattle.pcap_io.specs.Readers.{State, Fresh, Running, Ended}

-- the kinds of header that are accepted: all, or only one
abbrev pub kinds_of : Option HeaderKind → List HeaderKind
kinds_of None = classic_kinds
kinds_of (Some kind) = kind ∷ []

abbrev pub state_of : Kept → State
state_of (kept.Fresh only) = Fresh (kinds_of only)
state_of (kept.Running kind place) = Running kind place
state_of kept.End = Ended how.End
state_of (kept.Malformed at) = Ended (how.Malformed at)
state_of kept.Failed = Ended how.Failed
