-- What the parts of a record say of the octets that were taken for them.
use Rattle.std.specs.Prelude.{◌≡◌, ℕ, ◌+◌, ◌<◌, List, length, Option, Contains}
use Rattle.savi_ends.specs.declared.filling.Filled.{Filled}
use Rattle.savi_ends.specs.declared.filling.Filled.TheVariants as filled
use Rattle.savi_ends.specs.Octets.{NothingLeft}
use Rattle.savi_kinds.specs.declared.entry.How.TheVariants as how
use Rattle.savi_kinds.specs.declared.arrival.Next.{Next}
use Rattle.savi_kinds.specs.declared.arrival.Next.TheVariants as next
use Rattle.pcap_io.specs.declared.kind.HeaderKind.{HeaderKind}
use Rattle.pcap_io.specs.declared.header.Header.{Header}
use Rattle.pcap_io.specs.declared.header.Header.TheVariants as header
use Rattle.pcap_io.specs.Kinds.{IsHeader}
use Rattle.pcap_io.specs.Readers.{State, Fresh, Running, Ended, HasEnded, HasFailed}

-- so many octets were passed over, or those that were left are fewer, or the read of the rest failed
abbrev pub Passes : Filled → ℕ → List ℕ → Option (List ℕ) → Type 0
Passes filled.Whole len gave left = length gave ≡ len
Passes (filled.Short n) len gave left = (length gave < len) × NothingLeft left
Passes filled.Failed len gave left = length gave < len

-- where a reader stands after an answer to the record at this place
abbrev pub state_after : HeaderKind → ℕ → Next → State
state_after kind place (next.Frame stamp len) = Running kind (place + (16 + len))
state_after kind place (next.Long stamp len) = Running kind (place + (16 + len))
state_after kind place next.End = Ended how.End
state_after kind place (next.Malformed at) = Ended (how.Malformed at)
state_after kind place next.Failed = Ended how.Failed

-- a header of one of these kinds was read, or there is none, or the read of it failed
abbrev pub HeaderIs : List HeaderKind → Header → List ℕ → Option (List ℕ) → Type 0
HeaderIs kinds (header.Of kind) gave left = Contains kinds kind × IsHeader kind gave
HeaderIs kinds header.Malformed gave left = HasEnded (Fresh kinds) (Ended (how.Malformed 0)) gave left (how.Malformed 0)
HeaderIs kinds header.Failed gave left = HasFailed (Fresh kinds) (Ended how.Failed) gave
