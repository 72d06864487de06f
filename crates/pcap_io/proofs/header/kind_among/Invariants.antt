use Rattle.std.proofs.Common.{ℕ, ◌<◌, get_or}
use Rattle.pcap_io.specs.declared.kind.HeaderKind.{HeaderKind}
use Rattle.pcap_io.specs.Kinds.{IsHeader}
use Rattle.pcap_io.proofs.header.kind_among.Given as goal

-- the header is of none of the kinds so far
abbrev pub invariant-loop-kind : goal.invariant-loop-kind
invariant-loop-kind l = (k : ℕ) (d : HeaderKind) → k < l.kind-index → IsHeader (get_or l.kinds k d) l.header → ⊥
