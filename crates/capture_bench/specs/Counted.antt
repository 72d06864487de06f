-- How many records a capture has.
use Rattle.std.specs.Prelude.{◌≡◌, ℕ, true, List, length, Some}
use Rattle.savi_kinds.specs.declared.arrival.Next.{Next}
use Rattle.savi_kinds.specs.Arrivals.{Input}
use Rattle.pcap_io.specs.Kinds.{classic_kinds}
use Rattle.pcap_io.specs.Runs.{Arrive}
use Rattle.pcap_io.specs.Readers.{answer_of}

-- these octets are an input of so many arrivals, and this answer tells how it ends
abbrev pub IsCounted : List ℕ → ℕ → Next → Type 0
IsCounted octets records answer =
    (input : Input) × Arrive classic_kinds true octets input × (length input.arrivals ≡ records) × (answer_of input.ending ≡ Some answer)
