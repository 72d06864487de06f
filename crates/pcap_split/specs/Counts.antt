-- What a splitter has counted, with the interfaces of the outputs that it writes to.
use Rattle.std.specs.Prelude.{ℕ, ◌+◌, List, map}
use Rattle.pcap_split.specs.declared.counts.Counts.{Counts}
use Rattle.pcap_split.specs.declared.output.Output.{Output}
use Rattle.pcap_split.specs.Splits.{Tally}

-- the interfaces of outputs
abbrev pub interfaces_of : {K : Type 0} → List (Output K) → List ℕ
interfaces_of outputs = map (λ o. o.interface) outputs

abbrev pub tally_of : Counts → List ℕ → Tally
tally_of counts split = record { split = split; interfaces = counts.interfaces; frames = counts.frames; long = counts.long; skipped = counts.skipped }

-- how many interfaces and packets were counted
abbrev pub counted : Counts → ℕ
counted counts = counts.interfaces + counts.frames + counts.long + counts.skipped

abbrev pub no_counts : Counts
no_counts = record { interfaces = 0; frames = 0; long = 0; skipped = 0 }
