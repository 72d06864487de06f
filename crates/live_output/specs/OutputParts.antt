-- The parts of an output by its form: what stands in front of the first frame or probe, and the record of each.
use Rattle.std.specs.Prelude.{ℕ, Bool, true, false, List, [], ◌∷◌, ◌++◌}
use Rattle.savi_kinds.specs.declared.plan.Format.{Format}
use Rattle.savi_kinds.specs.declared.plan.Format.TheVariants.{Pcap, Stream}
use Rattle.pcap_io.specs.Captures as captures
use Rattle.stream_io.specs.Records as streams
use Rattle.savi_history.specs.Queues.{Item}

-- a capture has a header (the libpcap savefile format), a stream nothing
abbrev pub beginning : Format → List ℕ
beginning Pcap = captures.header_text
beginning Stream = []

-- what has to stand there yet, where the output was begun or not
abbrev pub beginning_left : Bool → Format → List ℕ
beginning_left true format = []
beginning_left false format = beginning format

-- in a capture an item stands with its moment, in a stream behind its length
abbrev pub record_of : Format → Item → List ℕ
record_of Pcap item = captures.record_text item.moment item.octets
record_of Stream item = streams.record_text item.octets

-- the records of items, one behind the other
abbrev pub records_of : Format → List Item → List ℕ
records_of format [] = []
records_of format (item ∷ items) = record_of format item ++ records_of format items
