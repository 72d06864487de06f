use Rattle.std.proofs.Common.{◌≡◌, ℕ, ◌-◌, ◌*◌, ◌^◌, ◌≤◌, List, length}
use Rattle.savi_kinds.specs.Arrivals.{Arrival}
use Rattle.savi_ends.specs.Octets.{Takes}
use Rattle.pcap_io.specs.Kinds.{classic_kinds}
use Rattle.pcap_io.specs.Readers.{Fresh, HasRead, record_place}
use Rattle.capture_bench.proofs.count.Given as goal

-- What was taken so far are so many arrivals, of 16 octets at least.
abbrev pub invariant-loop-records : goal.invariant-loop-records
invariant-loop-records g l = record {
  read : (gave : List ℕ) × (arrivals : List Arrival) × Takes (g.S.Source.left l.fn.source) (g.S.Source.left l.source) gave × HasRead (Fresh classic_kinds) l.reader gave arrivals × (length arrivals ≡ l.records);
  least : 16 * l.records ≤ record_place l.reader;
  most : record_place l.reader ≤ 2 ^ 62;
}

abbrev pub decreases-loop-records : goal.decreases-loop-records
decreases-loop-records g l = 2 ^ 62 - record_place l.reader
