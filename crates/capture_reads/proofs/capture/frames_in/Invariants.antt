use Rattle.std.proofs.Common.{List, ℕ, Some, length, map}
use Rattle.savi_ends.specs.Octets.{Takes}
use Rattle.savi_ends.specs.MemSources.{sure_left}
use Rattle.pcap_io.specs.Kinds.{classic_kinds}
use Rattle.pcap_io.specs.Readers.{Fresh, HasRead}
use Rattle.capture_reads.specs.Frames.{arrival_of}
use Rattle.capture_reads.proofs.capture.frames_in.Given as goal

-- what was taken so far are the frames so far
abbrev pub invariant-loop-stamp : goal.invariant-loop-stamp
invariant-loop-stamp l =
    (gave : List ℕ) × Takes (Some l.fn.octets.items) (Some (sure_left l.source)) gave
    × HasRead (Fresh classic_kinds) l.reader gave (map arrival_of l.frames.items)

abbrev pub decreases-loop-stamp : goal.decreases-loop-stamp
decreases-loop-stamp l = length (sure_left l.source)
