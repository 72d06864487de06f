-- What the frames of a whole capture stand for.
use Rattle.std.specs.Prelude.{List, map}
use Rattle.savi_kinds.specs.declared.entry.How.TheVariants as how
use Rattle.savi_kinds.specs.Arrivals as arrivals
use Rattle.savi_kinds.specs.Arrivals.{Arrival, Input}
use Rattle.capture_reads.specs.declared.capture.Frame.{Frame}

-- a frame as an arrival
abbrev pub arrival_of : Frame → Arrival
arrival_of frame = arrivals.Frame frame.stamp frame.octets.items

-- these frames, and nothing else until the end
abbrev pub input_of : List Frame → Input
input_of frames = record { arrivals = map arrival_of frames; ending = how.End }
