-- What goes from control's input to who answers it: its lines, and last how it ended.
use Rattle.std.specs.Prelude.{List, [], ◌∷◌, ◌++◌, map}
use Rattle.savi_kinds.specs.declared.entry.How.{How}
use Rattle.savi_kinds.specs.declared.entry.How.TheVariants as hows
use Rattle.cli_lang.specs.Arrivals.{Line}
use Rattle.intake_ring.specs.Sides.{put_of, taken_of}
use Rattle.intake_ring.specs.declared.filler.Filler.{Filler}
use Rattle.intake_ring.specs.declared.taker.Taker.{Taker}
use Rattle.control_reader.specs.declared.arrival.LineArrival.{LineArrival}
use Rattle.control_reader.specs.declared.arrival.LineArrival.TheVariants as arrivals
use Rattle.control_reader.specs.declared.arrival.LinesEnd.{LinesEnd}
use Rattle.control_reader.specs.declared.arrival.LinesEnd.TheVariants as ends

pub data HeardLine : Type 0 where
  -- a line of the input
  Said : (line : Line) → HeardLine
  -- the input ended so
  Ended : (how : How) → HeardLine

abbrev pub reason_of : LinesEnd → How
reason_of ends.End = hows.End
reason_of (ends.Malformed at) = hows.Malformed at
reason_of (ends.Overlong at) = hows.Overlong at
reason_of ends.Failed = hows.Failed

abbrev pub line_heard_of : LineArrival → HeardLine
line_heard_of (arrivals.Line stamp octets) = Said (record { stamp = stamp; command = octets.items })
line_heard_of (arrivals.End how) = Ended (reason_of how)

abbrev pub all_heard : List LineArrival → List HeardLine
all_heard came = map line_heard_of came

-- all that was put into a ring so far, and all that was taken, in order
abbrev pub lines_put : Filler LineArrival → List HeardLine
lines_put filler = all_heard (put_of filler)

abbrev pub lines_taken : Taker LineArrival → List HeardLine
lines_taken taker = all_heard (taken_of taker)

abbrev pub all_said : List Line → List HeardLine
all_said lines = map (λ line. Said line) lines

-- all that comes of control's input: its lines, and last how it ended; behind `quit` nothing comes
abbrev pub whole_lines : List Line → How → List HeardLine
whole_lines lines hows.Quit = all_said lines
whole_lines lines hows.End = all_said lines ++ Ended hows.End ∷ []
whole_lines lines (hows.Malformed at) = all_said lines ++ Ended (hows.Malformed at) ∷ []
whole_lines lines (hows.Overlong at) = all_said lines ++ Ended (hows.Overlong at) ∷ []
whole_lines lines hows.Failed = all_said lines ++ Ended hows.Failed ∷ []
whole_lines lines hows.Unwritten = all_said lines ++ Ended hows.Unwritten ∷ []
whole_lines lines hows.Paused = all_said lines ++ Ended hows.Paused ∷ []
