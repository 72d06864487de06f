-- The lines on standard error for the ends of a history that an operator has to know of: each end but an ordinary one has
-- its line, in the order of the history, and a pause has none.
use Rattle.std.specs.Prelude.{ℕ, List, [], ◌∷◌, ◌++◌, codes, decimal}
use Rattle.savi_kinds.specs.declared.entry.Who.{Who}
use Rattle.savi_kinds.specs.declared.entry.Who.TheVariants.{Ingress, Control, Ticker, Egress}
use Rattle.savi_kinds.specs.declared.entry.How.{How}
use Rattle.savi_kinds.specs.declared.entry.How.TheVariants as hows
use Rattle.savi_kinds.specs.Ports.{number_of}

-- where it was: at a port, at control or at the ticker
abbrev pub where_text : Who → List ℕ
where_text (Ingress p) = codes "port " ++ decimal (number_of p)
where_text Control = codes "control"
where_text Ticker = codes "ticker"
where_text (Egress p) = codes "port " ++ decimal (number_of p)

-- a source or a sink failed, by whose end it is
abbrev pub failed_text : Who → List ℕ
failed_text (Ingress p) = codes "read failed"
failed_text Control = codes "read failed"
failed_text Ticker = codes "read failed"
failed_text (Egress p) = codes "write failed"

-- a line of one end: where it was, a colon, a space and what happened
abbrev pub end_line_of : Who → List ℕ → List ℕ
end_line_of who what = where_text who ++ codes ": " ++ what ++ 10 ∷ []

-- the line of an end; an ordinary end, one by `quit`, and a pause have none
abbrev pub end_line : Who → How → List ℕ
end_line who hows.End = []
end_line who hows.Quit = []
end_line who (hows.Malformed at) = end_line_of who (codes "malformed at " ++ decimal at)
end_line who (hows.Overlong at) = end_line_of who (codes "overlong line at " ++ decimal at)
end_line who hows.Failed = end_line_of who (failed_text who)
end_line who hows.Unwritten = end_line_of who (codes "write failed")
end_line who hows.Paused = []

-- the lines of ends that are told, in order
abbrev pub told_lines : List (Who × How) → List ℕ
told_lines [] = []
told_lines (told ∷ ends) = end_line told.0 told.1 ++ told_lines ends
