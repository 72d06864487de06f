-- Segments as one history that never paused: their rows one behind the other, without those that pause a pass. What an input
-- gave and how a pass ended is read there.
use Rattle.std.specs.Prelude.{not, List}
use Rattle.std.specs.List.{filter}
use Rattle.hist_store.specs.Rows.{Row}
use Rattle.savi_history.specs.Endings.{is_paused_end}
use Rattle.savi_segments.specs.Segments.{joined}

-- the rows, but for pauses
abbrev pub without_pauses : List Row → List Row
without_pauses rows = filter (λ r. not (is_paused_end r.entry.act)) rows

-- the newest row first
abbrev pub unbroken : List (List Row) → List Row
unbroken segments = without_pauses (joined segments)
