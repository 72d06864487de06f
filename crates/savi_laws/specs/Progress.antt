-- Whether a history goes on: entries that don't only make room.
use Rattle.std.specs.Prelude.{Bool, true, false, not, List}
use Rattle.std.specs.List.{list_any}
use Rattle.savi_kinds.specs.declared.entry.Act.{Act}
use Rattle.savi_kinds.specs.declared.entry.Act.TheVariants.{Frame, Long, Tick, Command, Drain, End}
use Rattle.hist_store.specs.Rows.{Row}
use Rattle.savi_history.specs.Endings.{is_paused_reason}

-- an entry with a stamp, or an end that is no pause
abbrev pub is_step : Act → Bool
is_step (Frame port stamp at len) = true
is_step (Long port stamp len) = true
is_step (Tick stamp) = true
is_step (Command stamp at len) = true
is_step (Drain port count) = false
is_step (End who how) = not (is_paused_reason how)

-- a history has one
abbrev pub has_step : List Row → Bool
has_step past = list_any (λ r. is_step r.entry.act) past
