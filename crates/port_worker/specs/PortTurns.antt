-- The turn of a port as it is told to one that keeps no history, and what is known of the input behind it.
use Rattle.std.specs.Prelude.{◌≤◌, length}
use Rattle.savi_kinds.specs.declared.port.Port.{Port}
use Rattle.savi_kinds.specs.declared.entry.Who.TheVariants.{Ingress}
use Rattle.savi_kinds.specs.Arrivals as arrivals
use Rattle.savi_history.specs.Turns.{Turn, Arrives, Ends}
use Rattle.port_worker.specs.declared.port_ends.Ahead.{Ahead}
use Rattle.port_worker.specs.declared.port_ends.Ahead.TheVariants as ahead
use Rattle.port_worker.specs.declared.port_ends.PortTurn.{PortTurn}
use Rattle.port_worker.specs.declared.port_ends.PortTurn.TheVariants as told

-- the turn of a port that was told so
abbrev pub turn_told : Port → PortTurn → Turn
turn_told port (told.Frame stamp octets) = Arrives port (arrivals.Frame stamp octets.now)
turn_told port (told.Long stamp len) = Arrives port (arrivals.Long stamp len)
turn_told port (told.Ends how) = Ends (Ingress port) how

-- a frame has at most 1,518 octets
abbrev pub IsShortTurn : PortTurn → Type 0
IsShortTurn (told.Frame stamp octets) = length octets.now ≤ 1518
IsShortTurn (told.Long stamp len) = Unit {0}
IsShortTurn (told.Ends how) = Unit {0}

-- behind an arrival what comes next isn't known, and behind the end nothing comes
abbrev pub ahead_passed : Ahead → Ahead
ahead_passed ahead.Unread = ahead.Unread
ahead_passed (ahead.Frame stamp len) = ahead.Unread
ahead_passed (ahead.Long stamp len) = ahead.Unread
ahead_passed ahead.End = ahead.Done
ahead_passed (ahead.Malformed at) = ahead.Done
ahead_passed ahead.Failed = ahead.Done
ahead_passed ahead.Done = ahead.Done
